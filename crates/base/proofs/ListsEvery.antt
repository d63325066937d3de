-- A rule at each number below a bound, by one test that antt computes.
use mathlib.Core.Path.{◌≡◌, refl, sym, subst}
use mathlib.Core.Bool.{Bool, true, false, ◌&&◌}
use Prim.Native.Nat.{ℕ, zero, suc, ◌<◌}
use native.Mathlib.Decide.{ℕ_discrete}
use native.Mathlib.Omega.{arith}
use lib.Dec.{T}
use Rattle.base.proofs.Bool.{and→}

-- the test passes at each number below n
abbrev pub up_to : (ℕ → Bool) → ℕ → Bool
up_to f zero = true
up_to f (suc n) = f n && up_to f n

pub up_to_at : (f : ℕ → Bool) (n : ℕ) → T (up_to f n) → (k : ℕ) → k < n → T (f k)
up_to_at f zero t k h = absurd (omega arith)
up_to_at f (suc n) t k h = go (ℕ_discrete k n) (up_to_at f n (and→ (f n) (up_to f n) t).1 k)
  where
    go : Dec (k ≡ n) → (k < n → T (f k)) → T (f k)
    go (yes e) r = subst (λ (m : ℕ). T (f m)) (sym e) (and→ (f n) (up_to f n) t).0
    go (no q) r = r (omega arith)

abbrev pub same_b : Bool → Bool → Bool
same_b true b = b
same_b false true = false
same_b false false = true

pub same_b_eq : (a b : Bool) → T (same_b a b) → a ≡ b
same_b_eq true true t = refl
same_b_eq true false t = absurd t
same_b_eq false true t = absurd t
same_b_eq false false t = refl

-- two Bools agree at each number below n
pub same_below : (f g : ℕ → Bool) (n : ℕ) → T (up_to (λ k. same_b (f k) (g k)) n) → (k : ℕ) → k < n → f k ≡ g k
same_below f g n t k h = same_b_eq (f k) (g k) (up_to_at (λ k. same_b (f k) (g k)) n t k h)
