-- Two signed words are the same number where their bits are.
use mathlib.Core.Path.{◌≡◌, refl, sym, ◌∙◌}
use mathlib.Core.Bool.{Bool, true, false}
use Prim.Native.Nat.{ℕ, suc, ◌-◌, ◌^◌}
use native.Mathlib.Omega.{arith}
use lib.Dec.{eqb}
use lib.IntN.{ℤ, pos, negsuc}
use mir.Syntax.{w64}
use mir.Val.{SFits, of_z}
use borrow.Author.Tests.{eq-eqb, ne_eqb, eqb-true, eqb-false}
use Rattle.replay_eval.specs.Records.{same_integer}

-- two tests of which each passes where the other does
same_tests : (a b c d : ℕ) → (a ≡ b → c ≡ d) → (c ≡ d → a ≡ b) → eqb a b ≡ eqb c d
same_tests a b c d f g = by_test (eqb a b) refl
  where
    by_test : (t : Bool) → eqb a b ≡ t → eqb a b ≡ eqb c d
    by_test true e = e ∙ sym (eq-eqb c d (f (eqb-true a b e)))
    by_test false e = e ∙ sym (ne_eqb c d (λ q. eqb-false a b e (g q)))

pub same_bits : (a b : ℤ) → SFits w64 a → SFits w64 b → eqb (of_z w64 a) (of_z w64 b) ≡ same_integer a b
same_bits (pos m) (pos n) h k = refl
same_bits (pos m) (negsuc n) h k = ne_eqb m (2 ^ 64 - suc n) (λ q. omega (arith, h.sfits, k.sfits))
same_bits (negsuc m) (pos n) h k = ne_eqb (2 ^ 64 - suc m) n (λ q. omega (arith, h.sfits, k.sfits))
same_bits (negsuc m) (negsuc n) h k =
    same_tests (2 ^ 64 - suc m) (2 ^ 64 - suc n) m n (λ q. omega (arith, h.sfits, k.sfits)) (λ q. omega (arith, h.sfits, k.sfits))
