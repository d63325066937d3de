-- Laws of tests, and laws of n Booleans that are computed.
use mathlib.Core.Path.{◌≡◌, refl}
use mathlib.Core.Bool.{Bool, true, false, not, ◌||◌, ◌&&◌}
use mathlib.Core.Logic.{◌⊎◌, inl, inr}
use Prim.Native.Nat.{ℕ, zero, suc}
use lib.Dec.{T}

pub and→ : (a b : Bool) → T (a && b) → T a × T b
and→ true b t = (tt, t)
and→ false b t = absurd t

pub →and : (a b : Bool) → T a → T b → T (a && b)
→and true b t u = u
→and false b t u = absurd t

pub or→ : (a b : Bool) → T (a || b) → T a ⊎ T b
or→ true b t = inl tt
or→ false b t = inr t

pub →or_l : (a b : Bool) → T a → T (a || b)
→or_l true b t = tt
→or_l false b t = absurd t

pub →or_r : (a b : Bool) → T b → T (a || b)
→or_r true b t = tt
→or_r false b t = t

pub not_not : (b : Bool) → T (not (not b)) → T b
not_not true t = tt
not_not false t = t

pub neither : (a b : Bool) → (not a && not b) ≡ not (a || b)
neither true b = refl
neither false b = refl

pub is : (b : Bool) → T b ⊎ T (not b)
is true = inl tt
is false = inr tt

-- ---- a law of n Booleans, computed
abbrev pub Law : ℕ → Type 0
Law zero = Bool
Law (suc n) = Bool → Law n

abbrev pub law : (n : ℕ) → Law n → Bool
law zero f = f
law (suc n) f = law n (f true) && law n (f false)

abbrev pub Always : (n : ℕ) → Law n → Type 0
Always zero f = T f
Always (suc n) f = (b : Bool) → Always n (f b)

pub always : (n : ℕ) (f : Law n) → T (law n f) → Always n f
always zero f t = t
always (suc n) f t =
    λ b. elim b as (λ b. Always n (f b)) [
      | true ↦ always n (f true) (and→ (law n (f true)) _ t).0
      | false ↦ always n (f false) (and→ (law n (f true)) _ t).1
    ]

infixr 20 ◌⇒◌
abbrev pub ◌⇒◌ : Bool → Bool → Bool
◌⇒◌ a b = not a || b

pub ⇒→ : (a b : Bool) → T (a ⇒ b) → T a → T b
⇒→ true b t u = t
⇒→ false b t u = absurd u

pub →⇒ : (a b : Bool) → (T a → T b) → T (a ⇒ b)
→⇒ true b f = f tt
→⇒ false b f = tt
