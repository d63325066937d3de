-- Sums of integers: what agrees on a list has one sum there.
use mathlib.Core.Path.{◌≡◌, refl, ap₂}
use mathlib.Core.List.{List, [], ◌∷◌}
use mathlib.Core.Logic.{inl, inr}
use lib.IntN.{ℤ, ◌+ℤ◌}
use Rattle.base.specs.Integers.{sum}
use Rattle.base.specs.Lists.{In}

pub sum_same : {A : Type 0} (f g : A → ℤ) (xs : List A) → ((x : A) → In x xs → f x ≡ g x) → sum f xs ≡ sum g xs
unfolding sum
sum_same f g [] h = refl
sum_same f g (x ∷ xs) h = ap₂ ◌+ℤ◌ (h x (inl refl)) (sum_same f g xs (λ y i. h y (inr i)))
