-- Tests that agree on a list, tests that hold of the same things, and the library's `any` and `all` over a list.
use mathlib.Core.Path.{◌≡◌, refl, ap, ap₂}
use mathlib.Core.Bool.{Bool, true, false, ◌||◌, ◌&&◌}
use mathlib.Core.List.{List, [], ◌∷◌}
use mathlib.Core.Logic.{inl, inr}
use lib.Dec.{T}
use Rattle.std.specs.List.{list_any, list_all}
use Rattle.base.specs.Branch.{when◌then◌else◌}
use Rattle.base.specs.Lists.{any, all, filter, In}

pub false_by : (b : Bool) → (T b → ⊥) → b ≡ false
false_by true f = absurd (f tt)
false_by false f = refl

pub same_by : (a b : Bool) → (T a → T b) → (T b → T a) → a ≡ b
same_by true true f g = refl
same_by true false f g = absurd (f tt)
same_by false true f g = absurd (g tt)
same_by false false f g = refl

module _ {A : Type 0} (f g : A → Bool) where
  pub any_same : (xs : List A) → ((x : A) → In x xs → f x ≡ g x) → any f xs ≡ any g xs
  unfolding any
  any_same [] e = refl
  any_same (x ∷ xs) e = ap₂ ◌||◌ (e x (inl refl)) (any_same xs (λ y i. e y (inr i)))

  pub all_same : (xs : List A) → ((x : A) → In x xs → f x ≡ g x) → all f xs ≡ all g xs
  unfolding all
  all_same [] e = refl
  all_same (x ∷ xs) e = ap₂ ◌&&◌ (e x (inl refl)) (all_same xs (λ y i. e y (inr i)))

  pub filter_same : (xs : List A) → ((x : A) → In x xs → f x ≡ g x) → filter f xs ≡ filter g xs
  unfolding filter
  filter_same [] e = refl
  filter_same (x ∷ xs) e =
      ap₂ (λ (p : Bool) (ys : List A). when p then (λ _. x ∷ ys) else λ _. ys) (e x (inl refl)) (filter_same xs (λ y i. e y (inr i)))

-- what the library says of an iterator's `any` and `all`
module _ {A : Type 0} (f : A → Bool) where
  pub any_of_list : (xs : List A) → list_any f xs ≡ any f xs
  unfolding any
  any_of_list [] = refl
  any_of_list (x ∷ xs) = ap (λ (b : Bool). f x || b) (any_of_list xs)

  pub all_of_list : (xs : List A) → list_all f xs ≡ all f xs
  unfolding all
  all_of_list [] = refl
  all_of_list (x ∷ xs) = ap (λ (b : Bool). f x && b) (all_of_list xs)
