-- What is kept of a mapped list and of a joined one, and what stands there.
use mathlib.Core.Path.{◌≡◌, refl, sym, ap, ◌∙◌}
use mathlib.Core.Bool.{Bool, true, false, ◌||◌, or_assoc}
use mathlib.Core.List.{List, [], ◌∷◌, ◌++◌, map}
use mathlib.Core.Logic.{inl, inr}
use Prim.Native.Nat.{ℕ, zero, suc}
use lib.Dec.{eqb}
use Rattle.base.specs.Branch.{when◌then◌else◌}
use Rattle.base.specs.Lists.{filter, In, elem, from}
use Rattle.base.proofs.ListsAgree.{same_by}
use Rattle.base.proofs.Lists.{filter_in, in_filter, in_elem, elem_in}

choice_of {ℓ κ} : {A : Type ℓ} {B : Type κ} (f : A → B) (c : Bool) (x y : Unit {0} → A) →
    (when c then (λ u. f (x u)) else λ u. f (y u)) ≡ f (when c then x else y)
unfolding when◌then◌else◌
choice_of f true x y = refl
choice_of f false x y = refl

pub filter_map : (f : ℕ → Bool) (g : ℕ → ℕ) (xs : List ℕ) → filter f (map g xs) ≡ map g (filter (λ x. f (g x)) xs)
unfolding filter
filter_map f g [] = refl
filter_map f g (x ∷ xs) =
    ap (λ (ys : List ℕ). when f (g x) then (λ _. g x ∷ ys) else λ _. ys) (filter_map f g xs)
    ∙ choice_of (map g) (f (g x)) (λ _. x ∷ filter (λ x. f (g x)) xs) (λ _. filter (λ x. f (g x)) xs)

pub filter_join : (f : ℕ → Bool) (xs ys : List ℕ) → filter f (xs ++ ys) ≡ filter f xs ++ filter f ys
unfolding filter
filter_join f [] ys = refl
filter_join f (x ∷ xs) ys =
    ap (λ (zs : List ℕ). when f x then (λ _. x ∷ zs) else λ _. zs) (filter_join f xs ys)
    ∙ choice_of (λ (zs : List ℕ). zs ++ filter f ys) (f x) (λ _. x ∷ filter f xs) (λ _. filter f xs)

-- a run of numbers, one on
pub from_suc : (i n : ℕ) → from (suc i) n ≡ map suc (from i n)
from_suc i zero = refl
from_suc i (suc n) = ap (◌∷◌ (suc i)) (from_suc (suc i) n)

-- ---- what stands there
pub in_map : (g : ℕ → ℕ) (x : ℕ) (xs : List ℕ) → In x xs → In (g x) (map g xs)
in_map g x [] h = h
in_map g x (y ∷ xs) (inl e) = inl (ap g e)
in_map g x (y ∷ xs) (inr h) = inr (in_map g x xs h)

pub map_in : (g : ℕ → ℕ) (y : ℕ) (xs : List ℕ) → In y (map g xs) → (x : ℕ) × In x xs × (y ≡ g x)
map_in g y [] h = absurd h
map_in g y (x ∷ xs) (inl e) = (x, inl refl, e)
map_in g y (x ∷ xs) (inr h) = let r = map_in g y xs h in (r.0, inr r.1, r.2)

pub elem_join : (x : ℕ) (xs ys : List ℕ) → elem x (xs ++ ys) ≡ (elem x xs || elem x ys)
unfolding elem
elem_join x [] ys = refl
elem_join x (y ∷ xs) ys = ap (◌||◌ (eqb x y)) (elem_join x xs ys) ∙ sym (or_assoc (eqb x y) (elem x xs) (elem x ys))

pub elem_filter : (f : ℕ → Bool) (x : ℕ) (xs : List ℕ) → In x xs → elem x (filter f xs) ≡ f x
elem_filter f x xs h =
    same_by (elem x (filter f xs)) (f x) (λ t. (filter_in f x xs (elem_in x (filter f xs) t)).1)
    (λ t. in_elem x (filter f xs) (in_filter f x xs h t))
