-- Laws of tests over lists, of membership and of runs of numbers.
use mathlib.Core.Path.{◌≡◌, refl, sym, subst}
use mathlib.Core.Bool.{Bool, not}
use mathlib.Core.List.{List, [], ◌∷◌, ◌++◌}
use mathlib.Core.Logic.{◌⊎◌, inl, inr}
use Prim.Native.Nat.{ℕ, zero, suc, ◌+◌, ◌≤◌, ◌<◌}
use native.Mathlib.Omega.{arith}
use lib.Dec.{T, eqb, eqb→eq, eqb_refl, T_not, not_T}
use lib.ListN.{length, get_or}
use Rattle.base.specs.Lists.{any, all, filter, In, elem, unique, from, concat_map}
use Rattle.base.proofs.Bool.{and→, →and, or→, →or_l, →or_r, is}
use Rattle.base.proofs.Branch.{if_ind}

module _ {A : Type 0} where
  pub any_some : (f : A → Bool) (xs : List A) → T (any f xs) → (x : A) × In x xs × T (f x)
  unfolding any
  any_some f [] t = absurd t
  any_some f (x ∷ xs) t =
      elim (or→ (f x) _ t) [ inl u ↦ (x, inl refl, u) | inr u ↦ (let r = any_some f xs u in (r.0, inr r.1, r.2)) ]

  pub some_any : (f : A → Bool) (x : A) (xs : List A) → In x xs → T (f x) → T (any f xs)
  unfolding any
  some_any f x [] h t = absurd h
  some_any f x (y ∷ xs) (inl e) t = →or_l (f y) _ (subst (λ (z : A). T (f z)) e t)
  some_any f x (y ∷ xs) (inr h) t = →or_r (f y) _ (some_any f x xs h t)

  pub any_mono : (f g : A → Bool) (xs : List A) → ((x : A) → T (f x) → T (g x)) → T (any f xs) → T (any g xs)
  any_mono f g xs h t = let r = any_some f xs t in some_any g r.0 xs r.1 (h r.0 r.2)

  pub all_each : (f : A → Bool) (x : A) (xs : List A) → T (all f xs) → In x xs → T (f x)
  unfolding all
  all_each f x [] t h = absurd h
  all_each f x (y ∷ xs) t (inl e) = subst (λ (z : A). T (f z)) (sym e) (and→ (f y) _ t).0
  all_each f x (y ∷ xs) t (inr h) = all_each f x xs (and→ (f y) _ t).1 h

  pub each_all : (f : A → Bool) (xs : List A) → ((x : A) → In x xs → T (f x)) → T (all f xs)
  unfolding all
  each_all f [] h = tt
  each_all f (x ∷ xs) h = →and (f x) _ (h x (inl refl)) (each_all f xs (λ y i. h y (inr i)))

  pub no_member : (xs : List A) → ((x : A) → In x xs → ⊥) → xs ≡ []
  no_member [] h = refl
  no_member (x ∷ xs) h = absurd (h x (inl refl))

  -- where the list has a place, what `get_or` would answer past its end does not matter
  pub default_unused : (xs : List A) (i : ℕ) (d e : A) → i < length xs → get_or xs i d ≡ get_or xs i e
  default_unused [] i d e h = absurd (omega arith)
  default_unused (x ∷ xs) zero d e h = refl
  default_unused (x ∷ xs) (suc i) d e h = default_unused xs i d e (omega arith)

-- ---- membership of numbers, and what is kept
pub filter_in : (f : ℕ → Bool) (x : ℕ) (xs : List ℕ) → In x (filter f xs) → In x xs × T (f x)
unfolding filter
filter_in f x [] h = absurd h
filter_in f x (y ∷ xs) h = if_ind (λ l. In x l → In x (y ∷ xs) × T (f x)) (f y) _ _
    (λ t k. elim k [
      | inl e ↦ (inl e, subst (λ (z : ℕ). T (f z)) (sym e) t)
      | inr k ↦ (let r = filter_in f x xs k in (inr r.0, r.1))
    ])
    (λ _ k. let r = filter_in f x xs k in (inr r.0, r.1)) h

pub in_filter : (f : ℕ → Bool) (x : ℕ) (xs : List ℕ) → In x xs → T (f x) → In x (filter f xs)
unfolding filter
in_filter f x [] h t = absurd h
in_filter f x (y ∷ xs) (inl e) t =
    if_ind (λ l. In x l) (f y) _ _ (λ _. inl e) (λ u. absurd (T_not (f y) u (subst (λ (z : ℕ). T (f z)) e t)))
in_filter f x (y ∷ xs) (inr h) t = if_ind (λ l. In x l) (f y) _ _ (λ _. inr (in_filter f x xs h t)) (λ _. in_filter f x xs h t)

pub filter_short : (f : ℕ → Bool) (xs : List ℕ) → length (filter f xs) ≤ length xs
unfolding filter
filter_short f [] = omega arith
filter_short f (x ∷ xs) =
    if_ind (λ (l : List ℕ). length l ≤ suc (length xs)) (f x) _ _ (λ _. omega (arith, filter_short f xs))
    (λ _. omega (arith, filter_short f xs))

pub in_elem : (x : ℕ) (xs : List ℕ) → In x xs → T (elem x xs)
unfolding elem
in_elem x [] h = absurd h
in_elem x (y ∷ xs) (inl e) = →or_l (eqb x y) _ (subst (λ (z : ℕ). T (eqb x z)) e (eqb_refl x))
in_elem x (y ∷ xs) (inr h) = →or_r (eqb x y) _ (in_elem x xs h)

pub elem_in : (x : ℕ) (xs : List ℕ) → T (elem x xs) → In x xs
unfolding elem
elem_in x [] t = absurd t
elem_in x (y ∷ xs) t = elim (or→ (eqb x y) _ t) [ inl u ↦ inl (eqb→eq x y u) | inr u ↦ inr (elem_in x xs u) ]

pub unique_filter : (f : ℕ → Bool) (xs : List ℕ) → T (unique xs) → T (unique (filter f xs))
unfolding unique filter
unique_filter f [] t = tt
unique_filter f (x ∷ xs) t =
    let r = unique_filter f xs (and→ (not (elem x xs)) _ t).1 in
    if_ind (λ l. T (unique l)) (f x) _ _
    (λ _. →and (not (elem x (filter f xs))) _ (not_T (elem x (filter f xs))
    (λ u. T_not (elem x xs) (and→ (not (elem x xs)) _ t).0 (in_elem x xs (filter_in f x xs (elem_in x (filter f xs) u)).0))) r)
    (λ _. r)

eq_or : (i x : ℕ) → i ≤ x → (x ≡ i) ⊎ (suc i ≤ x)
eq_or i x h = elim (is (eqb x i)) [ inl t ↦ inl (eqb→eq x i t) | inr t ↦ inr (more t) ]
  where
    ne : T (not (eqb x i)) → x ≡ i → ⊥
    ne t e = T_not (eqb x i) t (subst (λ (z : ℕ). T (eqb x z)) e (eqb_refl x))

    more : T (not (eqb x i)) → suc i ≤ x
    more t = let k = ne t in omega (arith, k)

pub in_from : (i n x : ℕ) → i ≤ x → x < i + n → In x (from i n)
in_from i zero x h k = absurd (omega arith)
in_from i (suc n) x h k = elim (eq_or i x h) [ inl e ↦ inl e | inr e ↦ inr (in_from (suc i) n x e (omega arith)) ]

pub from_in : (i n x : ℕ) → In x (from i n) → (i ≤ x) × (x < i + n)
from_in i zero x h = absurd h
from_in i (suc n) x (inl e) = (omega arith, omega arith)
from_in i (suc n) x (inr h) = let r = from_in (suc i) n x h in (omega arith, omega arith)

pub in_l : (x : ℕ) (xs ys : List ℕ) → In x xs → In x (xs ++ ys)
in_l x [] ys h = absurd h
in_l x (y ∷ xs) ys (inl e) = inl e
in_l x (y ∷ xs) ys (inr h) = inr (in_l x xs ys h)

pub in_r : (x : ℕ) (xs ys : List ℕ) → In x ys → In x (xs ++ ys)
in_r x [] ys h = h
in_r x (y ∷ xs) ys h = inr (in_r x xs ys h)

pub in_concat_map : (f : ℕ → List ℕ) (x y : ℕ) (xs : List ℕ) → In x xs → In y (f x) → In y (concat_map f xs)
unfolding concat_map
in_concat_map f x y [] h k = absurd h
in_concat_map f x y (z ∷ xs) (inl e) k = in_l y (f z) (concat_map f xs) (subst (λ (w : ℕ). In y (f w)) e k)
in_concat_map f x y (z ∷ xs) (inr h) k = in_r y (f z) (concat_map f xs) (in_concat_map f x y xs h k)
