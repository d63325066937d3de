-- Numbers compared one after the other: all agree where the two lists are the same.
use mathlib.Core.Path.{◌≡◌, refl, sym, ap, ◌∙◌}
use mathlib.Core.Bool.{Bool, true, false, cond, ◌&&◌}
use mathlib.Core.List.{List, [], ◌∷◌, ◌++◌}
use Prim.Native.Nat.{ℕ, ◌+◌, ◌<◌}
use native.Mathlib.Numerals.{add-one}
use native.Mathlib.Omega.{arith}
use lib.Dec.{T, eqb}
use lib.ListN.{length, get_or, take}
use lib.Seq.{take-suc}
use mir.Val.{bool_byte}
use borrow.Author.Tests.{eq-eqb, ne_eqb, eqb-true}
use Rattle.std.specs.Prelude.{Option, Some, None, option_map}
use Rattle.std.specs.Bool.{then_some}
use Rattle.base.specs.Branch.{when◌then◌else◌}
use Rattle.replay.specs.Agreement.{same_numbers, compared, compared_all, wholly_agrees}

-- the number of a test
pub truth_number : (b : Bool) → bool_byte b ≡ cond b 1 0
truth_number true = refl
truth_number false = refl

-- ---- one
pub number_tested : {R : Type 0} (now : R → List ℕ) (left : R) (x n : ℕ) →
    option_map now (then_some (eqb x n) left) ≡ compared (Some (x ∷ now left)) n
unfolding compared when◌then◌else◌
number_tested now left x n = go (eqb x n)
  where
    go : (b : Bool) → option_map now (then_some b left) ≡ (when b then (λ _. Some (now left)) else λ _. None)
    go true = refl
    go false = refl

pub number_lacks : (numbers : List ℕ) (n : ℕ) → length numbers ≡ 0 → None ≡ compared (Some numbers) n
unfolding compared
number_lacks [] n e = refl
number_lacks (x ∷ xs) n e = absurd (omega arith)

-- ---- several
pub compared_append : (left : Option (List ℕ)) (xs ys : List ℕ) →
    compared_all left (xs ++ ys) ≡ compared_all (compared_all left xs) ys
compared_append left [] ys = refl
compared_append left (x ∷ xs) ys = compared_append (compared left x) xs ys

-- the first i, and one more
pub compared_next : (left : Option (List ℕ)) (xs : List ℕ) (i : ℕ) → i < length xs →
    compared (compared_all left (take i xs)) (get_or xs i 0) ≡ compared_all left (take (i + 1) xs)
compared_next left xs i h =
    let t : take (i + 1) xs ≡ take i xs ++ (get_or xs i 0 ∷ []) = rw (add-one i) (take-suc xs i 0 h) in
    sym (ap (compared_all left) t ∙ compared_append left (take i xs) (get_or xs i 0 ∷ []))

-- ---- what a whole comparison says
stays_none : (xs : List ℕ) → compared_all None xs ≡ None
unfolding compared
stays_none [] = refl
stays_none (x ∷ xs) = stays_none xs

-- the record's numbers are exactly those that it was compared with
pub compared_is_same : (ns xs : List ℕ) → wholly_agrees (compared_all (Some ns) xs) ≡ same_numbers ns xs
unfolding compared same_numbers when◌then◌else◌
compared_is_same [] [] = refl
compared_is_same (n ∷ ns) [] = ne_eqb (length (n ∷ ns)) 0 (λ e. omega arith)
compared_is_same [] (x ∷ xs) = rw (stays_none xs)
compared_is_same (n ∷ ns) (x ∷ xs) = go (eqb n x) (compared_is_same ns xs)
  where
    go : (c : Bool) → wholly_agrees (compared_all (Some ns) xs) ≡ same_numbers ns xs →
        wholly_agrees (compared_all (when c then (λ _. Some ns) else λ _. None) xs) ≡ (c && same_numbers ns xs)
    go true same = same
    go false same = rw (stays_none xs)

-- ---- the same numbers: the same list
pub same_numbers_self : (xs : List ℕ) → T (same_numbers xs xs)
unfolding same_numbers
same_numbers_self [] = tt
same_numbers_self (x ∷ xs) = rw (eq-eqb x x refl) (same_numbers_self xs)

pub same_numbers_equal : (xs ys : List ℕ) → T (same_numbers xs ys) → xs ≡ ys
unfolding same_numbers
same_numbers_equal [] [] h = refl
same_numbers_equal [] (y ∷ ys) h = absurd h
same_numbers_equal (x ∷ xs) [] h = absurd h
same_numbers_equal (x ∷ xs) (y ∷ ys) h = go (eqb x y) refl h (λ t. same_numbers_equal xs ys t)
  where
    go : (c : Bool) → eqb x y ≡ c → T (c && same_numbers xs ys) → (T (same_numbers xs ys) → xs ≡ ys) → x ∷ xs ≡ y ∷ ys
    go true e t k = ap (λ (z : ℕ). z ∷ xs) (eqb-true x y e) ∙ ap (λ (zs : List ℕ). y ∷ zs) (k t)
    go false e t k = absurd t
