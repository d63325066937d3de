-- The cursor over the rest of what a cursor has left has just that rest left; and what a step gives and leaves.
use Rattle.std.specs.Prelude.{Option, None, Some}
use mathlib.Core.Path.{◌≡◌, refl, sym, ap, ap₂, ◌∙◌, subst}
use mathlib.Core.Bool.{Bool, true, false, not, ◌&&◌, and-true}
use mathlib.Core.List.{List, [], ◌∷◌, ◌++◌}
use Prim.Native.Nat.{ℕ}
use native.Mathlib.Omega.{arith}
use lib.Dec.{T, eqb, eqb→eq, lit<, T_not}
use lib.ListN.{drop}
use Rattle.base.specs.Branch.{when◌then◌else◌}
use Rattle.base.specs.Bits.{bit, digits}
use Rattle.base.specs.Lists.{filter, In, elem, unique, concat_map}
use Rattle.base.proofs.ListsAgree.{filter_same, false_by}
use Rattle.base.proofs.Bool.{and→}
use Rattle.base.proofs.Lists.{in_elem}
use borrow.Author.Tests.{eq-eqb}
use Rattle.rules.specs.Moves.{places}
use Rattle.boards.specs.declared.moves.Move.{Move}
use Rattle.boards.specs.declared.moves.MoveIterator.{MoveIterator}
use Rattle.boards.specs.Cursor.{row_moves, moves_left, row_over, cursor_over, Lists}
use Rattle.boards.proofs.Cursor.{cursor_again, row_over_kept, cursor_kept, row_masked}

-- ---- without the first that is kept
module _ (f : ℕ → Bool) (m : ℕ) where
  abbrev others : ℕ → Bool
  others k = f k && not (eqb k m)

  absent : (xs : List ℕ) → T (not (elem m xs)) → filter others xs ≡ filter f xs
  absent xs n =
      filter_same others f xs
      (λ k i. ap (λ (b : Bool). f k && not b)
      (false_by (eqb k m) (λ t. T_not (elem m xs) n (in_elem m xs (subst (λ (z : ℕ). In z xs) (eqb→eq k m t) i)))) ∙ and-true (f k))

  -- by the test's answer at the first
  step : (x : ℕ) (xs ms : List ℕ) → T (unique (x ∷ xs)) → (filter f xs ≡ m ∷ ms → filter others xs ≡ ms) → (b : Bool)
      → (when b then (λ _. x ∷ filter f xs) else λ _. filter f xs) ≡ m ∷ ms
      → (when (b && not (eqb x m)) then (λ _. x ∷ filter others xs) else λ _. filter others xs) ≡ ms
  unfolding unique when◌then◌else◌
  step x xs ms t r true h =
      let p : x ≡ m = cc in
      rw (eq-eqb x m p) (absent xs (subst (λ (z : ℕ). T (not (elem z xs))) p (and→ (not (elem x xs)) _ t).0) ∙ (cc))
  step x xs ms t r false h = r h

  pub kept_rest : (xs ms : List ℕ) → T (unique xs) → filter f xs ≡ m ∷ ms → filter others xs ≡ ms
  unfolding filter unique
  kept_rest [] ms t e = absurd (let z : ◌≡◌ {A = ℕ} 0 1 = cc in omega arith)
  kept_rest (x ∷ xs) ms t e = step x xs ms t (kept_rest xs ms (and→ (not (elem x xs)) _ t).1) (f x) e

-- ---- the cursor over nothing
nothing_left : moves_left (cursor_over []) ≡ []
unfolding moves_left row_moves row_over digits bit filter elem when◌then◌else◌
nothing_left = refl

-- ---- what a cursor has left is a part of the 81 places
module _ (it : MoveIterator) where
  abbrev there : ℕ → Bool
  there m = elem m (moves_left it)

  over_part : cursor_over (filter there places) ≡ cursor_over (moves_left it)
  unfolding row_over
  over_part =
      λ i. record {
        top = row_over_kept there 0 (lit< tt) i;
        middle = row_over_kept there 1 (lit< tt) i;
        bottom = row_over_kept there 2 (lit< tt) i;
      }

  a_part : filter there places ≡ moves_left it
  unfolding moves_left
  a_part =
      sym (cursor_kept there) ∙ ap moves_left (over_part ∙ cursor_again it)
      ∙ ap₂ ◌++◌ (row_masked 0 it.top) (ap₂ ◌++◌ (row_masked 1 it.middle) (row_masked 2 it.bottom))

  pub rest_left : (m : ℕ) (ms : List ℕ) → moves_left it ≡ m ∷ ms → moves_left (cursor_over ms) ≡ ms
  unfolding places concat_map unique elem
  rest_left m ms e =
      subst (λ (l : List ℕ). moves_left (cursor_over l) ≡ l) (kept_rest there m places ms tt (a_part ∙ e))
      (cursor_kept (others there m))

  pub dropped_left : moves_left (cursor_over (drop 1 (moves_left it))) ≡ drop 1 (moves_left it)
  dropped_left = go (moves_left it) refl
    where
      go : (ms : List ℕ) → moves_left it ≡ ms → moves_left (cursor_over (drop 1 ms)) ≡ drop 1 ms
      go [] e = nothing_left
      go (m ∷ ms) e = rest_left m ms e

  -- ---- what it gives next
  module _ (next : Option Move) (rest : MoveIterator) (l : Lists it next rest) where
    pub next_left : (m : Move) → next ≡ Some m → moves_left it ≡ m.bits ∷ moves_left rest
    next_left m e = (subst (λ (n : Option Move). Lists it n rest) e l).0

    pub none_left : next ≡ None → moves_left it ≡ []
    none_left e = (subst (λ (n : Option Move). Lists it n rest) e l).0.0
