-- Cursors: a list of moves and the cursor over it, the next move, and how many there are.
use Rattle.std.specs.Prelude.{None, Some, ⊤}
use Rattle.std.proofs.Common.{rules, tests}
use Rattle.std.specs.Iterator.{MakesProgress, item_count}
use mathlib.Core.Path.{◌≡◌, refl, sym, ap, ap₂, ◌∙◌, subst}
use mathlib.Core.Bool.{Bool, false, ◌||◌, or-false}
use mathlib.Core.List.{List, [], ◌∷◌, ◌++◌, map}
use Prim.Native.Nat.{ℕ, ◌+◌, ◌-◌, ◌*◌, ◌/◌, ◌%◌, ◌^◌, ◌≤◌, ◌<◌}
use native.Mathlib.Nat.{mod-eq_of_lt, lt_of_le_of_lt}
use native.Mathlib.Omega.{arith}
use lib.Arith.{digits_div}
use lib.Bits.{bit_and, and_mask, and_le_l, mask_lt}
use lib.Count.{ones, ones-le, count_trailing_zeros}
use lib.Dec.{T, lit<}
use lib.ListN.{length, length-map, length-append}
use Rattle.base.specs.Branch.{when◌then◌else◌}
use Rattle.base.specs.Bits.{bit, digits}
use Rattle.base.specs.Lists.{filter, In, elem, from, concat_map}
use Rattle.base.proofs.ListsAgree.{same_by, false_by, filter_same}
use Rattle.base.proofs.BitsOperations.{bit_nought}
use Rattle.base.proofs.ListsFilter.{filter_map, filter_join, in_map, map_in, elem_join, elem_filter}
use Rattle.base.proofs.Lists.{filter_in, in_filter, in_elem, elem_in, in_from, from_in, in_concat_map}
use Rattle.base.proofs.Bits.{bit_masked, masked, digits_same, bit_digits}
use Rattle.base.proofs.BitsOnes.{set_digits, count_ones, lowest_first, lowest_lt}
use Rattle.rules.specs.Board.{nine}
use Rattle.rules.specs.Moves.{places}
use Rattle.rules.specs.Play.{move_of}
use Rattle.boards.specs.declared.moves.Move.{Move}
use Rattle.boards.specs.declared.moves.MoveIterator.{MoveIterator}
use Rattle.boards.specs.Cursor.{move_at, row_moves, moves_left, row_over, cursor_over, Lists}

-- ---- moves at different places differ
same_move : (r q k j : ℕ) → k < 27 → j < 27 → move_at r k ≡ move_at q j → (r ≡ q) × (k ≡ j)
same_move r q k j h l e =
    let b : 3 * r + k / 9 ≡ 3 * q + j / 9 = sym (digits_div (3 * r + k / 9) {m = 16} {r = k % 9} (omega arith))
    ∙ ap (λ (m : ℕ). m / 16) e ∙ digits_div (3 * q + j / 9) {m = 16} {r = j % 9} (omega arith) in
    let o : r ≡ q = omega arith in
    (o, omega arith)

module _ (r k : ℕ) (h : k < 27) where
  in_row : (q n : ℕ) → T (elem (move_at r k) (row_moves q n)) → (r ≡ q) × T (bit n k)
  unfolding row_moves
  in_row q n t =
      let m = map_in (move_at q) (move_at r k) (filter (bit n) (from 0 27))
      (elem_in (move_at r k) (map (move_at q) (filter (bit n) (from 0 27))) t) in
      let i = filter_in (bit n) m.0 (from 0 27) m.1 in
      let s = same_move r q k m.0 h (from_in 0 27 m.0 i.0).1 m.2 in
      (s.0, subst (λ (j : ℕ). T (bit n j)) (sym s.1) i.1)

  this_row : (n : ℕ) → elem (move_at r k) (row_moves r n) ≡ bit n k
  unfolding row_moves
  this_row n =
      same_by (elem (move_at r k) (row_moves r n)) (bit n k) (λ t. (in_row r n t).1)
      (λ t. in_elem (move_at r k) (row_moves r n) (in_map (move_at r) k (filter (bit n) (from 0 27))
      (in_filter (bit n) k (from 0 27) (in_from 0 27 k (omega arith) (omega arith)) t)))

  other_row : (q n : ℕ) → (r ≡ q → ⊥) → elem (move_at r k) (row_moves q n) ≡ false
  other_row q n d = false_by (elem (move_at r k) (row_moves q n)) (λ t. d (in_row q n t).0)

-- ---- the cursor over what a cursor has left is the cursor without the bits above the 27
module _ (it : MoveIterator) where
  three : (r k : ℕ) → elem (move_at r k) (moves_left it) ≡ (elem (move_at r k) (row_moves 0 it.top) ||
      (elem (move_at r k) (row_moves 1 it.middle) || elem (move_at r k) (row_moves 2 it.bottom)))
  unfolding moves_left
  three r k =
      elem_join (move_at r k) (row_moves 0 it.top) (row_moves 1 it.middle ++ row_moves 2 it.bottom)
      ∙ ap (◌||◌ (elem (move_at r k) (row_moves 0 it.top))) (elem_join (move_at r k) (row_moves 1 it.middle)
      (row_moves 2 it.bottom))

  top_again : row_over 0 (moves_left it) ≡ bit_and it.top 134217727
  unfolding row_over
  top_again =
      sym (masked (λ k. elem (move_at 0 k) (moves_left it)) 27 it.top
      (λ k h. sym (three 0 k ∙ rw (
        this_row 0 k h it.top,
        other_row 0 k h 1 it.middle (λ e. omega arith),
        other_row 0 k h 2 it.bottom (λ e. omega arith),
      ) (or-false (bit it.top k)))))

  middle_again : row_over 1 (moves_left it) ≡ bit_and it.middle 134217727
  unfolding row_over
  middle_again =
      sym (masked (λ k. elem (move_at 1 k) (moves_left it)) 27 it.middle
      (λ k h. sym (three 1 k ∙ rw (
        this_row 1 k h it.middle,
        other_row 1 k h 0 it.top (λ e. omega arith),
        other_row 1 k h 2 it.bottom (λ e. omega arith),
      ) (or-false (bit it.middle k)))))

  bottom_again : row_over 2 (moves_left it) ≡ bit_and it.bottom 134217727
  unfolding row_over
  bottom_again =
      sym (masked (λ k. elem (move_at 2 k) (moves_left it)) 27 it.bottom
      (λ k h. sym (three 2 k ∙ rw (
        this_row 2 k h it.bottom,
        other_row 2 k h 0 it.top (λ e. omega arith),
        other_row 2 k h 1 it.middle (λ e. omega arith),
      ))))

  pub cursor_again : cursor_over (moves_left it) ≡ record {
    top = bit_and it.top 134217727;
    middle = bit_and it.middle 134217727;
    bottom = bit_and it.bottom 134217727;
  }
  cursor_again = λ i. record { top = top_again i; middle = middle_again i; bottom = bottom_again i }

-- ---- the next move
pub row_masked : (r n : ℕ) → row_moves r (bit_and n 134217727) ≡ row_moves r n
unfolding row_moves
row_masked r n =
    ap (map (move_at r)) (filter_same (bit (bit_and n 134217727)) (bit n) (from 0 27) (λ k i. bit_masked 27 n k (from_in 0 27 k i).1))

row_first : (r n : ℕ) → (bit_and n 134217727 ≡ 0 → ⊥)
    → row_moves r n ≡ move_at r (count_trailing_zeros 32 (bit_and n 134217727)) ∷
    row_moves r (bit_and (bit_and n 134217727) (bit_and n 134217727 - 1))
unfolding row_moves
row_first r n z = sym (row_masked r n) ∙ ap (map (move_at r)) (lowest_first 27 32 (bit_and n 134217727) (omega arith) (mask_lt n 27) z)

row_none : (r n : ℕ) → bit_and n 134217727 ≡ 0 → row_moves r n ≡ []
unfolding row_moves filter when◌then◌else◌
row_none r n e =
    sym (row_masked r n) ∙ ap (row_moves r) e
    ∙ ap (map (move_at r)) (filter_same (bit 0) (λ _. false) (from 0 27) (λ k i. bit_nought k))

pub lowest_place : (n : ℕ) → (bit_and n 134217727 ≡ 0 → ⊥) → count_trailing_zeros 32 (bit_and n 134217727) < 27
lowest_place n z = lowest_lt 27 32 (bit_and n 134217727) (omega arith) (mask_lt n 27) z

small : (n : ℕ) → n < 2 ^ 27 → bit_and n 134217727 ≡ n
small n h = and_mask n 27 ∙ mod-eq_of_lt h

less : (n : ℕ) → bit_and (bit_and n 134217727) (bit_and n 134217727 - 1) < 2 ^ 27
less n = lt_of_le_of_lt (and_le_l (bit_and n 134217727) (bit_and n 134217727 - 1)) (mask_lt n 27)

-- a cursor with no bits above the 27 is the cursor over what it has left
module _ (left : MoveIterator) (a : left.top < 2 ^ 27) (b : left.middle < 2 ^ 27) (c : left.bottom < 2 ^ 27) where
  pub cursor_back : cursor_over (moves_left left) ≡ left
  cursor_back =
      cursor_again left ∙ (λ i. record {
        top = small left.top a i;
        middle = small left.middle b i;
        bottom = small left.bottom c i;
      })

  stepped : (it : MoveIterator) (m : Move) (n : ℕ) → m.bits ≡ n → moves_left it ≡ n ∷ moves_left left → Lists it (Some m) left
  stepped it m n e f = (f ∙ ap (λ (k : ℕ). k ∷ moves_left left) (sym e), sym cursor_back)

module _ (it : MoveIterator) (m : Move) (t : ℕ) where
  abbrev top : ℕ
  top = bit_and it.top 134217727

  abbrev middle : ℕ
  middle = bit_and it.middle 134217727

  abbrev bottom : ℕ
  bottom = bit_and it.bottom 134217727

  pub next_top : (top ≡ 0 → ⊥) → t ≡ bit_and top (top - 1) → m.bits ≡ move_at 0 (count_trailing_zeros 32 top)
      → Lists it (Some m) (record { top = t; middle = middle; bottom = bottom })
  unfolding moves_left
  next_top z e f = rw e
      (stepped (record { top = bit_and top (top - 1); middle = middle; bottom = bottom }) (less it.top) (mask_lt it.middle 27)
      (mask_lt it.bottom 27)
      it m _ f (rw (row_masked 1 it.middle, row_masked 2 it.bottom)
      (ap (λ (ms : List ℕ). ms ++ (row_moves 1 it.middle ++ row_moves 2 it.bottom)) (row_first 0 it.top z))))

  pub next_middle : top ≡ 0 → (middle ≡ 0 → ⊥) → t ≡ bit_and middle (middle - 1) →
      m.bits ≡ move_at 1 (count_trailing_zeros 32 middle)
      → Lists it (Some m) (record { top = 0; middle = t; bottom = bottom })
  unfolding moves_left
  next_middle o z e f = rw e
      (stepped (record { top = 0; middle = bit_and middle (middle - 1); bottom = bottom }) (lit< tt) (less it.middle)
      (mask_lt it.bottom 27)
      it m _ f (rw (row_none 0 it.top o, row_none 0 0 refl, row_masked 2 it.bottom)
      (ap (λ (ms : List ℕ). ms ++ row_moves 2 it.bottom) (row_first 1 it.middle z))))

  pub next_bottom : top ≡ 0 → middle ≡ 0 → (bottom ≡ 0 → ⊥) → t ≡ bit_and bottom (bottom - 1) →
      m.bits ≡ move_at 2 (count_trailing_zeros 32 bottom)
      → Lists it (Some m) (record { top = 0; middle = 0; bottom = t })
  unfolding moves_left
  next_bottom o p z e f = rw e
      (stepped (record { top = 0; middle = 0; bottom = bit_and bottom (bottom - 1) }) (lit< tt) (lit< tt) (less it.bottom)
      it m _ f (rw (row_none 0 it.top o, row_none 1 it.middle p, row_none 0 0 refl, row_none 1 0 refl)
      (row_first 2 it.bottom z)))

pub next_none : (it : MoveIterator) → bit_and it.top 134217727 ≡ 0 → bit_and it.middle 134217727 ≡ 0 →
    bit_and it.bottom 134217727 ≡ 0 → Lists it None it
unfolding moves_left
next_none it o p q =
    let e : moves_left it ≡ [] = rw (row_none 0 it.top o, row_none 1 it.middle p, row_none 2 it.bottom q) in
    ((e, e), refl)

-- after a move that it gave, fewer are left
pub nearer : (it : MoveIterator) (m : Move) (after : MoveIterator) → Lists it (Some m) after →
    MakesProgress (λ _. ⊤) (item_count moves_left) it (Some m) after
nearer it m after l = let n = ap length l.0 in search (rules, tests)

-- ---- how many are left
pub at_most_27 : (n : ℕ) → ones (bit_and n 134217727) ≤ 27
at_most_27 n = ones-le 27 (bit_and n 134217727) (mask_lt n 27)

row_length : (r n : ℕ) → ones (bit_and n 134217727) ≡ length (row_moves r n)
unfolding row_moves
row_length r n =
    count_ones 27 (bit_and n 134217727) (mask_lt n 27)
    ∙ sym (length-map (set_digits 27 (bit_and n 134217727)) (move_at r)) ∙ ap length (row_masked r n)

pub left_length : (it : MoveIterator) → ones (bit_and it.top 134217727) + ones (bit_and it.middle 134217727) + ones
    (bit_and it.bottom 134217727) ≡ length (moves_left it)
unfolding moves_left
left_length it =
    let a = row_length 0 it.top in
    let b = row_length 1 it.middle in
    let c = row_length 2 it.bottom in
    omega (
      arith,
      length-append (row_moves 0 it.top) (row_moves 1 it.middle ++ row_moves 2 it.bottom),
      length-append (row_moves 1 it.middle) (row_moves 2 it.bottom),
    )

-- ---- the cursor over a part of the 81 places
module _ (f : ℕ → Bool) where
  place_in : (r k : ℕ) → r < 3 → k < 27 → In (move_at r k) places
  unfolding places
  place_in r k h l =
      in_concat_map (λ b. map (move_of b) nine) (3 * r + k / 9) (move_at r k) nine
      (in_from 0 9 (3 * r + k / 9) (omega arith) (omega arith))
      (in_map (move_of (3 * r + k / 9)) (k % 9) nine (in_from 0 9 (k % 9) (omega arith) (omega arith)))

  -- a row has the test's answers as its digits
  pub row_over_kept : (r : ℕ) → r < 3 → row_over r (filter f places) ≡ digits (λ k. f (move_at r k)) 27
  unfolding row_over
  row_over_kept r h =
      digits_same (λ k. elem (move_at r k) (filter f places)) (λ k. f (move_at r k)) 27
      (λ k l. elem_filter f (move_at r k) places (place_in r k h l))

  row_kept : (r : ℕ) → r < 3 → row_moves r (row_over r (filter f places)) ≡ filter f (map (move_at r) (from 0 27))
  unfolding row_moves
  row_kept r h =
      ap (row_moves r) (row_over_kept r h)
      ∙ ap (map (move_at r)) (filter_same (bit (digits (λ k. f (move_at r k)) 27)) (λ k. f (move_at r k)) (from 0 27)
      (λ k i. bit_digits (λ k. f (move_at r k)) 27 k (from_in 0 27 k i).1))
      ∙ sym (filter_map f (move_at r) (from 0 27))

  by_rows : places ≡ map (move_at 0) (from 0 27) ++ (map (move_at 1) (from 0 27) ++ map (move_at 2) (from 0 27))
  unfolding places concat_map
  by_rows = refl

  -- and it has just that part left
  pub cursor_kept : moves_left (cursor_over (filter f places)) ≡ filter f places
  unfolding moves_left
  cursor_kept =
      ap₂ ◌++◌ (row_kept 0 (lit< tt)) (ap₂ ◌++◌ (row_kept 1 (lit< tt)) (row_kept 2 (lit< tt)))
      ∙ sym (ap (filter f) by_rows ∙ filter_join f (map (move_at 0) (from 0 27))
      (map (move_at 1) (from 0 27) ++ map (move_at 2) (from 0 27))
      ∙ ap (λ (ms : List ℕ). filter f (map (move_at 0) (from 0 27)) ++ ms)
      (filter_join f (map (move_at 1) (from 0 27)) (map (move_at 2) (from 0 27))))
