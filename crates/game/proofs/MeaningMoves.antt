-- Lists of moves: the boards that may be played, and the cursor over the empty cells of some boards.
use Rattle.std.specs.Prelude.{None, Some}
use mathlib.Core.Path.{◌≡◌, sym, ap, ap₂, ◌∙◌}
use mathlib.Core.Bool.{Bool, true, false, ◌&&◌, and-true, and-false}
use Prim.Native.Nat.{ℕ, ◌+◌, ◌*◌, ◌/◌, ◌%◌, ◌^◌, ◌≤◌, ◌<◌}
use native.Mathlib.Decide.{ℕ_discrete}
use native.Mathlib.Nat.{lt_of_le_of_lt}
use native.Mathlib.Omega.{arith}
use lib.Bits.{bit_and, and_le_l}
use lib.Dec.{T, eqb, lit<}
use lib.ListN.{get_or}
use borrow.Author.Tests.{eq-eqb, ne_eqb}
use Rattle.base.specs.Bits.{bit, digits}
use Rattle.base.specs.Lists.{filter}
use Rattle.base.proofs.ListsAgree.{same_by}
use Rattle.base.proofs.Bool.{and→, →and}
use Rattle.base.proofs.BitsOperations.{bit-bit_and, bit_shr, bit_nought, bit_pow}
use Rattle.base.proofs.Bits.{digits_lt, bit_digits, is_digits, digits_same, shl_one}
use Rattle.rules.specs.Board.{blank}
use Rattle.rules.specs.Position.{Position, unfinished, open_board, free_cell}
use Rattle.rules.specs.Play.{move_of, may, accepts}
use Rattle.rules.specs.Moves.{places, moves}
use Rattle.rules.proofs.Play.{board_of_move, cell_of_move, Legal, accepts→, →accepts_at}
use Rattle.boards.specs.declared.local.LocalBoards.{LocalBoards}
use Rattle.boards.specs.Cursor.{move_at, moves_left, row_over, cursor_over}
use Rattle.boards.specs.Packed.{no_row, cell_at}
use Rattle.boards.specs.Rows.{row_cell, row_free, free_cells}
use Rattle.boards.proofs.Cursor.{row_over_kept, cursor_kept}
use Rattle.game.specs.declared.Game.{Game}
use Rattle.game.specs.Meaning.{position_of}
use Rattle.game.proofs.MeaningRows.{place_cell}

-- ---- the cursor over the moves of a position has just these left, whatever the position
pub moves_listed : (p : Position) → moves_left (cursor_over (moves p)) ≡ moves p
unfolding moves
moves_listed p = cursor_kept (accepts p)

pub all_moves_listed : (g : Game) → moves_left (cursor_over (moves (position_of g))) ≡ moves (position_of g)
all_moves_listed g = moves_listed (position_of g)

-- ---- the boards that may be played
module _ (p : Position) where
  abbrev pub playable : ℕ → Bool
  playable b = unfinished p && (open_board p b && may p.next_board b)

  none : ((b : ℕ) → b < 9 → playable b ≡ false) → 0 ≡ digits playable 9
  none h = is_digits playable 9 0 (lit< tt) (λ k i. bit_nought k ∙ sym (h k i))

  pub none_over : unfinished p ≡ false → 0 ≡ digits playable 9
  none_over e = none (λ b h. ap (λ (s : Bool). s && (open_board p b && may p.next_board b)) e)

  pub none_due : (d : ℕ) → p.next_board ≡ Some d → 9 ≤ d → 0 ≡ digits playable 9
  none_due d e h = none (λ b i. rw (e, ne_eqb d b (λ q. omega arith), and-false (open_board p b)) (and-false (unfinished p)))

  module _ (n : ℕ) (o : unfinished p ≡ true) (e : n ≡ digits (open_board p) 9) where
    pub all_open : p.next_board ≡ None → n ≡ digits playable 9
    all_open f = e ∙ digits_same (open_board p) playable 9 (λ b i. rw (o, f) (sym (and-true (open_board p b))))

    one_digit : (d k : ℕ) → d < 9 → bit (1 * 2 ^ d % 4294967296) k ≡ eqb d k
    one_digit d k h = ap (λ (m : ℕ). bit m k) (shl_one 32 d (omega arith)) ∙ bit_pow d k ∙ go (ℕ_discrete k d)
      where
        go : Dec (k ≡ d) → eqb k d ≡ eqb d k
        go (yes q) = eq-eqb k d q ∙ sym (eq-eqb d k (sym q))
        go (no q) = ne_eqb k d q ∙ sym (ne_eqb d k (λ z. q (sym z)))

    pub one_open : (d : ℕ) → p.next_board ≡ Some d → d < 9 → bit_and n (1 * 2 ^ d % 4294967296) ≡ digits playable 9
    one_open d f h = is_digits playable 9 _
        (lt_of_le_of_lt (and_le_l n (1 * 2 ^ d % 4294967296)) (rw e (digits_lt (open_board p) 9)))
        (λ k i. bit-bit_and n (1 * 2 ^ d % 4294967296) k ∙ ap₂ ◌&&◌ (ap (λ (m : ℕ). bit m k) e ∙ bit_digits (open_board p) 9 k i)
        (one_digit d k h) ∙ sym (rw (o, f)))

-- ---- the empty cells of some boards
module _ (l : LocalBoards) (test : ℕ → Bool) (n : ℕ) (e : n ≡ digits test 9) (f : ℕ → Bool)
    (q : (b c : ℕ) → b < 9 → c < 9 → f (move_of b c) ≡ (test b && blank (cell_at l b c))) where
  one_row : (r m : ℕ) → r < 3 → ((j : ℕ) → bit m j ≡ bit n (3 * r + j)) →
      row_free (get_or l.rows r no_row) m ≡ row_over r (filter f places)
  unfolding row_free
  one_row r m h s =
      digits_same (λ k. bit m (k / 9) && blank (row_cell (get_or l.rows r no_row) k)) (λ k. f (move_at r k)) 27 digit
      ∙ sym (row_over_kept f r h)
    where
      digit : (k : ℕ) → k < 27 → (bit m (k / 9) && blank (row_cell (get_or l.rows r no_row) k)) ≡ f (move_at r k)
      digit k i =
          let b = 3 * r + k / 9 in
          let hb : b < 9 = omega arith in
          sym (q b (k % 9) hb (omega arith) ∙ ap₂ ◌&&◌ (sym (s (k / 9) ∙ ap (λ (z : ℕ). bit z b) e ∙ bit_digits test 9 b hb))
          (ap blank (place_cell l r k h i)))

  pub free_cursor : free_cells l n ≡ cursor_over (filter f places)
  free_cursor = λ i. record {
    top = one_row 0 n (lit< tt) (λ j. ap (bit n) (omega arith)) i;
    middle = one_row 1 (n / 2 ^ 3) (lit< tt) (λ j. bit_shr n 3 j) i;
    bottom = one_row 2 (n / 2 ^ 6) (lit< tt) (λ j. bit_shr n 6 j) i;
  }

accepts_is : (p : Position) (b c : ℕ) → b < 9 → c < 9 → accepts p (move_of b c) ≡ (playable p b && free_cell p b c)
accepts_is p b c hb hc = same_by (accepts p (move_of b c)) (playable p b && free_cell p b c) there back
  where
    there : T (accepts p (move_of b c)) → T (playable p b && free_cell p b c)
    there t =
        let l : Legal p b c = rw (board_of_move b c (omega arith), cell_of_move b c (omega arith)) at (accepts→ p (move_of b c) t) in
        →and (playable p b) _ (→and (unfinished p) _ l.unfinished (→and (open_board p b) _ l.opened l.allowed)) l.empty

    back : T (playable p b && free_cell p b c) → T (accepts p (move_of b c))
    back t =
        let r = and→ (playable p b) _ t in
        let s = and→ (unfinished p) _ r.0 in
        let u = and→ (open_board p b) _ s.1 in
        →accepts_at p b c (record { board = hb; cell = hc; unfinished = s.0; opened = u.0; allowed = u.1; empty = r.1 })

-- the empty cells of the boards that may be played are the moves
pub moves_cursor : (g : Game) (n : ℕ) → n ≡ digits (playable (position_of g)) 9 →
    free_cells g.local_boards n ≡ cursor_over (moves (position_of g))
unfolding moves
moves_cursor g n e = free_cursor g.local_boards (playable (position_of g)) n e (accepts (position_of g)) (accepts_is (position_of g))
