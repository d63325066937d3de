-- Reading cells and states: in range by their digits, out of range empty and open; and the numbers that have a digit for each of nine.
use mathlib.Core.Path.{◌≡◌, refl, sym, ap, ◌∙◌}
use mathlib.Core.Bool.{Bool, true, false, not, ◌&&◌, ◌||◌, and-false}
use Prim.Native.Nat.{ℕ, ◌+◌, ◌-◌, ◌*◌, ◌/◌, ◌%◌, ◌^◌, ◌≤◌, ◌<◌}
use native.Mathlib.Decide.{dec_lt}
use native.Mathlib.Omega.{arith}
use lib.Bits.{bit_and, bit_or}
use lib.Dec.{eqb, ltb}
use lib.ListN.{length, get_or-eq_default}
use borrow.Author.Tests.{lt-ltb, le-ltb}
use Rattle.rules.specs.declared.Player.TheVariants.{X, O}
use Rattle.rules.specs.declared.CellState.{CellState}
use Rattle.rules.specs.declared.CellState.TheVariants.{Empty}
use Rattle.rules.specs.declared.GameState.{GameState}
use Rattle.rules.specs.declared.GameState.TheVariants.{InPlay}
use Rattle.base.specs.Branch.{when◌then◌else◌}
use Rattle.base.specs.Bits.{bit, digits}
use Rattle.base.proofs.BitsOperations.{bit-bit_and, bit-bit_or, bit_not, bit_shr, bit_nought}
use Rattle.base.proofs.Bits.{masked, digit_test}
use Rattle.rules.specs.Board.{mine, blank, in_play, won_by, drawn}
use Rattle.boards.specs.declared.local.Row.{Row}
use Rattle.boards.specs.declared.local.LocalBoards.{LocalBoards}
use Rattle.boards.specs.declared.states.GlobalStates.{GlobalStates}
use Rattle.boards.specs.Packed.{cell_of_bits, no_row, row_of, place, cell_at, state_of_bits, state_at}
use Rattle.boards.specs.Rows.{row_cell}

-- ---- a cell
module _ (l : LocalBoards) (b c : ℕ) where
  pub cell_in : b < 9 → c < 9 → cell_at l b c ≡ row_cell (row_of l b) (place b c)
  unfolding cell_at when◌then◌else◌
  cell_in h k = rw (lt-ltb b 9 h, lt-ltb c 9 k)

  pub cell_past_board : 9 ≤ b → cell_at l b c ≡ Empty
  unfolding cell_at when◌then◌else◌
  cell_past_board h = rw (le-ltb b 9 h)

  pub cell_past_cell : 9 ≤ c → cell_at l b c ≡ Empty
  unfolding cell_at when◌then◌else◌
  cell_past_cell h = rw (le-ltb c 9 h, and-false (ltb b 9))

  row_past : 9 ≤ b → length l.rows ≤ 3 → row_of l b ≡ no_row
  row_past h n = get_or-eq_default l.rows no_row (let q : 3 ≤ b / 3 = omega arith in omega arith)

  -- the row of a board over 8 is empty, so the board need not be looked at
  pub cell_read : length l.rows ≤ 3 → c < 9 → cell_at l b c ≡ row_cell (row_of l b) (place b c)
  cell_read n k = go (dec_lt b 9)
    where
      go : Dec (b < 9) → cell_at l b c ≡ row_cell (row_of l b) (place b c)
      go (yes h) = cell_in h k
      go (no h) =
          let g : 9 ≤ b = omega (arith, h) in
          cell_past_board g ∙ sym (ap (λ (r : Row). row_cell r (place b c)) (row_past g n) ∙ rw (bit_nought (place b c)))

-- the row that was read, and what its two digits say
module _ (l : LocalBoards) (b c : ℕ) (r : Row) (n : length l.rows ≡ 3) (h : c < 9) (e : r ≡ row_of l b) where
  read : cell_of_bits (bit r.x (place b c)) (bit r.o (place b c)) ≡ cell_at l b c
  read = rw e (sym (cell_read l b c (omega arith) h))

  pub reads_cell : (p q : Bool) → eqb (bit_and (r.x / 2 ^ place b c) 1) 1 ≡ p → eqb (bit_and (r.o / 2 ^ place b c) 1) 1 ≡ q →
      cell_of_bits p q ≡ cell_at l b c
  reads_cell p q x o = rw (sym (digit_test r.x (place b c)) ∙ x, sym (digit_test r.o (place b c)) ∙ o) at read

x_mine : (p q : Bool) → p ≡ mine X (cell_of_bits p q)
x_mine true q = refl
x_mine false true = refl
x_mine false false = refl

o_mine : (p q : Bool) → (q && not p) ≡ mine O (cell_of_bits p q)
o_mine true true = refl
o_mine true false = refl
o_mine false true = refl
o_mine false false = refl

taken : (p q : Bool) → (q || p) ≡ not (blank (cell_of_bits p q))
taken true true = refl
taken true false = refl
taken false true = refl
taken false false = refl

pub not_taken : (p q : Bool) → not (p || q) ≡ blank (cell_of_bits p q)
not_taken true q = refl
not_taken false true = refl
not_taken false false = refl

-- the digits of one number that another does not have, `n & !m`
pub bit_without : (w n m k : ℕ) → m < 2 ^ w → k < w → bit (bit_and n (2 ^ w - 1 - m)) k ≡ (bit n k && not (bit m k))
bit_without w n m k h l = bit-bit_and n (2 ^ w - 1 - m) k ∙ ap (λ (p : Bool). bit n k && p) (bit_not w m k h l)

-- ---- the nine cells of a board: a number whose digits pass a test at each place of the row, shifted down and masked
module _ (l : LocalBoards) (b : ℕ) (r : Row) (h : length l.rows ≡ 3) (e : r ≡ row_of l b) where
  nine_cells : (test : CellState → Bool) (n : ℕ) → ((k : ℕ) → k < 27 → bit n k ≡ test (row_cell r k))
      → bit_and (n / 2 ^ (9 * (b % 3))) 511 ≡ digits (λ c. test (cell_at l b c)) 9
  nine_cells test n t =
      masked (λ c. test (cell_at l b c)) 9 (n / 2 ^ (9 * (b % 3)))
      (λ c k. bit_shr n (9 * (b % 3)) c ∙ ap (bit n) (swap c) ∙ t (place b c) (omega arith) ∙ ap test (read l b c r h k e))
    where
      swap : (c : ℕ) → 9 * (b % 3) + c ≡ place b c
      swap c = omega arith

  pub x_cells : bit_and (r.x / 2 ^ (9 * (b % 3))) 511 ≡ digits (λ c. mine X (cell_at l b c)) 9
  x_cells = nine_cells (mine X) r.x (λ k i. x_mine (bit r.x k) (bit r.o k))

  pub o_cells : r.x < 2 ^ 32 → bit_and (bit_and r.o (4294967295 - r.x) / 2 ^ (9 * (b % 3))) 511
      ≡ digits (λ c. mine O (cell_at l b c)) 9
  o_cells s =
      nine_cells (mine O) (bit_and r.o (4294967295 - r.x))
      (λ k i. bit_without 32 r.o r.x k s (omega arith) ∙ o_mine (bit r.x k) (bit r.o k))

  pub taken_cells : bit_and (bit_or r.o r.x / 2 ^ (9 * (b % 3))) 511 ≡ digits (λ c. not (blank (cell_at l b c))) 9
  taken_cells =
      nine_cells (λ s. not (blank s)) (bit_or r.o r.x) (λ k i. bit-bit_or r.o r.x k ∙ taken (bit r.x k) (bit r.o k))

-- ---- a state
module _ (s : GlobalStates) (b : ℕ) where
  pub state_in : b < 9 → state_at s b ≡ state_of_bits (bit s.x b) (bit s.o b)
  unfolding state_at when◌then◌else◌
  state_in h = rw (lt-ltb b 9 h)

  pub state_past : 9 ≤ b → state_at s b ≡ InPlay
  unfolding state_at when◌then◌else◌
  state_past h = rw (le-ltb b 9 h)

  -- what the two digits that were read say
  pub reads_state : (p q : Bool) → b < 9 → eqb (bit_and (s.x / 2 ^ b) 1) 1 ≡ p → eqb (bit_and (s.o / 2 ^ b) 1) 1 ≡ q →
      state_of_bits p q ≡ state_at s b
  reads_state p q h x o = rw (state_in h, sym (digit_test s.x b) ∙ x, sym (digit_test s.o b) ∙ o)

-- ---- the nine states
pub nine_states : (s : GlobalStates) (test : GameState → Bool) (n : ℕ)
    → ((k : ℕ) → k < 9 → bit n k ≡ test (state_of_bits (bit s.x k) (bit s.o k)))
    → bit_and n 511 ≡ digits (λ b. test (state_at s b)) 9
nine_states s test n e = masked (λ b. test (state_at s b)) 9 n (λ b h. e b h ∙ ap test (sym (state_in s b h)))

x_won : (p q : Bool) → (p && not q) ≡ won_by X (state_of_bits p q)
x_won true true = refl
x_won true false = refl
x_won false true = refl
x_won false false = refl

o_won : (p q : Bool) → (q && not p) ≡ won_by O (state_of_bits p q)
o_won true true = refl
o_won true false = refl
o_won false true = refl
o_won false false = refl

both_drawn : (p q : Bool) → (p && q) ≡ drawn (state_of_bits p q)
both_drawn true true = refl
both_drawn true false = refl
both_drawn false true = refl
both_drawn false false = refl

done : (p q : Bool) → (p || q) ≡ not (in_play (state_of_bits p q))
done true true = refl
done true false = refl
done false true = refl
done false false = refl

module _ (s : GlobalStates) where
  pub x_states : s.o < 2 ^ 32 → bit_and (bit_and s.x (4294967295 - s.o)) 511 ≡ digits (λ b. won_by X (state_at s b)) 9
  x_states h = nine_states s (won_by X) _ (λ k i. bit_without 32 s.x s.o k h (omega arith) ∙ x_won (bit s.x k) (bit s.o k))

  pub o_states : s.x < 2 ^ 32 → bit_and (bit_and s.o (4294967295 - s.x)) 511 ≡ digits (λ b. won_by O (state_at s b)) 9
  o_states h = nine_states s (won_by O) _ (λ k i. bit_without 32 s.o s.x k h (omega arith) ∙ o_won (bit s.x k) (bit s.o k))

  pub drawn_states : bit_and (bit_and s.x s.o) 511 ≡ digits (λ b. drawn (state_at s b)) 9
  drawn_states = nine_states s drawn _ (λ k i. bit-bit_and s.x s.o k ∙ both_drawn (bit s.x k) (bit s.o k))

  pub done_states : bit_and (bit_or s.x s.o) 511 ≡ digits (λ b. not (in_play (state_at s b))) 9
  done_states = nine_states s (λ g. not (in_play g)) _ (λ k i. bit-bit_or s.x s.o k ∙ done (bit s.x k) (bit s.o k))
