-- The cells of a row's boards as one number: all of them, the empty ones, and those in which two rows differ.
use mathlib.Core.Path.{◌≡◌, refl, sym, ap, ap₂, ◌∙◌}
use mathlib.Core.Bool.{Bool, true, false, not, cond, ◌&&◌, ◌||◌}
use Prim.Native.Nat.{ℕ, zero, suc, ◌+◌, ◌-◌, ◌*◌, ◌/◌, ◌^◌, ◌≤◌, ◌<◌}
use native.Mathlib.Nat.{lt_of_le_of_lt}
use native.Mathlib.Omega.{arith}
use lib.Bits.{bit_and, bit_or, bit_xor, and_le_l, and_le_r, or_lt}
use lib.Dec.{eqb}
use Rattle.base.specs.Bits.{bit, digits}
use Rattle.base.specs.Lists.{from}
use Rattle.base.proofs.ListsAgree.{all_same}
use Rattle.base.proofs.Bool.{Law, always}
use Rattle.base.proofs.BitsOperations.{xor, bit-bit_and, bit-bit_or, bit-bit_xor, bit_not}
use Rattle.base.proofs.ListsEvery.{same_b, same_b_eq}
use Rattle.base.proofs.Lists.{from_in}
use Rattle.base.proofs.Bits.{digits_lt, bit_digits, is_digits, digits_same, digit_read, none_set}
use Rattle.rules.specs.Board.{blank, same_cell}
use Rattle.boards.specs.declared.local.Row.{Row}
use Rattle.boards.specs.Packed.{cell_of_bits}
use Rattle.boards.specs.Rows.{row_cell, row_free, row_same}
use Rattle.boards.proofs.Packed.{bit_without, not_taken}

-- ---- all cells of the boards that have their bit
pub low_bit : (n : ℕ) → bit_and n 1 ≤ 1
low_bit n = and_le_r n 1

abbrev third : Bool → Bool → Bool → ℕ → Bool
third p q r zero = p
third p q r (suc zero) = q
third p q r (suc (suc k)) = r

cells_number : (p q r : Bool) → cond p 1 0 * 511 + cond q 1 0 * 261632 + cond r 1 0 * 133955584 ≡ digits (λ k. third p q r (k / 9)) 27
unfolding digits
cells_number true true true = refl
cells_number true true false = refl
cells_number true false true = refl
cells_number true false false = refl
cells_number false true true = refl
cells_number false true false = refl
cells_number false false true = refl
cells_number false false false = refl

module _ (n : ℕ) where
  third_at : (j : ℕ) → j < 3 → third (bit n 0) (bit n 1) (bit n 2) j ≡ bit n j
  third_at zero h = refl
  third_at (suc zero) h = refl
  third_at (suc (suc zero)) h = refl
  third_at (suc (suc (suc j))) h = absurd (omega arith)

  whole : n / 1 ≡ n
  whole = omega arith

  pub all_cells : bit_and n 1 * 511 + bit_and (n / 2) 1 * 261632 + bit_and (n / 4) 1 * 133955584 ≡ digits (λ k. bit n (k / 9)) 27
  all_cells =
      rw (ap (λ (m : ℕ). bit_and m 1) (sym whole) ∙ digit_read n 0, digit_read n 1, digit_read n 2)
      (cells_number (bit n 0) (bit n 1) (bit n 2))
      ∙ digits_same (λ k. third (bit n 0) (bit n 1) (bit n 2) (k / 9)) (λ k. bit n (k / 9)) 27 (λ k h. third_at (k / 9) (omega arith))

-- ---- the empty ones
module _ (r : Row) (boards m : ℕ) (hx : r.x < 2 ^ 32) (ho : r.o < 2 ^ 32) (e : m ≡ digits (λ k. bit boards (k / 9)) 27) where
  pub empty_cells : bit_and m (4294967295 - bit_or r.x r.o) ≡ row_free r boards
  unfolding row_free
  empty_cells = is_digits (λ k. bit boards (k / 9) && blank (row_cell r k)) 27 _
      (lt_of_le_of_lt (and_le_l m (4294967295 - bit_or r.x r.o)) (rw e (digits_lt (λ k. bit boards (k / 9)) 27)))
      (λ k h. bit_without 32 m (bit_or r.x r.o) k (or_lt 32 r.x r.o hx ho) (omega arith)
      ∙ ap₂ ◌&&◌ (ap (λ (i : ℕ). bit i k) e ∙ bit_digits (λ k. bit boards (k / 9)) 27 k h)
      (ap not (bit-bit_or r.x r.o k) ∙ not_taken (bit r.x k) (bit r.o k)))

-- ---- those in which two rows differ
abbrev differs : Bool → Bool → Bool → Bool → Bool → Bool
differs m x o x' o' = (xor x x' && m) || (xor (o && not x) (o' && not x') && m)

one_cell : Law 5
one_cell m x o x' o' = same_b (not (differs m x o x' o')) (not m || same_cell (cell_of_bits x o) (cell_of_bits x' o'))

one_cell_holds : (m x o x' o' : Bool) → not (differs m x o x' o') ≡ (not m || same_cell (cell_of_bits x o) (cell_of_bits x' o'))
unfolding one_cell
one_cell_holds m x o x' o' = same_b_eq _ _ (always 5 one_cell tt m x o x' o')

module _ (r q : Row) (boards m : ℕ) (hr : r.x < 2 ^ 32) (hq : q.x < 2 ^ 32) (e : m ≡ digits (λ k. bit boards (k / 9)) 27) where
  -- the cells of O, without those of X
  os : Row → ℕ
  os s = bit_and s.o (4294967295 - s.x)

  apart : ℕ
  apart = bit_or (bit_and (bit_xor r.x q.x) m) (bit_and (bit_xor (os r) (os q)) m)

  small : apart < 2 ^ 27
  unfolding apart
  small = or_lt 27 _ _ (below (bit_xor r.x q.x)) (below (bit_xor (os r) (os q)))
    where
      below : (a : ℕ) → bit_and a m < 2 ^ 27
      below a = lt_of_le_of_lt (and_le_r a m) (rw e (digits_lt (λ k. bit boards (k / 9)) 27))

  digit : (k : ℕ) → k < 27 → bit apart k ≡ differs (bit boards (k / 9)) (bit r.x k) (bit r.o k) (bit q.x k) (bit q.o k)
  unfolding apart os
  digit k h =
      simp (
        bit-bit_or,
        bit-bit_and,
        bit-bit_xor,
        bit_not 32 r.x k hr (omega arith),
        bit_not 32 q.x k hq (omega arith),
        ap (λ (i : ℕ). bit i k) e ∙ bit_digits (λ k. bit boards (k / 9)) 27 k h,
      )

  pub same_row : eqb (bit_or (bit_and (bit_xor r.x q.x) m)
      (bit_and (bit_xor (bit_and r.o (4294967295 - r.x)) (bit_and q.o (4294967295 - q.x))) m)) 0 ≡ row_same r q boards
  unfolding row_same apart os
  same_row =
      none_set 27 apart small
      ∙ all_same (λ k. not (bit apart k)) (λ k. not (bit boards (k / 9)) || same_cell (row_cell r k) (row_cell q k)) (from 0 27)
      (λ k i. ap not (digit k (from_in 0 27 k i).1) ∙ one_cell_holds (bit boards (k / 9)) (bit r.x k) (bit r.o k) (bit q.x k)
      (bit q.o k))
