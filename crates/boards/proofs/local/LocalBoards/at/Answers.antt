-- The cell is what its two digits say, and the row of a board over 8 has none.
use mathlib.Core.Path.{refl, sym}
use mathlib.Core.Bool.{true, false}
use native.Mathlib.Omega.{arith}
use Rattle.boards.proofs.Packed.{cell_past_cell, reads_cell}
use Rattle.boards.proofs.local.LocalBoards.at.Goals as goal

pub returns-then-local-gt8 : goal.returns-then-local-gt8
returns-then-local-gt8 c = sym (cell_past_cell _ _ _ c.if-local-gt8.true)

pub returns-in-true-default : goal.returns-in-true-default
returns-in-true-default c =
    reads_cell _ _ _ _ (omega arith) (omega arith) c.row-row.ensures true _ c.in-true-default.is-0 refl

pub returns-in-false-true : goal.returns-in-false-true
returns-in-false-true c =
    reads_cell _ _ _ _ (omega arith) (omega arith) c.row-row.ensures false true c.in-false-true.is-0 c.in-false-true.is-1

pub returns-in-false-false : goal.returns-in-false-false
returns-in-false-false c =
    reads_cell _ _ _ _ (omega arith) (omega arith) c.row-row.ensures false false c.in-false-false.is-0 c.in-false-false.is-1
