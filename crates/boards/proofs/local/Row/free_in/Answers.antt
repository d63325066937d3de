-- The cells of the boards without those that have a digit.
use native.Mathlib.Omega.{arith}
use Rattle.boards.proofs.Rows.{empty_cells}
use Rattle.boards.proofs.local.Row.free_in.Goals as goal

pub returns : goal.returns
returns c = empty_cells _ _ _ (omega arith) (omega arith) c.row_cells.ensures
