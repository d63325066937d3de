-- No cell of the boards has unlike digits, those of O that X has too left out.
use native.Mathlib.Omega.{arith}
use Rattle.boards.proofs.Rows.{same_row}
use Rattle.boards.proofs.local.Row.same_in.Goals as goal

pub returns : goal.returns
returns c =
    same_row c.args.self
    c.args.rhs _ _ (omega arith) (omega arith)
    c.row_cells-mask.ensures
