-- The digits of O, without those of X, at the nine places of the board.
use mathlib.Core.Path.{◌≡◌}
use lib.ListN.{length}
use native.Mathlib.Omega.{arith}
use Rattle.boards.proofs.Packed.{o_cells}
use Rattle.boards.proofs.local.LocalBoards.obits.Goals as goal

pub returns : goal.returns
returns c =
    let n : length c.args.self.rows ≡ 3 = omega arith in
    o_cells _ _ _ n c.row-row.ensures (omega arith)
