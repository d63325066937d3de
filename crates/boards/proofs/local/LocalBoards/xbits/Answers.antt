-- The digits of X at the nine places of the board.
use mathlib.Core.Path.{◌≡◌}
use lib.ListN.{length}
use native.Mathlib.Omega.{arith}
use Rattle.boards.proofs.Packed.{x_cells}
use Rattle.boards.proofs.local.LocalBoards.xbits.Goals as goal

pub returns : goal.returns
returns c =
    let n : length c.args.self.rows ≡ 3 = omega arith in
    x_cells _ _ _ n c.row-row.ensures
