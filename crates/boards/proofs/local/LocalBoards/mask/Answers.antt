-- A cell is taken where one of the two digits is set.
use mathlib.Core.Path.{◌≡◌}
use lib.ListN.{length}
use native.Mathlib.Omega.{arith}
use Rattle.boards.proofs.Packed.{taken_cells}
use Rattle.boards.proofs.local.LocalBoards.mask.Goals as goal

pub returns : goal.returns
returns c =
    let n : length c.args.self.rows ≡ 3 = omega arith in
    taken_cells _ _ _ n c.row-row.ensures
