-- Nine digits for each of the three bits.
use Rattle.boards.proofs.Rows.{all_cells}
use Rattle.boards.proofs.local.row_cells.Goals as goal

pub returns : goal.returns
returns c = all_cells c.args.boards
