-- The digits of the empty cells, the open boards and the others, digit by digit.
use native.Mathlib.Omega.{arith}
use Rattle.endgame.proofs.PartsSets.{chosen_past, chosen_in}
use Rattle.endgame.proofs.dests_of.Goals as goal

pub returns-then-board-lt9 : goal.returns-then-board-lt9
returns-then-board-lt9 c = chosen_in _ _ _ _ _ _ c.free_squares.ensures c.openbits.ensures (omega arith) (omega arith)

pub returns-else-board-lt9 : goal.returns-else-board-lt9
returns-else-board-lt9 c = chosen_past _ _ _ _ _ _ c.free_squares.ensures c.openbits.ensures (omega arith) (omega arith)
