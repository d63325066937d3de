-- No empty cell is left of those that are not wanted.
use native.Mathlib.Omega.{arith}
use Rattle.endgame.proofs.PartsSets.{all_wanted}
use Rattle.endgame.proofs.sends_to.Goals as goal

pub returns : goal.returns
returns c = all_wanted _ _ _ c.free_squares.ensures (omega arith)
