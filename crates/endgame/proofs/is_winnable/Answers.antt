-- The digits of the side's boards and of the open ones, joined.
use mathlib.Core.Path.{◌∙◌}
use Rattle.rules.specs.Endgame.{winnable}
use Rattle.endgame.proofs.PartsSets.{joined_line}
use Rattle.endgame.proofs.is_winnable.Goals as goal

pub returns : goal.returns
unfolding winnable
returns c = c.has_line.ensures ∙ joined_line _ _ _ _ c.playerbits.ensures c.openbits.ensures
