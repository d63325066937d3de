-- The moves left, compared from where the loop stands, lead where all lead.
use mathlib.Core.Path.{sym, ◌∙◌}
use Rattle.replay_endgame.proofs.RecordsCompared.{moves_go_on, moves_end}
use Rattle.replay_endgame.proofs.expected.with_left.Goals as goal

pub loop-m-preserved : goal.loop-m-preserved
loop-m-preserved c = moves_go_on _ _ _ c.in-Some.ensures.steps.0 c.with_move-so_far.ensures ∙ c.loop-m.invariant

pub returns : goal.returns
returns c = sym (moves_end _ _ c.in-None.ensures.steps.0.0) ∙ c.loop-m.invariant
