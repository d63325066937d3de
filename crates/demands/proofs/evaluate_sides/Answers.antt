-- The claims hold of what `evaluate` promises of both.
use Rattle.demands.proofs.Evaluations.{evaluation_claims}
use Rattle.demands.proofs.evaluate_sides.Goals as goal

pub returns : goal.returns
returns c =
    evaluation_claims _ _ _ _ _ _ c.other_to_move.ensures c.evaluate.ensures c.evaluate-2.ensures
