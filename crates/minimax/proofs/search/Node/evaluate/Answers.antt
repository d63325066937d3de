-- The values are those of the boards, and by them the evaluation is the plain one.
use mathlib.Core.Path.{ap, ◌∙◌}
use Rattle.game.specs.Meaning.{position_of}
use Rattle.evaluation.specs.Values.{evaluate_by}
use Rattle.base.proofs.Signed.{result}
use Rattle.evaluation.proofs.ValuesOverall.{by_values}
use Rattle.minimax.specs.State.{node_scoring}
use Rattle.minimax.proofs.search.Node.evaluate.Goals as goal

pub returns : goal.returns
returns c =
    let a = c.args.self in
    let sc = node_scoring a in
    result c.evaluate.type_inv c.evaluate.ensures ∙ ap (evaluate_by sc (position_of a.game)) c.requires
    ∙ by_values sc (position_of a.game)
