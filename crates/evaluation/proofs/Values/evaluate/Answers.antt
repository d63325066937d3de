-- A finished game by its end, and one in play by its score, turned for O.
use mathlib.Core.Path.{◌∙◌}
use mir.Syntax.{w64}
use Rattle.rules.specs.declared.Player.TheVariants.{X, O}
use Rattle.game.specs.Meaning.{position_of}
use Rattle.base.proofs.Signed.{result, Held, held_promised, held_reads, minus}
use Rattle.evaluation.proofs.ValuesEnds.{eval_ended, eval_open}
use Rattle.evaluation.proofs.Values.evaluate.Goals as goal

pub returns-in-Drawn : goal.returns-in-Drawn
returns-in-Drawn c =
    result c.drawn.type_inv c.drawn.ensures ∙ eval_ended _ (position_of c.args.g) _ _
    c.in-Drawn.is tt

pub returns-in-Won : goal.returns-in-Won
returns-in-Won c =
    result c.won_by.type_inv c.won_by.ensures ∙ eval_ended _ (position_of c.args.g) _ _
    c.in-Won.is tt

pub returns-in-X : goal.returns-in-X
returns-in-X c =
    result c.score-score.type_inv c.score-score.ensures.0
    ∙ eval_open _ (position_of c.args.g) _ c.in-InPlay.is X
    c.in-X.is

pub returns-in-O : goal.returns-in-O
returns-in-O c =
    let for-o : Held w64 51539607552 = minus (held_promised c.score-score.ensures) tt in
    held_reads for-o tt ∙ eval_open _ (position_of c.args.g) _
    c.in-InPlay.is O c.in-O.is
