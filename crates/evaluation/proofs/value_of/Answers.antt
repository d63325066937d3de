-- What the board's state says: its score in play, nothing for a draw, and the weight for the winner.
use mathlib.Core.Path.{sym, ap, ◌∙◌}
use Rattle.rules.specs.declared.GameState.TheVariants.{Won}
use mir.Syntax.{w32}
use Rattle.game.specs.Meaning.{position_of}
use Rattle.base.proofs.Signed.{result_at, Held, held_promised, held_reads, minus}
use borrow.Author.Rules.{rules}
use Rattle.evaluation.proofs.ValuesBoards.{value_is, value_open}
use Rattle.evaluation.proofs.value_of.Goals as goal

pub returns-in-InPlay : goal.returns-in-InPlay
returns-in-InPlay c =
    result_at w32 c.score_board.type_inv c.score_board.ensures
    ∙ value_open _ (position_of c.args.g) _
    (sym c.at.ensures ∙ c.in-InPlay.is)

pub returns-in-Drawn : goal.returns-in-Drawn
returns-in-Drawn c =
    value_is _ (position_of c.args.g) _ _
    (sym c.at.ensures ∙ c.in-Drawn.is)

pub returns-in-Won-X : goal.returns-in-Won-X
returns-in-Won-X c =
    result_at w32 c.from.type_inv c.from.ensures
    ∙ value_is _ (position_of c.args.g) _ _
    (sym c.at.ensures ∙ c.in-Won-X.is ∙ ap Won c.in-Won-X.field-0-is)

pub returns-in-Won-O : goal.returns-in-Won-O
returns-in-Won-O c =
    let for-o : Held w32 65535 = minus (held_promised (c.from-in-Won-O.ensures, search rules)) tt in
    held_reads for-o tt
    ∙ value_is _ (position_of c.args.g) _ _
    (sym c.at.ensures ∙ c.in-Won-O.is ∙ ap Won c.in-Won-O.field-0-is)
