-- The parts are compared together, and the cells by the open boards of the first game.
use mathlib.Core.Path.{◌∙◌}
use Rattle.game.specs.Meaning.{position_of}
use Rattle.game.proofs.MeaningSides.{parts_same}
use Rattle.game.proofs.MeaningCounts.{same_boards, other, compared}
use Rattle.game.proofs.Game.equivalent.Goals as goal

pub returns-then-eq : goal.returns-then-eq
returns-then-eq c =
    compared (position_of c.args.self) (position_of c.args.rhs) _
    (c.eq.ensures ∙ parts_same (position_of c.args.self) (position_of c.args.rhs)) c.if-eq.true _
    (c.same_in.ensures ∙ same_boards (position_of c.args.self) _ _ _ c.openbits.ensures)

pub returns-else-eq : goal.returns-else-eq
returns-else-eq c =
    other (position_of c.args.self) (position_of c.args.rhs) _
    (c.eq.ensures ∙ parts_same (position_of c.args.self) (position_of c.args.rhs)) c.if-eq.false
