-- An unfinished game, with X's boards, or else O's.
use mathlib.Core.Path.{refl, sym, ◌∙◌}
use borrow.Author.Tests.{not-false}
use Rattle.lines.proofs.Masks.{line_known}
use Rattle.game.specs.Meaning.{position_of}
use Rattle.replay_endgame.proofs.RecordsMoves.{lined_by_x, lined_by_o}
use Rattle.replay_endgame.proofs.expected.has_line_of_boards.Goals as goal

pub returns-then-has_line : goal.returns-then-has_line
returns-then-has_line c =
    c.if-has_line.true ∙ lined_by_x (position_of c.args.game) (not-false _ (sym c.if-not-game_over.ensures))
    (line_known _ _ _ _ c.xbits.ensures c.has_line.ensures c.if-has_line.true)

pub returns-else-has_line : goal.returns-else-has_line
returns-else-has_line c =
    lined_by_o (position_of c.args.game) (not-false _ (sym c.if-not-game_over.ensures))
    (line_known _ _ _ _ c.xbits.ensures c.has_line.ensures c.if-has_line.false) _
    (line_known _ _ _ _ c.obits.ensures c.has_line-else-has_line.ensures refl)
