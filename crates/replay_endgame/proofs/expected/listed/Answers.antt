-- No move, or those of the game as if it went on.
use mathlib.Core.Path.{sym, ◌∙◌}
use Rattle.replay_endgame.proofs.RecordsMoves.{none_listed, all_listed}
use Rattle.replay_endgame.proofs.expected.listed.Goals as goal

pub returns-then-has_line_of_boards : goal.returns-then-has_line_of_boards
returns-then-has_line_of_boards c = none_listed _ (sym c.has_line_of_boards.ensures ∙ c.if-has_line_of_boards.true)

pub returns : goal.returns
returns c =
    all_listed _ (sym c.has_line_of_boards.ensures ∙ c.if-has_line_of_boards.false) _ c.reopened.ensures _ c.all_moves.ensures
