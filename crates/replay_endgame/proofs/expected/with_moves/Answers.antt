-- The first cell of the first board, where no move is listed.
use mathlib.Core.Path.{sym, ap, ◌∙◌}
use lib.ListN.{length}
use Rattle.replay_endgame.proofs.RecordsCompared.{first_compared}
use Rattle.replay_endgame.proofs.expected.with_moves.Goals as goal

pub returns-then-count-eq0 : goal.returns-then-count-eq0
returns-then-count-eq0 c =
    first_compared _ _ (ap length (sym c.listed-list.ensures) ∙ sym c.count.ensures ∙ c.if-count-eq0.true)
    c.with_move.ensures
