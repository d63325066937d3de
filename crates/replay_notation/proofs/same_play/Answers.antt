-- A game that is played from the empty board reads back, and its text is that of the position.
use mathlib.Core.Path.{sym, ◌∙◌}
use mathlib.Core.Bool.{true≢false}
use Rattle.replay_notation.proofs.RecordsPlay.{always_reads_back, play_compared}
use Rattle.replay_notation.proofs.same_play.Goals as goal

pub returns-then-reads_back : goal.returns-then-reads_back
returns-then-reads_back c =
    let a = c.args in
    play_compared a.moves.now _ _ c.new.ensures c.play_all-g.ensures a.words.now _ _ _ _
    c.render-text.ensures c.question.ensures c.bytes.ensures c.is_whole.ensures

pub returns-else-reads_back : goal.returns-else-reads_back
returns-else-reads_back c =
    absurd (true≢false (sym (always_reads_back c.args.moves.now _ _ c.new.ensures c.play_all-g.ensures _
    c.reads_back.ensures) ∙ c.if-reads_back.false))
