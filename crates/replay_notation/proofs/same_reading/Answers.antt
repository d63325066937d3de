-- By the answer, which is that of the definition.
use mathlib.Core.Path.{sym, ap, ◌∙◌}
use Rattle.text.specs.Reading.{Reading}
use Rattle.replay.specs.Agreement.{same_numbers}
use Rattle.replay_notation.specs.Records.{reading_record, game_numbers}
use Rattle.replay_notation.proofs.RecordsCompared.{refusal_compared, answer_compared}
use Rattle.replay_notation.proofs.RecordsReading.{refused_reads, accepted_compared}
use Rattle.replay_notation.proofs.same_reading.Goals as goal

pub returns-in-Err : goal.returns-in-Err
returns-in-Err c =
    let a = c.args in
    refusal_compared a.words.now a.text.now _ _ _ _ _ _ _ _ c.question.ensures (rw c.number.ensures at c.number-in-Err.ensures)
    c.number-in-Err-2.ensures c.number-in-Err-3.ensures c.is_whole.ensures
    ∙ sym (ap (λ (x : Reading). same_numbers a.words.now (reading_record a.text.now x)) (refused_reads _ _ c.parse.ensures _ c.in-Err.is))

pub returns-in-Ok : goal.returns-in-Ok
returns-in-Ok c =
    let a = c.args in
    accepted_compared a.text.now _ c.parse.ensures _ c.in-Ok.is a.words.now _
    (answer_compared a.words.now 5 a.text.now (game_numbers c.in-Ok.game) _ _ _ c.question-in-Ok.ensures c.add_game.ensures
    c.is_whole-in-Ok.ensures)
