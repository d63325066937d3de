-- The held line's answer, if it fits.
use Rattle.interface.proofs.Calls.{answers_written, answers_kept}
use Rattle.interface.proofs.ultimattt_answer.Goals as goal

pub returns-then-bytes-out : goal.returns-then-bytes-out
returns-then-bytes-out c =
    let a = c.args in
    answers_written a.line.now _ c.new-held.ensures _ c.push_all.ensures _ c.answer-answer.ensures
    _ c.as_slice-bytes.ensures
    a.out.now _ c.if-bytes-out.true c.put.ensures

pub returns-else-bytes-out : goal.returns-else-bytes-out
returns-else-bytes-out c =
    let a = c.args in
    answers_kept a.line.now _ c.new-held.ensures _ c.push_all.ensures _ c.answer-answer.ensures
    _ c.as_slice-bytes.ensures
    a.out.now c.if-bytes-out.false
