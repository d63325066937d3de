-- The parts one after another, a blank between them.
use mir.Facts.{to_z-of_z}
use Rattle.status.specs.Sets.{set_of}
use Rattle.answer_text.specs.AnswerBytes.{move_bytes}
use Rattle.answer_text.proofs.AnswerBytes.{parts_written}
use Rattle.answer_text.proofs.AnswerText.answer.Goals as goal

pub returns : goal.returns
returns c =
    let a = c.args in
    rw (
      c.moves.ensures,
      c.push-5.ensures,
      c.decimal-3.ensures,
      c.push-4.ensures,
      c.signed.ensures,
      c.push-3.ensures,
      c.decimal-2.ensures,
      c.push-2.ensures,
      c.decimal.ensures,
      c.push.ensures,
      c.status.ensures,
      c.new.ensures,
      to_z-of_z c.ranges.score,
    ) (parts_written (set_of a.status) a.legal a.depth a.score a.count (move_bytes a.line))
