-- Nothing, or the parts one after another.
use Rattle.text.specs.Bytes.{quoted}
use Rattle.answer_text.proofs.AnswerBytes.{added_append}
use Rattle.replay.proofs.totals.record_text.Goals as goal

pub returns-in-Differs : goal.returns-in-Differs
unfolding quoted
returns-in-Differs c =
    rw c.in-Differs.is (simp added_append (rw (c.push.ensures, c.decimal.ensures, c.text-begun.ensures, c.new.ensures)))
