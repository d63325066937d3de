-- The parts one after another.
use Rattle.text.specs.Bytes.{quoted}
use Rattle.answer_text.proofs.AnswerBytes.{added_append}
use Rattle.replay.proofs.TotalsText.{verdict_without, verdict_with}
use Rattle.replay.proofs.totals.Totals.verdict.Goals as goal

pub returns-then-self-eq0 : goal.returns-then-self-eq0
unfolding quoted
returns-then-self-eq0 c =
    verdict_without c.args.self _ _ c.if-self-eq0.true
    (simp added_append (rw (
      c.push.ensures,
      c.text-agree.ensures,
      c.decimal-records.ensures,
      c.text.ensures,
      c.decimal-agreed.ensures,
      c.new.ensures,
    )))

pub returns : goal.returns
unfolding quoted
returns c =
    verdict_with c.args.self _ _ c.if-self-eq0.false
    (simp added_append (rw (
      c.push-2.ensures,
      c.text-4.ensures,
      c.text-3.ensures,
      c.decimal-apart.ensures,
      c.text-2.ensures,
      c.text-agree.ensures,
      c.decimal-records.ensures,
      c.text.ensures,
      c.decimal-agreed.ensures,
      c.new.ensures,
    )))
