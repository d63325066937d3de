-- The bytes before the next one are compared.
use mathlib.Core.Path.{◌∙◌}
use Rattle.replay.proofs.AgreementCompared.{compared_next}
use Rattle.replay.proofs.agreement.Agreement.bytes.Goals as goal

pub loop-b-preserved : goal.loop-b-preserved
loop-b-preserved c =
    let l = c.loop-b in
    c.number-agreement.ensures ∙ rw (l.invariant, c.from.ensures) (compared_next _ c.args.bytes.now l.b-index c.loop-b-test.true)
