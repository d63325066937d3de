-- The numbers before the next one are compared.
use mathlib.Core.Path.{◌∙◌}
use Rattle.replay.proofs.AgreementCompared.{compared_next}
use Rattle.replay.proofs.agreement.Agreement.numbers.Goals as goal

pub loop-n-preserved : goal.loop-n-preserved
loop-n-preserved c =
    let l = c.loop-n in
    c.number-agreement.ensures ∙ rw l.invariant (compared_next _ c.args.ns.now l.n-index c.loop-n-test.true)
