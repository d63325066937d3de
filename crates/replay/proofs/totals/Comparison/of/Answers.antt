-- By the two tests.
use Rattle.base.specs.Branch.{when◌then◌else◌}
use Rattle.replay.specs.Totals.{comparison}
use Rattle.replay.proofs.totals.Comparison.of.Goals as goal

pub returns-in-true-true : goal.returns-in-true-true
unfolding comparison when◌then◌else◌
returns-in-true-true c = rw (c.in-true-true.is-0, c.in-true-true.is-1)

pub returns-in-true-false : goal.returns-in-true-false
unfolding comparison when◌then◌else◌
returns-in-true-false c = rw (c.in-true-false.is-0, c.in-true-false.is-1)

pub returns-in-false-default : goal.returns-in-false-default
unfolding comparison when◌then◌else◌
returns-in-false-default c = rw c.in-false-default.is-0
