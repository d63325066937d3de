-- What was read and counted is one step more of the run.
use mathlib.Core.Path.{sym, ◌∙◌}
use Rattle.std.proofs.lemmas.Result.{err_from_is_err_and}
use Rattle.replay.specs.ListCounted.{full, ends, unread, unwritten, goes_on}
use Rattle.replay.proofs.TotalsCount.{fewer_left}
use Rattle.replay.proofs.list.count_all.Goals as goal

pub loop-stdin-smaller : goal.loop-stdin-smaller
loop-stdin-smaller g c = fewer_left _ _ _ c.count.ensures.0 (sym c.may_go_on.ensures ∙ c.loop-stdin-test.true)

pub returns-in_err-line : goal.returns-in_err-line
returns-in_err-line g c =
    let e = err_from_is_err_and c.from_residual.result c.from_residual.ensures.1 in
    rw (e.1, e.2) (c.loop-stdin.invariant _ _ (unread (sym c.may_go_on.ensures ∙ c.loop-stdin-test.true) c.in_err-line.ensures))

pub returns-in_default : goal.returns-in_default
returns-in_default g c =
    c.loop-stdin.invariant _ _ (ends (sym c.may_go_on.ensures ∙ c.loop-stdin-test.true) (rw c.in_default.is at c.in_ok-line.ensures))

pub loop-stdin-preserved : goal.loop-stdin-preserved
loop-stdin-preserved g c u r h =
    c.loop-stdin.invariant u r (goes_on (sym c.may_go_on.ensures ∙ c.loop-stdin-test.true) (rw c.in-Some.is at c.in_ok-line.ensures)
    (rw (c.outcome.ensures, c.whole.ensures) at c.in_ok-count.ensures) h)

pub returns-in_err-count : goal.returns-in_err-count
returns-in_err-count g c =
    let e = err_from_is_err_and c.from_residual-in_err-count.result c.from_residual-in_err-count.ensures.1 in
    rw (e.1, e.2) (c.loop-stdin.invariant _ _ (unwritten (sym c.may_go_on.ensures ∙ c.loop-stdin-test.true)
    (rw c.in-Some.is at c.in_ok-line.ensures) (rw (c.outcome.ensures, c.whole.ensures) at c.in_err-count.ensures)))

pub returns : goal.returns
returns g c = c.loop-stdin.invariant _ _ (full (sym c.may_go_on.ensures ∙ c.loop-stdin-test.false))
