-- 18 where no depth is whole.
use borrow.Author.Tests.{eq-eqb, ne_eqb}
use Rattle.minimax.proofs.ReportAnswers.{ends_whole, ends_spent, ends_stopped}
use Rattle.minimax.proofs.CompletedDepths.ending.Goals as goal

pub returns-then-not-stopped : goal.returns-then-not-stopped
returns-then-not-stopped c = ends_whole c.args.self.depth c.args.stopped (c.if-not-stopped.true)

pub returns-then-self-eq0 : goal.returns-then-self-eq0
returns-then-self-eq0 c =
    ends_spent c.args.self.depth c.args.stopped
    c.if-not-stopped.false (eq-eqb _ 0 c.if-self-eq0.true)

pub returns : goal.returns
returns c =
    ends_stopped c.args.self.depth c.args.stopped
    c.if-not-stopped.false (ne_eqb _ 0 c.if-self-eq0.false)
