-- However the run goes on, it is one from where it began; each read leaves one read fewer, or ends the run.
use borrow.Author.Rules.{rules}
use Rattle.ultimattt.proofs.Runs.{one_read_more, at_its_end, turns_fall}
use Rattle.ultimattt.proofs.answer_from.Goals as goal

pub loop-stdin-smaller : goal.loop-stdin-smaller
loop-stdin-smaller c = turns_fall c.loop-stdin.run _ _ _ _ c.goes_on.ensures c.loop-stdin-test.true c.after_read-run.ensures

pub loop-stdin-preserved : goal.loop-stdin-preserved
loop-stdin-preserved c =
    let l = c.loop-stdin in (
      search rules,
      one_read_more _ l.run _ _ _ _ c.goes_on.ensures c.loop-stdin-test.true c.after_read-run.ensures l.invariant.1,
    )

pub returns : goal.returns
returns c = at_its_end _ _ _ c.goes_on.ensures c.loop-stdin-test.false c.loop-stdin.invariant.1
