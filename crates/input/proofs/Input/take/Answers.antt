-- What is left of the bytes makes of the line so far what all of them make of the line at first.
use mathlib.Core.Path.{◌∙◌}
use Prim.Native.Nat.{◌+◌}
use native.Mathlib.Omega.{arith}
use lib.ListN.{drop_of_length-le}
use Rattle.base.proofs.LineFeed.{byte_taken_at, feed_found_at, all_taken_at}
use Rattle.input.specs.Lines.{kept_with}
use Rattle.input.proofs.Lines.{unused_is, takes}
use Rattle.input.proofs.Input.take.Goals as goal

pub returns-then-b-eq10 : goal.returns-then-b-eq10
returns-then-b-eq10 c =
    let l = c.loop-b in
    takes _ _ _ _ _ (l.b-index + 1) _ _ _ (unused_is c.args.self.now c.args.buffer.now _ _ c.min-end.ensures c.min.ensures)
    (l.invariant.same ∙ feed_found_at kept_with _ _ l.b-index c.loop-b-test.true c.if-b-eq10.true) l.invariant.end_is (omega arith)
    (omega arith)

pub loop-b-preserved : goal.loop-b-preserved
loop-b-preserved c =
    let l = c.loop-b in record {
      same = rw (c.push-line.ensures.0, c.push-line.ensures.1) (l.invariant.same
          ∙ byte_taken_at kept_with _ _ l.b-index c.loop-b-test.true c.if-b-eq10.false);
      not_ended = rw c.push-line.ensures.0 l.invariant.not_ended;
      end_is = l.invariant.end_is;
      at_is = omega arith;
    }

pub returns : goal.returns
returns c =
    let l = c.loop-b in
    takes _ _ _ _ _ l.b-index _ _ _ (unused_is c.args.self.now c.args.buffer.now _ _ c.min-end.ensures c.min.ensures)
    (rw (l.invariant.not_ended, drop_of_length-le _ c.loop-b-test.false) (l.invariant.same
    ∙ all_taken_at kept_with _ _ l.b-index c.loop-b-test.false)) l.invariant.end_is l.invariant.at_is (omega arith)
