use Prim.Native.Nat.{◌-◌}
use Rattle.input.specs.Lines.{longest}
use Rattle.replay.proofs.ListCounted.{LeadsFrom}
use Rattle.replay.proofs.list.count_all.Given as goal

abbrev pub invariant-loop-stdin : goal.invariant-loop-stdin
invariant-loop-stdin g l =
    LeadsFrom g.R.Replayer.outcome_of l.fn.totals (record { input = l.input; buffer = l.buffer; kept = l.kept }) l.totals

abbrev pub decreases-loop-stdin : goal.decreases-loop-stdin
decreases-loop-stdin g l = longest - l.totals.records
