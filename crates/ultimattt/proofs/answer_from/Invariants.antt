use mathlib.Core.Path.{◌≡◌}
use lib.ListN.{length}
use Rattle.ultimattt.proofs.Runs.{LeadsFrom, turns_left}
use Rattle.ultimattt.proofs.answer_from.Given as goal

abbrev pub invariant-loop-stdin : goal.invariant-loop-stdin
invariant-loop-stdin l = (length l.buffer ≡ 65536) × LeadsFrom l.initial.run l.run

abbrev pub decreases-loop-stdin : goal.decreases-loop-stdin
decreases-loop-stdin l = turns_left l.run
