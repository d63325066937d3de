use mathlib.Core.Path.{◌≡◌}
use mathlib.Core.List.{map}
use Prim.Native.Nat.{◌+◌, ◌*◌}
use lib.ListN.{length, drop}
use lib.Seq.{sets}
use Rattle.minimax.specs.Report.{stats_of}
use Rattle.interface.specs.Calls.{all_stats}
use Rattle.interface.proofs.report.put_stats.Given as goal

abbrev pub invariant-loop-i : goal.invariant-loop-i
invariant-loop-i l =
    (length l.out ≡ length l.initial.out) ×
    (sets l.out (l.at + 7 * l.i) (all_stats (map stats_of (drop l.i l.fn.stats))) ≡ sets l.initial.out l.at (all_stats (map stats_of l.fn.stats)))
