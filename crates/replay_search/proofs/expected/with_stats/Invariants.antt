use mathlib.Core.Path.{◌≡◌}
use mathlib.Core.List.{map}
use lib.ListN.{take}
use Rattle.minimax.specs.Report.{stats_of}
use Rattle.replay.specs.Agreement.{left_of, compared_all}
use Rattle.replay_search.specs.Records.{depths_numbers}
use Rattle.replay_search.proofs.expected.with_stats.Given as goal

abbrev pub invariant-loop-s : goal.invariant-loop-s
invariant-loop-s l =
    compared_all (left_of l.so_far) (depths_numbers (take l.s-iterator.n (map stats_of l.s-iterator.iter.rest.now)))
    ≡ compared_all (left_of l.begun) (depths_numbers (take l.depth (map stats_of l.fn.stats)))
