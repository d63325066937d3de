use mathlib.Core.Path.{◌≡◌}
use lib.ListN.{take}
use Rattle.minimax.specs.Report.{bytes_of}
use Rattle.replay.specs.Agreement.{left_of, compared_all}
use Rattle.replay_search.proofs.expected.with_line.Given as goal

abbrev pub invariant-loop-m : goal.invariant-loop-m
invariant-loop-m l =
    compared_all (left_of l.so_far) (take l.m-iterator.n (bytes_of l.m-iterator.iter.rest.now))
    ≡ compared_all (left_of l.begun) (take l.depth (bytes_of l.fn.line))
