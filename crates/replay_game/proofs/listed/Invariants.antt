use mathlib.Core.Path.{◌≡◌}
use lib.ListN.{length}
use Rattle.replay.specs.Agreement.{left_of, compared_all}
use Rattle.boards.specs.Cursor.{moves_left}
use Rattle.replay_game.proofs.listed.Given as goal

abbrev pub decreases-loop-m : goal.decreases-loop-m
decreases-loop-m l = length (moves_left l.m-iterator)

abbrev pub invariant-loop-m : goal.invariant-loop-m
invariant-loop-m l =
    compared_all (left_of l.compared) (moves_left l.m-iterator) ≡ compared_all (left_of l.fn.begun) (moves_left l.fn.list)
