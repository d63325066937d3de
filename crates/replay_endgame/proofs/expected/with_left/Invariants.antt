use mathlib.Core.Path.{◌≡◌}
use lib.ListN.{length}
use Rattle.base.specs.Lists.{concat_map}
use Rattle.boards.specs.Cursor.{moves_left}
use Rattle.game.specs.Meaning.{position_of}
use Rattle.replay.specs.Agreement.{left_of, compared_all}
use Rattle.replay_endgame.specs.Records.{move_numbers}
use Rattle.replay_endgame.proofs.expected.with_left.Given as goal

abbrev pub decreases-loop-m : goal.decreases-loop-m
decreases-loop-m l = length (moves_left l.m-iterator)

abbrev pub invariant-loop-m : goal.invariant-loop-m
invariant-loop-m l =
    compared_all (left_of l.so_far) (concat_map (move_numbers (position_of l.game)) (moves_left l.m-iterator))
    ≡ compared_all (left_of l.begun) (concat_map (move_numbers (position_of l.game)) (moves_left l.fn.list))
