use mathlib.Core.Path.{◌≡◌}
use Prim.Native.Nat.{◌+◌, ◌-◌}
use Rattle.replay.specs.Agreement.{left_of, compared_all}
use Rattle.replay_game.specs.Records.{moves_from}
use Rattle.replay_game.proofs.asked.Given as goal

abbrev pub invariant-loop-at : goal.invariant-loop-at
invariant-loop-at l =
    compared_all (left_of l.compared) (moves_from l.words l.at (l.from + l.count - l.at)) ≡
    compared_all (left_of l.fn.begun) (moves_from l.words l.from l.count)
