use Prim.Native.Nat.{◌+◌, ◌-◌}
use Rattle.replay.specs.Agreement.{left_of}
use Rattle.replay_game.specs.declared.Run.{Run}
use Rattle.replay_game.specs.Records.{moves_from, Runs}
use Rattle.replay_game.proofs.run_moves.Given as goal

abbrev pub invariant-loop-at : goal.invariant-loop-at
invariant-loop-at l =
    (q : Run) → Runs (left_of l.run.compared) l.run.game (moves_from l.words l.at (l.from + l.count - l.at)) q →
    Runs (left_of l.fn.begun) l.fn.start (moves_from l.words l.from l.count) q
