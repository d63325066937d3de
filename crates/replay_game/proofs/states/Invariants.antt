use mathlib.Core.Path.{◌≡◌}
use mathlib.Core.List.{map}
use Rattle.base.specs.Lists.{from}
use Rattle.replay.specs.Agreement.{left_of, compared_all}
use Rattle.game.specs.Meaning.{position_of}
use Rattle.game.specs.declared.Game.{Game}
use Prim.Native.Nat.{ℕ, ◌-◌}
use Rattle.rules.specs.Board.{state_number}
use Rattle.replay_game.specs.Records.{states_numbers}
use Rattle.replay_game.proofs.states.Given as goal

abbrev pub number_at : Game → ℕ → ℕ
number_at g j = state_number ((position_of g).states j)

abbrev pub invariant-loop-b : goal.invariant-loop-b
invariant-loop-b l =
    compared_all (left_of l.compared) (map (number_at l.g) (from l.b (9 - l.b))) ≡
    compared_all (left_of l.initial.compared) (states_numbers (position_of l.g))
