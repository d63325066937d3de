use mathlib.Core.Path.{◌≡◌}
use mathlib.Core.List.{map}
use Rattle.base.specs.Lists.{from}
use Rattle.replay.specs.Agreement.{left_of, compared_all}
use Rattle.game.specs.Meaning.{position_of}
use Rattle.game.specs.declared.Game.{Game}
use Prim.Native.Nat.{ℕ, ◌-◌, ◌/◌, ◌%◌}
use Rattle.replay_game.specs.Records.{cell_number, cells_numbers}
use Rattle.replay_game.proofs.cells.Given as goal

abbrev pub number_at : Game → ℕ → ℕ
number_at g j = cell_number ((position_of g).cells (j / 9) (j % 9))

abbrev pub invariant-loop-k : goal.invariant-loop-k
invariant-loop-k l =
    compared_all (left_of l.compared) (map (number_at l.g) (from l.k (81 - l.k))) ≡
    compared_all (left_of l.initial.compared) (cells_numbers (position_of l.g))
