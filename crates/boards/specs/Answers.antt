-- The numbers of document 01 for the refusals of a move, and what is answered of a board and a cell.
use Rattle.std.specs.Prelude.{Bool, ◌&&◌, ℕ, ltb, Result, Ok, Err}
use Rattle.base.specs.Branch.{when◌then◌else◌}
use Rattle.boards.specs.declared.moves.MoveError.{MoveError}
use Rattle.boards.specs.declared.moves.MoveError.TheVariants.{WrongBoard, WonBoard, OutOfBounds, NotEmpty, GameOver}

abbrev pub move_error_number : MoveError → ℕ
move_error_number OutOfBounds = 9
move_error_number GameOver = 10
move_error_number WonBoard = 11
move_error_number WrongBoard = 12
move_error_number NotEmpty = 13

abbrev pub in_range : ℕ → ℕ → Bool
in_range b c = ltb b 9 && ltb c 9

-- what is answered within range; a board or cell over 8 is refused as out of bounds
unfoldable pub within : {A : Type 0} → Bool → A → Result A MoveError
within ok a = when ok then (λ _. Ok a) else λ _. Err OutOfBounds
