-- What the parts of reading a text give.
use Rattle.std.specs.Prelude.{◌≡◌, List, ℕ, ◌+◌, ◌-◌, ◌^◌, ◌<◌, T, length, get_or, Option, None, Some, Result, Ok, Err, IfOk}
use Rattle.base.specs.Branch.{when◌then◌else◌}
use Rattle.base.specs.Lists.{all, from}
use Rattle.rules.specs.declared.CellState.{CellState}
use Rattle.rules.specs.declared.CellState.TheVariants.{Empty, Played}
use Rattle.text.specs.Bytes.{first_letter}
use Rattle.text.specs.Reading.{Reading, cell_mark, or_else, first_bad, last_at, fault_at, first_fault, cell_in, state_in}
use Rattle.text.specs.MoveText.{coordinate}
use Rattle.boards.specs.declared.local.LocalBoards.{LocalBoards}
use Rattle.boards.specs.declared.states.GlobalStates.{GlobalStates}
use Rattle.boards.specs.Packed.{cell_at, state_at}
use Rattle.boards.specs.With.{with_cell}
use Rattle.game.specs.declared.Game.{Game}
use Rattle.game.specs.Neat.{neat_row}
use Rattle.notation.specs.declared.ErrorKind.{ErrorKind}
use Rattle.notation.specs.declared.ErrorKind.TheVariants.{BadBoard}
use Rattle.notation.specs.declared.ParseError.{ParseError}
use Rattle.notation.specs.declared.ParseMoveError.{ParseMoveError}
use Rattle.notation.specs.declared.ParseMoveError.TheVariants.{BadCharacter}
use Rattle.notation.specs.Parsed.{kind_number, reading_of, game_for}

-- ---- answers
abbrev pub error_at : ErrorKind → ℕ → ℕ → ParseError
error_at why o l = record { why = why; offset = o; length = l }

-- the answer says what was read, and the game is the one for it
pub record AnswersReading (x : Reading) (r : Result Game ParseError) : Type 0 where
  pub says : reading_of r ≡ x
  pub game_is : IfOk r (λ g. g ≡ game_for x)

-- ---- the overall marks
-- the boards' states, with no bit beyond the nine, and the next board
pub record MarksSay (os : List ℕ) (s : GlobalStates) (n : Option ℕ) : Type 0 where
  pub none_bad : first_bad os ≡ None
  pub states_are : state_at s ≡ state_in os
  pub x_fits : s.x < 2 ^ 9
  pub o_fits : s.o < 2 ^ 9
  pub due_is : n ≡ last_at 0 os None

-- the first bad mark, in a section that begins at 2
pub record FirstBad (os : List ℕ) (e : ParseError) : Type 0 where
  pub i : ℕ
  pub first : first_bad os ≡ Some i
  pub error_is : e ≡ error_at BadBoard (2 + i) 1

abbrev pub ReadsOverall : List ℕ → Result (GlobalStates × Option ℕ) ParseError → Type 0
ReadsOverall os (Ok r) = MarksSay os r.0 r.1
ReadsOverall os (Err e) = FirstBad os e

-- ---- the cells
-- the boards with what is said of cell c of board b
abbrev pub with_cell_state : LocalBoards → ℕ → ℕ → CellState → LocalBoards
with_cell_state l b c Empty = l
with_cell_state l b c (Played w) = with_cell l b c w

-- what byte i says of a cell, or its fault
abbrev pub ReadsCell : List ℕ → ℕ → Result CellState ErrorKind → Type 0
ReadsCell cs i (Ok s) = (fault_at cs i ≡ 0) × (s ≡ or_else (cell_mark (get_or cs i 0)) Empty)
ReadsCell cs i (Err why) = fault_at cs i ≡ kind_number why

-- the cells, in three neat rows
pub record CellsSay (cs : List ℕ) (l : LocalBoards) : Type 0 where
  pub faultless : first_fault cs (from 0 89) ≡ 0
  pub cells_are : cell_at l ≡ cell_in cs
  pub three : length l.rows ≡ 3
  pub each : T (all neat_row l.rows)

abbrev pub ReadsCells : List ℕ → Result LocalBoards ErrorKind → Type 0
ReadsCells cs (Ok l) = CellsSay cs l
ReadsCells cs (Err why) = kind_number why ≡ first_fault cs (from 0 89)

-- ---- a move's letter
unfoldable pub coordinate_of : ℕ → Result ℕ ParseMoveError
coordinate_of c = when coordinate c then (λ _. Ok (c - first_letter)) else λ _. Err (BadCharacter c)
