-- What a cursor means: the list of the moves that it has left.
use Rattle.std.specs.Prelude.{◌≡◌, Option, None, Some, List, ◌++◌, map, ℕ, ◌+◌, ◌*◌, ◌/◌, ◌%◌}
use Rattle.std.specs.Iterator.{YieldsFirstBy}
use Rattle.base.specs.Lists.{filter, from, elem}
use Rattle.base.specs.Bits.{bit, digits}
use Rattle.rules.specs.Play.{move_of}
use Rattle.boards.specs.declared.moves.Move.{Move}
use Rattle.boards.specs.declared.moves.MoveIterator.{MoveIterator}

-- the move at place k of row r, whose three boards have nine places each
abbrev pub move_at : ℕ → ℕ → ℕ
move_at r k = move_of (3 * r + k / 9) (k % 9)

-- a bit for each place of a row
unfoldable pub row_moves : ℕ → ℕ → List ℕ
row_moves r n = map (move_at r) (filter (bit n) (from 0 27))

unfoldable pub moves_left : MoveIterator → List ℕ
moves_left it = row_moves 0 it.top ++ (row_moves 1 it.middle ++ row_moves 2 it.bottom)

-- the cursor over a list of moves that rises as the list of moves does
unfoldable pub row_over : ℕ → List ℕ → ℕ
row_over r ms = digits (λ k. elem (move_at r k) ms) 27

abbrev pub cursor_over : List ℕ → MoveIterator
cursor_over ms = record { top = row_over 0 ms; middle = row_over 1 ms; bottom = row_over 2 ms }

-- the cursor after a step is the one over what is left, or as it was where nothing is
abbrev pub left_as : MoveIterator → Option Move → MoveIterator → Type 0
left_as it None after = after ≡ it
left_as it (Some m) after = after ≡ cursor_over (moves_left after)

-- a step gives the first of the moves left and leaves the others
abbrev pub Lists : MoveIterator → Option Move → MoveIterator → Type 0
Lists it next after = YieldsFirstBy (λ m. m.bits) moves_left it next after × left_as it next after
