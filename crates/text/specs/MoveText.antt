-- A move as two letters, board then cell.
use Rattle.std.specs.Prelude.{Bool, ◌&&◌, List, [], ◌∷◌, ℕ, ◌+◌, ◌-◌, leb}
use Rattle.base.specs.Branch.{when◌then◌else◌}
use Rattle.rules.specs.Play.{move_of, board_of, cell_of}
use Rattle.text.specs.Bytes.{first_letter}

pub data MoveReading : Type 0 where
  reads_move : ℕ → MoveReading
  -- 7: not two bytes
  bad_length : MoveReading
  -- 8, with the byte that is not `a` to `i`, the first one first
  bad_character : ℕ → MoveReading

-- document 01's numbers, 0 where nothing is refused
abbrev pub move_refusal : MoveReading → ℕ
move_refusal (reads_move m) = 0
move_refusal bad_length = 7
move_refusal (bad_character c) = 8

abbrev pub coordinate : ℕ → Bool
coordinate c = leb first_letter c && leb c (first_letter + 8)

unfoldable pub read_letters : ℕ → ℕ → MoveReading
read_letters b c =
    when coordinate b
    then (λ _. when coordinate c then (λ _. reads_move (move_of (b - first_letter) (c - first_letter))) else λ _. bad_character c)
    else λ _. bad_character b

abbrev pub read_move : List ℕ → MoveReading
read_move [] = bad_length
read_move (b ∷ []) = bad_length
read_move (b ∷ c ∷ []) = read_letters b c
read_move (b ∷ c ∷ d ∷ cs) = bad_length

-- of any byte: `a` and its high half, `a` and its low half
abbrev pub move_text : ℕ → List ℕ
move_text m = (first_letter + board_of m) ∷ (first_letter + cell_of m) ∷ []
