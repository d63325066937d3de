-- A position as a text of 101 bytes.
use Rattle.std.specs.Prelude.{◌||◌, List, [], ◌∷◌, ◌++◌, map, ℕ, ◌-◌, ◌/◌, ◌%◌, eqb, ltb, Some}
use Rattle.rules.specs.declared.CellState.{CellState}
use Rattle.rules.specs.declared.CellState.TheVariants.{Empty, Played}
use Rattle.rules.specs.declared.GameState.{GameState}
use Rattle.rules.specs.declared.GameState.TheVariants.{InPlay, Drawn, Won}
use Rattle.base.specs.Branch.{when◌then◌else◌}
use Rattle.rules.specs.Board.{nine}
use Rattle.rules.specs.Position.{Position, same_next_board}
use Rattle.text.specs.Bytes.{semicolon, slash, dot, hash_mark, at_mark, letter}

abbrev pub state_byte : GameState → ℕ
state_byte InPlay = dot
state_byte Drawn = hash_mark
state_byte (Won w) = letter w

abbrev pub cell_byte : CellState → ℕ
cell_byte Empty = dot
cell_byte (Played w) = letter w

-- the board that is due is marked, whatever its state
unfoldable pub overall_byte : Position → ℕ → ℕ
overall_byte p b = when same_next_board p.next_board (Some b) then (λ _. at_mark) else λ _. state_byte (p.states b)

unfoldable pub board_text : Position → ℕ → List ℕ
board_text p b = map (λ c. cell_byte (p.cells b c)) nine

-- several boards, joined by a byte
unfoldable pub joined_by : ℕ → (ℕ → List ℕ) → List ℕ → List ℕ
joined_by c f [] = []
joined_by c f (b ∷ []) = f b
joined_by c f (b ∷ d ∷ bs) = f b ++ (c ∷ joined_by c f (d ∷ bs))

unfoldable pub text_of : Position → List ℕ
text_of p = letter p.turn ∷ semicolon ∷ (map (overall_byte p) nine ++ (semicolon ∷ joined_by slash (board_text p) nine))

-- ---- the same, byte by byte
-- what stands at place k of the cells' 89: cell k % 10 of board k / 10, and a `/` after nine of them
unfoldable pub cells_byte : Position → ℕ → ℕ
cells_byte p k = when eqb (k % 10) 9 then (λ _. slash) else λ _. cell_byte (p.cells (k / 10) (k % 10))

-- what stands at place i of the 101: side, `;`, nine overall marks, `;`, cells
unfoldable pub byte_at : Position → ℕ → ℕ
byte_at p i =
    when eqb i 0 then (λ _. letter p.turn) else
    λ _. when eqb i 1 || eqb i 11 then (λ _. semicolon) else
    λ _. when ltb i 11 then (λ _. overall_byte p (i - 2)) else λ _. cells_byte p (i - 12)
