-- What the packed numbers mean, whatever they hold: a bit that no board uses is not looked at, a cell with both bits is X's, and a board or
-- cell over 8 reads as open and empty.
use Rattle.std.specs.Prelude.{Bool, true, false, ◌&&◌, ℕ, ◌+◌, ◌*◌, ◌/◌, ◌%◌, ltb, get_or}
use Rattle.rules.specs.declared.Player.TheVariants.{X, O}
use Rattle.rules.specs.declared.CellState.{CellState}
use Rattle.rules.specs.declared.CellState.TheVariants.{Empty, Played}
use Rattle.rules.specs.declared.GameState.{GameState}
use Rattle.rules.specs.declared.GameState.TheVariants.{InPlay, Drawn, Won}
use Rattle.base.specs.Branch.{when◌then◌else◌}
use Rattle.base.specs.Bits.{bit}
use Rattle.boards.specs.declared.local.Row.{Row}
use Rattle.boards.specs.declared.local.LocalBoards.{LocalBoards}
use Rattle.boards.specs.declared.states.GlobalStates.{GlobalStates}

-- ---- cells
abbrev pub cell_of_bits : Bool → Bool → CellState
cell_of_bits true o = Played X
cell_of_bits false true = Played O
cell_of_bits false false = Empty

abbrev pub no_row : Row
no_row = record { x = 0; o = 0 }

-- the row of three boards in which board b stands
abbrev pub row_of : LocalBoards → ℕ → Row
row_of l b = get_or l.rows (b / 3) no_row

-- the place of cell c of board b in that row
abbrev pub place : ℕ → ℕ → ℕ
place b c = b % 3 * 9 + c

unfoldable pub cell_at : LocalBoards → ℕ → ℕ → CellState
cell_at l b c =
    when ltb b 9 && ltb c 9
    then (λ _. cell_of_bits (bit (row_of l b).x (place b c)) (bit (row_of l b).o (place b c)))
    else λ _. Empty

-- ---- states of the boards: drawn if both bits
abbrev pub state_of_bits : Bool → Bool → GameState
state_of_bits true true = Drawn
state_of_bits true false = Won X
state_of_bits false true = Won O
state_of_bits false false = InPlay

unfoldable pub state_at : GlobalStates → ℕ → GameState
state_at s b = when ltb b 9 then (λ _. state_of_bits (bit s.x b) (bit s.o b)) else λ _. InPlay
