-- Positions: the side to move, the next board, the cells, the states of the nine boards, and the game's.
use Rattle.std.specs.Prelude.{Bool, true, false, ℕ, eqb, Option, None, Some}
use Rattle.rules.specs.declared.Player.{Player}
use Rattle.rules.specs.declared.Player.TheVariants.{X}
use Rattle.rules.specs.declared.CellState.{CellState}
use Rattle.rules.specs.declared.CellState.TheVariants.{Empty}
use Rattle.rules.specs.declared.GameState.{GameState}
use Rattle.rules.specs.declared.GameState.TheVariants.{InPlay}
use Rattle.rules.specs.Board.{blank, mine, in_play, won_by}

abbrev pub same_next_board : Option ℕ → Option ℕ → Bool
same_next_board None None = true
same_next_board None (Some c) = false
same_next_board (Some b) None = false
same_next_board (Some b) (Some c) = eqb b c

-- no board is due
abbrev pub is_free : Option ℕ → Bool
is_free None = true
is_free (Some b) = false

pub record Position : Type 0 where
  -- the side to move
  pub turn : Player
  -- the next board: free choice, or one board that is due
  pub next_board : Option ℕ
  -- cell c of board b
  pub cells : ℕ → ℕ → CellState
  -- board b, in play, drawn or won
  pub states : ℕ → GameState
  -- the game
  pub state : GameState

-- the empty board: X to move, free choice
abbrev pub start : Position
start = record { turn = X; next_board = None; cells = λ _ _. Empty; states = λ _. InPlay; state = InPlay }

abbrev pub unfinished : Position → Bool
unfinished p = in_play p.state

abbrev pub open_board : Position → ℕ → Bool
open_board p b = in_play (p.states b)

abbrev pub won_boards : Position → Player → ℕ → Bool
won_boards p w b = won_by w (p.states b)

abbrev pub free_cell : Position → ℕ → ℕ → Bool
free_cell p b c = blank (p.cells b c)

abbrev pub has : Position → Player → ℕ → ℕ → Bool
has p w b c = mine w (p.cells b c)
