-- Sides, cells, the states of a board or of the game, and the eight lines.
use Rattle.std.specs.Prelude.{Bool, true, false, cond, ◌&&◌, List, [], ◌∷◌, ℕ, ◌+◌, ◌-◌, eqb}
use Rattle.rules.specs.declared.Player.{Player}
use Rattle.rules.specs.declared.Player.TheVariants.{X, O}
use Rattle.rules.specs.declared.CellState.{CellState}
use Rattle.rules.specs.declared.CellState.TheVariants.{Empty, Played}
use Rattle.rules.specs.declared.GameState.{GameState}
use Rattle.rules.specs.declared.GameState.TheVariants.{InPlay, Drawn, Won}
use Rattle.base.specs.Branch.{when◌then◌else◌}
use Rattle.base.specs.Lists.{any, from}

-- ---- sides
abbrev pub other : Player → Player
other X = O
other O = X

abbrev pub same : Player → Player → Bool
same X X = true
same X O = false
same O X = false
same O O = true

-- the number of a side
abbrev pub side_number : Player → ℕ
side_number X = 0
side_number O = 1

-- X for 0, O for any other number
abbrev pub side_from : ℕ → Player
side_from n = cond (eqb n 0) X O

abbrev pub sides : List Player
sides = X ∷ O ∷ []

-- ---- cells
abbrev pub blank : CellState → Bool
blank Empty = true
blank (Played w) = false

-- the cell is w's
abbrev pub mine : Player → CellState → Bool
mine w Empty = false
mine w (Played v) = same w v

abbrev pub same_cell : CellState → CellState → Bool
same_cell Empty d = blank d
same_cell (Played w) d = mine w d

-- ---- states of a board, or of the game
abbrev pub in_play : GameState → Bool
in_play InPlay = true
in_play Drawn = false
in_play (Won w) = false

-- w has won it; a drawn one is nobody's
abbrev pub won_by : Player → GameState → Bool
won_by w InPlay = false
won_by w Drawn = false
won_by w (Won v) = same w v

abbrev pub drawn : GameState → Bool
drawn InPlay = false
drawn Drawn = true
drawn (Won w) = false

abbrev pub same_state : GameState → GameState → Bool
same_state InPlay g = in_play g
same_state Drawn g = drawn g
same_state (Won w) g = won_by w g

-- the number that a list of numbers has for a state
abbrev pub state_number : GameState → ℕ
state_number InPlay = 0
state_number Drawn = 1
state_number (Won w) = 2 + side_number w

-- and the state of a number, won by O for those over 3
abbrev pub state_from : ℕ → GameState
state_from n = cond (eqb n 0) InPlay (cond (eqb n 1) Drawn (Won (side_from (n - 2))))

-- ---- the numbers of the nine boards, and of the nine cells of a board, row by row
abbrev pub nine : List ℕ
nine = from 0 9

-- ---- the eight lines, each as three numbers
pub record Line : Type 0 where
  pub i : ℕ
  pub j : ℕ
  pub k : ℕ

abbrev pub line : ℕ → ℕ → ℕ → Line
line a b c = record { i = a; j = b; k = c }

abbrev pub lines : List Line
lines = line 0 1 2 ∷ line 3 4 5 ∷ line 6 7 8 ∷ line 0 3 6 ∷ line 1 4 7 ∷ line 2 5 8 ∷ line 0 4 8 ∷ line 6 4 2 ∷ []

-- all three places of a line pass a test
abbrev pub all_three : (ℕ → Bool) → Line → Bool
all_three own l = own l.i && (own l.j && own l.k)

unfoldable pub has_line : (ℕ → Bool) → Bool
has_line own = any (all_three own) lines

-- what w's move makes of a board, or of the game: won if w has a line, drawn if nothing is left, else in play; only w's lines are looked at
unfoldable pub result_of : Player → (ℕ → Bool) → (ℕ → Bool) → GameState
result_of w own left = when has_line own then (λ _. Won w) else λ _. when any left nine then (λ _. InPlay) else λ _. Drawn
