-- Neat games: no bit above the 27 of a row and the 9 of the states, no cell with both bits, and a next board of 0 to 8 or none. Play keeps
-- a game neat, and a neat game is fixed by its position and its hash.
use Rattle.std.specs.Prelude.{Bool, true, ◌&&◌, ◌||◌, [], ◌∷◌, ℕ, ◌+◌, ◌*◌, ◌/◌, ◌%◌, ◌^◌, eqb, ltb, length, Option, None, Some}
use Rattle.std.specs.Int.Bits.{bit_and}
use Rattle.base.specs.Lists.{all}
use Rattle.base.specs.Bits.{digits}
use Rattle.rules.specs.declared.Player.{Player}
use Rattle.rules.specs.declared.Player.TheVariants.{X, O}
use Rattle.rules.specs.Board.{mine, won_by, drawn}
use Rattle.rules.specs.Position.{Position}
use Rattle.boards.specs.declared.local.Row.{Row}
use Rattle.game.specs.declared.Game.{Game}

abbrev pub neat_row : Row → Bool
neat_row r = ltb r.x (2 ^ 27) && (ltb r.o (2 ^ 27) && eqb (bit_and r.x r.o) 0)

abbrev pub neat_next : Option ℕ → Bool
neat_next None = true
neat_next (Some b) = ltb b 9

unfoldable pub neat : Game → Bool
neat g =
    neat_next g.next_board &&
    (eqb (length g.local_boards.rows) 3 &&
    (all neat_row g.local_boards.rows &&
    (ltb g.global_states.x (2 ^ 9) && ltb g.global_states.o (2 ^ 9))))

-- ---- the neat game that means a position
unfoldable pub row_bits : Position → Player → ℕ → ℕ
row_bits p w r = digits (λ k. mine w (p.cells (3 * r + k / 9) (k % 9))) 27

-- a drawn board has both bits
unfoldable pub state_bits : Position → Player → ℕ
state_bits p w = digits (λ b. won_by w (p.states b) || drawn (p.states b)) 9

abbrev pub row_for : Position → ℕ → Row
row_for p r = record { x = row_bits p X r; o = row_bits p O r }

abbrev pub game_of : Position → ℕ → Game
game_of p h = record {
  next_player = p.turn;
  next_board = p.next_board;
  local_boards = record { rows = row_for p 0 ∷ row_for p 1 ∷ row_for p 2 ∷ [] };
  global_states = record { x = state_bits p X; o = state_bits p O };
  game_state = p.state;
  hash = h;
}
