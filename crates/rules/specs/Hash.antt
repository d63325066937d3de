-- Zobrist's hash of a position, worked out afresh, and its change by a move.
use Rattle.std.specs.Prelude.{List, [], ◌∷◌, ℕ, ◌+◌, ◌*◌, get_or, Option, None, Some}
use Rattle.std.specs.Int.Bits.{bit_xor}
use Rattle.rules.specs.declared.Player.{Player}
use Rattle.rules.specs.declared.Player.TheVariants.{X, O}
use Rattle.rules.specs.declared.CellState.{CellState}
use Rattle.rules.specs.declared.CellState.TheVariants.{Empty, Played}
use Rattle.rules.specs.declared.GameState.{GameState}
use Rattle.rules.specs.declared.GameState.TheVariants.{InPlay, Drawn, Won}
use Rattle.base.specs.Branch.{when◌then◌else◌}
use Rattle.base.specs.Update.{update}
use Rattle.rules.specs.Board.{nine, in_play}
use Rattle.rules.specs.Position.{Position}
use Rattle.rules.specs.Play.{after}
use Rattle.rules.specs.Keys.{x_cell_keys, o_cell_keys, drawn_keys, x_board_keys, o_board_keys, next_board_keys, x_key, o_key}

abbrev pub cell_keys : Player → List ℕ
cell_keys X = x_cell_keys
cell_keys O = o_cell_keys

abbrev pub won_keys : Player → List ℕ
won_keys X = x_board_keys
won_keys O = o_board_keys

unfoldable pub cell_key : ℕ → ℕ → CellState → ℕ
cell_key b c Empty = 0
cell_key b c (Played w) = get_or (cell_keys w) (9 * b + c) 0

unfoldable pub board_key : ℕ → GameState → ℕ
board_key b InPlay = 0
board_key b Drawn = get_or drawn_keys b 0
board_key b (Won w) = get_or (won_keys w) b 0

unfoldable pub next_board_key : Option ℕ → ℕ
next_board_key None = 0
next_board_key (Some b) = get_or next_board_keys b 0

abbrev pub player_key : Player → ℕ
player_key X = x_key
player_key O = o_key

-- exclusive or over a list
unfoldable pub xors : (ℕ → ℕ) → List ℕ → ℕ
xors f [] = 0
xors f (x ∷ xs) = bit_xor (f x) (xors f xs)

-- a board gives the keys of its played cells while it is in play, and the key of its state once it is closed
unfoldable pub cells_hash : ℕ → (ℕ → CellState) → ℕ
cells_hash b row = xors (λ c. cell_key b c (row c)) nine

unfoldable pub board_hash : ℕ → (ℕ → CellState) → GameState → ℕ
board_hash b row g = when in_play g then (λ _. cells_hash b row) else λ _. board_key b g

unfoldable pub hash : Position → ℕ
hash p = xors (λ b. board_hash b (p.cells b) (p.states b)) nine

-- what next board and side to move add to a hash
unfoldable pub with_turn : Position → ℕ → ℕ
with_turn p h = bit_xor h (bit_xor (next_board_key p.next_board) (player_key p.turn))

unfoldable pub zobrist : Position → ℕ
zobrist p = with_turn p (hash p)

-- the hash after a move in cell c of board b, from the hash h before it: the cell's key comes in, and where the move closes the board the
-- keys of its cells go out and the key of its state comes in
unfoldable pub hash_after : Position → ℕ → ℕ → ℕ → ℕ
hash_after p b c h =
    let w = p.turn in
    let row = update (p.cells b) c (Played w) in
    let g = (after p b c).states b in
    bit_xor (board_key b g) (bit_xor (when in_play g then (λ _. 0) else λ _. cells_hash b row) (bit_xor (cell_key b c (Played w)) h))
