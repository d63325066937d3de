-- The cells of several boards at once, three boards to a row: which are empty, whether two games have the same; and the hash of a board
-- that closes.
use Rattle.std.specs.Prelude.{Bool, not, ◌&&◌, ◌||◌, ℕ, ◌/◌, ◌^◌, get_or}
use Rattle.std.specs.Int.Bits.{bit_xor}
use Rattle.rules.specs.declared.CellState.{CellState}
use Rattle.rules.specs.declared.GameState.{GameState}
use Rattle.base.specs.Branch.{when◌then◌else◌}
use Rattle.base.specs.Bits.{bit, digits}
use Rattle.base.specs.Lists.{all, from}
use Rattle.rules.specs.Board.{blank, in_play, same_cell}
use Rattle.rules.specs.Hash.{board_key, cells_hash}
use Rattle.boards.specs.declared.local.Row.{Row}
use Rattle.boards.specs.declared.local.LocalBoards.{LocalBoards}
use Rattle.boards.specs.declared.moves.MoveIterator.{MoveIterator}
use Rattle.boards.specs.Packed.{cell_of_bits, no_row}

-- the cell at a place of a row
abbrev pub row_cell : Row → ℕ → CellState
row_cell r k = cell_of_bits (bit r.x k) (bit r.o k)

-- the empty cells of the boards that have their bit among three
unfoldable pub row_free : Row → ℕ → ℕ
row_free r boards = digits (λ k. bit boards (k / 9) && blank (row_cell r k)) 27

abbrev pub free_cells : LocalBoards → ℕ → MoveIterator
free_cells l boards = record {
  top = row_free (get_or l.rows 0 no_row) boards;
  middle = row_free (get_or l.rows 1 no_row) (boards / 2 ^ 3);
  bottom = row_free (get_or l.rows 2 no_row) (boards / 2 ^ 6);
}

-- the cells of those boards are the same
unfoldable pub row_same : Row → Row → ℕ → Bool
row_same r q boards = all (λ k. not (bit boards (k / 9)) || same_cell (row_cell r k) (row_cell q k)) (from 0 27)

abbrev pub same_cells : LocalBoards → LocalBoards → ℕ → Bool
same_cells l m boards =
    row_same (get_or l.rows 0 no_row) (get_or m.rows 0 no_row) boards &&
    (row_same (get_or l.rows 1 no_row) (get_or m.rows 1 no_row) (boards / 2 ^ 3) &&
    row_same (get_or l.rows 2 no_row) (get_or m.rows 2 no_row) (boards / 2 ^ 6))

-- a hash h that has a board's cells, once the board closes: the key of its state for those of its cells
unfoldable pub closing : ℕ → ℕ → (ℕ → CellState) → GameState → ℕ
closing h b row g = when in_play g then (λ _. h) else λ _. bit_xor (bit_xor h (cells_hash b row)) (board_key b g)
