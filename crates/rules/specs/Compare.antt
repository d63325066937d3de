-- What is counted of a position, and the Rust's comparison of two.
use Rattle.std.specs.Prelude.{Bool, not, cond, ◌||◌, ◌&&◌, ℕ}
use Rattle.base.specs.Lists.{all, count, total}
use Rattle.rules.specs.Board.{same, same_cell, same_state, nine}
use Rattle.rules.specs.Position.{Position, same_next_board, open_board, free_cell}

-- empty cells in open boards
unfoldable pub bound_depth : Position → ℕ
bound_depth p = total (λ b. cond (open_board p b) (count (free_cell p b) nine) 0) nine

unfoldable pub open_boards : Position → ℕ
open_boards p = count (open_board p) nine

-- the Rust's `equivalent`: side, next board and game state agree, and the cells of the boards that are open in the first position. The
-- states of the first position's boards are compared with themselves, so positions with unlike ones may pass
unfoldable pub equivalent : Position → Position → Bool
equivalent p q =
    same p.turn q.turn &&
    (same_next_board p.next_board q.next_board &&
    (same_state p.state q.state &&
    (all (λ b. same_state (p.states b) (p.states b)) nine &&
    all (λ b. not (open_board p b) || all (λ c. same_cell (p.cells b c) (q.cells b c)) nine) nine)))
