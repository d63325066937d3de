-- A place of a row of three boards, as a cell of one of the nine boards.
use mathlib.Core.Path.{◌≡◌, ◌∙◌}
use Prim.Native.Nat.{ℕ, ◌+◌, ◌*◌, ◌/◌, ◌%◌, ◌<◌}
use native.Mathlib.Omega.{arith}
use lib.ListN.{get_or}
use Rattle.boards.specs.declared.local.LocalBoards.{LocalBoards}
use Rattle.boards.specs.Packed.{no_row, place, cell_at}
use Rattle.boards.specs.Rows.{row_cell}
use Rattle.boards.proofs.Packed.{cell_in}

pub place_cell : (l : LocalBoards) (r k : ℕ) → r < 3 → k < 27 → cell_at l (3 * r + k / 9) (k % 9)
    ≡ row_cell (get_or l.rows r no_row) k
place_cell l r k h i =
    let b = 3 * r + k / 9 in
    let c = k % 9 in
    let x : b / 3 ≡ r = omega arith in
    let y : place b c ≡ k = omega arith in
    cell_in l b c (omega arith) (omega arith) ∙ (λ z. row_cell (get_or l.rows (x z) no_row) (y z))
