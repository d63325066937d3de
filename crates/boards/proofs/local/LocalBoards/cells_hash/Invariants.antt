use mathlib.Core.Path.{◌≡◌}
use Prim.Native.Nat.{◌≤◌}
use lib.Bits.{bit_xor}
use lib.ListN.{drop}
use Rattle.rules.specs.Board.{nine}
use Rattle.rules.specs.Hash.{cell_key, xors, cells_hash}
use Rattle.boards.specs.Packed.{cell_at}
use Rattle.boards.proofs.local.LocalBoards.cells_hash.Given as goal

abbrev pub invariant-loop-i : goal.invariant-loop-i
invariant-loop-i l =
    (l.i ≤ 9) × (bit_xor l.hash (xors (λ k. cell_key l.global k (cell_at l.self l.global k)) (drop l.i nine))
    ≡ cells_hash l.global (cell_at l.self l.global))
