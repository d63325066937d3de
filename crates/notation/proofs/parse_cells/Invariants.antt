use Prim.Native.Nat.{◌≤◌}
use Rattle.notation.proofs.PartsCells.{CellsUpTo}
use Rattle.notation.proofs.parse_cells.Given as goal

abbrev pub invariant-loop-i : goal.invariant-loop-i
invariant-loop-i l = (l.i ≤ 89) × CellsUpTo l.cells l.boards l.i
