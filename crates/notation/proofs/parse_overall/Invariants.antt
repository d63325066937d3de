use Prim.Native.Nat.{◌≤◌}
use Rattle.notation.proofs.PartsOverall.{MarksUpTo}
use Rattle.notation.proofs.parse_overall.Given as goal

abbrev pub invariant-loop-board : goal.invariant-loop-board
invariant-loop-board l = (l.board ≤ 9) × MarksUpTo l.overall l.states l.next_board l.board
