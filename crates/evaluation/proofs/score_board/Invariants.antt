use Prim.Native.Nat.{◌*◌, ◌≤◌}
use mathlib.Core.Path.{◌≡◌}
use lib.IntN.{nat_abs}
use Rattle.base.specs.Bits.{bit}
use Rattle.rules.specs.Evaluation.{board_line}
use Rattle.evaluation.proofs.ValuesLines.{first_lines}
use Rattle.evaluation.proofs.score_board.Given as goal

abbrev pub invariant-loop-mask : goal.invariant-loop-mask
invariant-loop-mask l =
    (l.score ≡ first_lines (board_line l.weights (bit l.x) (bit l.o)) l.mask-index) ×
    (nat_abs l.score ≤ 65535 * l.mask-index)
