-- Digit `board` of the closed boards is clear; over 8 a board reads as open.
use mathlib.Core.Path.{ap, ◌∙◌}
use mathlib.Core.Bool.{not, not-not}
use Prim.Native.Nat.{ℕ}
use native.Mathlib.Omega.{arith}
use borrow.Author.Tests.{lt-ltb}
use Rattle.base.specs.Bits.{bit}
use Rattle.base.proofs.Bits.{digit_clear, bit_digits}
use Rattle.boards.proofs.Packed.{state_past}
use Rattle.boards.proofs.states.GlobalStates.in_play.Goals as goal

pub returns-then-board-gt8 : goal.returns-then-board-gt8
returns-then-board-gt8 c = rw (state_past _ _ c.if-board-gt8.true) (lt-ltb 8 _ c.if-board-gt8.true)

pub returns-else-board-gt8 : goal.returns-else-board-gt8
returns-else-board-gt8 c =
    digit_clear _ _ ∙ ap not (ap (λ (n : ℕ). bit n c.args.board) c.donebits.ensures
    ∙ bit_digits _ 9 _ (omega arith)) ∙ not-not _
