-- A word has no bit over 31.
use mathlib.Core.Path.{sym, ◌∙◌}
use native.Mathlib.Omega.{arith}
use borrow.Author.Tests.{le-ltb}
use Rattle.base.proofs.Bits.{bit_above, digit_test}
use Rattle.endgame.proofs.holds.Goals as goal

pub returns-then-board-lt32 : goal.returns-then-board-lt32
returns-then-board-lt32 c = digit_test _ _

pub returns-else-board-lt32 : goal.returns-else-board-lt32
returns-else-board-lt32 c = le-ltb _ _ c.if-board-lt32.false ∙ sym (bit_above 32 _ _ (omega arith) c.if-board-lt32.false)
