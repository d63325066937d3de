-- The key of its state comes in for those of the cells once the board is closed; else nothing changes.
use mathlib.Core.Path.{sym, ◌∙◌}
use native.Mathlib.Omega.{arith}
use borrow.Author.Tests.{not-true, not-false}
use Rattle.base.specs.Branch.{when◌then◌else◌}
use Rattle.boards.specs.Rows.{closing}
use Rattle.boards.proofs.local.LocalBoards.hash_after.Goals as goal

pub returns-then-terminal : goal.returns-then-terminal
unfolding closing when◌then◌else◌
returns-then-terminal c =
    let e = c.cells_hash.ensures in
    let f = c.for_board.ensures in
    rw (not-true _ (sym c.terminal.ensures ∙ c.if-terminal.true)) (grind arith)

pub returns : goal.returns
unfolding closing when◌then◌else◌
returns c = rw (not-false _ (sym c.terminal.ensures ∙ c.if-terminal.false))
