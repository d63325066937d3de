-- The key of its state once the board is closed, else the keys of the cells.
use mathlib.Core.Path.{sym, ◌∙◌}
use borrow.Author.Tests.{not-true, not-false}
use Rattle.base.specs.Branch.{when◌then◌else◌}
use Rattle.rules.specs.Hash.{board_hash}
use Rattle.boards.proofs.local.LocalBoards.board_hash.Goals as goal

pub returns-then-terminal : goal.returns-then-terminal
unfolding board_hash when◌then◌else◌
returns-then-terminal c = rw (not-true _ (sym c.terminal.ensures ∙ c.if-terminal.true)) c.for_board.ensures

pub returns : goal.returns
unfolding board_hash when◌then◌else◌
returns c = rw (not-false _ (sym c.terminal.ensures ∙ c.if-terminal.false)) c.cells_hash.ensures
