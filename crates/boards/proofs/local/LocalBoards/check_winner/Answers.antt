-- The side's digits have a line, or else the nine digits of the taken cells are all set or not.
use mathlib.Core.Path.{sym, ◌∙◌}
use Rattle.lines.proofs.Masks.{line_known, is_won, is_drawn, is_open}
use Rattle.boards.proofs.local.LocalBoards.check_winner.Goals as goal

pub returns-then-has_line : goal.returns-then-has_line
returns-then-has_line c = is_won _ _ _ (line_known _ _ _ _ c.playerbits.ensures c.has_line.ensures c.if-has_line.true)

pub returns-then-mask-eq-BOARD_MASK : goal.returns-then-mask-eq-BOARD_MASK
returns-then-mask-eq-BOARD_MASK c =
    is_drawn _ _ _ (line_known _ _ _ _ c.playerbits.ensures
    c.has_line.ensures c.if-has_line.false) (sym c.mask.ensures ∙ c.if-mask-eq-BOARD_MASK.true)

pub returns-else-mask-eq-BOARD_MASK : goal.returns-else-mask-eq-BOARD_MASK
returns-else-mask-eq-BOARD_MASK c =
    is_open _ _ _ (line_known _ _ _ _ c.playerbits.ensures
    c.has_line.ensures c.if-has_line.false) (λ e. c.if-mask-eq-BOARD_MASK.false (c.mask.ensures ∙ e))
