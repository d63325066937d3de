-- The side's digits have a line, or else the nine digits of the closed boards are all set or not.
use mathlib.Core.Path.{sym, ◌∙◌}
use Rattle.lines.proofs.Masks.{line_known, is_won, is_drawn, is_open}
use Rattle.boards.proofs.states.GlobalStates.check_winner.Goals as goal

pub returns-then-has_line : goal.returns-then-has_line
returns-then-has_line c = is_won _ _ _ (line_known _ _ _ _ c.playerbits.ensures c.has_line.ensures c.if-has_line.true)

pub returns-then-donebits-eq-BOARD_MASK : goal.returns-then-donebits-eq-BOARD_MASK
returns-then-donebits-eq-BOARD_MASK c =
    is_drawn _ _ _ (line_known _ _ _ _ c.playerbits.ensures
    c.has_line.ensures c.if-has_line.false) (sym c.donebits.ensures ∙ c.if-donebits-eq-BOARD_MASK.true)

pub returns-else-donebits-eq-BOARD_MASK : goal.returns-else-donebits-eq-BOARD_MASK
returns-else-donebits-eq-BOARD_MASK c =
    is_open _ _ _ (line_known _ _ _ _ c.playerbits.ensures
    c.has_line.ensures c.if-has_line.false) (λ e. c.if-donebits-eq-BOARD_MASK.false (c.donebits.ensures ∙ e))
