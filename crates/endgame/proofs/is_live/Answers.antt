-- The tests that `live` has, in its order.
use mathlib.Core.Path.{sym, ap, refl, ◌∙◌}
use mathlib.Core.Bool.{not}
use borrow.Author.Tests.{eq-eqb, ne_eqb, not-true, not-false}
use Rattle.std.proofs.Common.{rules}
use Rattle.lines.proofs.Masks.{line_known}
use Rattle.game.specs.Meaning.{position_of}
use Rattle.endgame.proofs.PartsSets.{none_in}
use Rattle.endgame.proofs.PartsSound.{live_closed, live_full, live_line_x, live_line_o}
use Rattle.endgame.proofs.is_live.Goals as goal
use Rattle.endgame.proofs.is_live.Goals.{then-free_squares-ne0, else-free_squares-ne0}

pub returns-then-not-in_play : goal.returns-then-not-in_play
returns-then-not-in_play c =
    ap not c.if-not-in_play.true ∙ live_closed (position_of c.args.pos) _ (sym c.if-not-in_play.ensures)

pub returns-then-not-has_line : goal.returns-then-not-has_line
returns-then-not-has_line c = elim c.if-free_squares-ne0.branch [
  | then-free_squares-ne0 w ↦ live_line_o (position_of c.args.pos) _ (sym c.if-not-in_play.ensures)
      (not-false _ (sym (none_in _ _ c.free_squares.ensures) ∙ ne_eqb _ _ w.if-free_squares-ne0.true))
      (line_known _ _ _ _ w.xbits.ensures w.has_line.ensures (not-true _ (sym w.value-is ∙ c.if-not-has_line.true))) _
      (line_known _ _ _ _ c.obits.ensures c.has_line-then-not-has_line.ensures refl)
  | else-free_squares-ne0 w ↦ search rules
]

pub returns-else-not-has_line : goal.returns-else-not-has_line
returns-else-not-has_line c = elim c.if-free_squares-ne0.branch [
  | then-free_squares-ne0 w ↦ c.if-not-has_line.false ∙ live_line_x (position_of c.args.pos) _ (sym c.if-not-in_play.ensures)
      (not-false _ (sym (none_in _ _ c.free_squares.ensures) ∙ ne_eqb _ _ w.if-free_squares-ne0.true))
      (line_known _ _ _ _ w.xbits.ensures w.has_line.ensures (not-false _ (sym w.value-is ∙ c.if-not-has_line.false)))
  | else-free_squares-ne0 w ↦ c.if-not-has_line.false ∙ live_full (position_of c.args.pos) _ (sym c.if-not-in_play.ensures)
      (not-true _ (sym (none_in _ _ c.free_squares.ensures) ∙ eq-eqb _ _ w.if-free_squares-ne0.false))
]
