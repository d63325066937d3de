-- No side's line, and all boards are live.
use mathlib.Core.Path.{sym, ◌∙◌}
use borrow.Author.Tests.{not-true, not-false}
use Rattle.std.proofs.Common.{rules}
use Rattle.lines.proofs.Masks.{line_known}
use Rattle.game.specs.Meaning.{position_of}
use Rattle.endgame.proofs.PartsSound.{line_of_x, line_of_o, no_line}
use Rattle.endgame.proofs.is_sound.Goals as goal
use Rattle.endgame.proofs.is_sound.Goals.{then-not-has_line, else-not-has_line}

pub returns-then-not-has_line-2 : goal.returns-then-not-has_line-2
returns-then-not-has_line-2 c = let p = position_of c.args.pos in elim c.if-not-has_line.branch [
  | then-not-has_line w ↦
      c.all_live.ensures
      ∙ no_line p (line_known _ _ _ _ c.xbits.ensures c.has_line.ensures w.if-not-has_line.true)
      (line_known _ _ _ _ w.obits.ensures w.has_line-then-not-has_line.ensures
      (not-true _ (sym w.value-is ∙ c.if-not-has_line-2.true)))
  | else-not-has_line w ↦ search rules
]

pub returns-else-not-has_line-2 : goal.returns-else-not-has_line-2
returns-else-not-has_line-2 c = let p = position_of c.args.pos in elim c.if-not-has_line.branch [
  | then-not-has_line w ↦
      c.if-not-has_line-2.false
      ∙ line_of_o p (line_known _ _ _ _ c.xbits.ensures c.has_line.ensures w.if-not-has_line.true)
      (line_known _ _ _ _ w.obits.ensures w.has_line-then-not-has_line.ensures
      (not-false _ (sym w.value-is ∙ c.if-not-has_line-2.false)))
  | else-not-has_line w ↦
      c.if-not-has_line-2.false ∙ line_of_x p (line_known _ _ _ _ c.xbits.ensures c.has_line.ensures w.if-not-has_line.false)
]
