-- A side without a place in the line leaves it to the other.
use mathlib.Core.Path.{◌∙◌}
use mir.Syntax.{w32}
use Rattle.base.proofs.Signed.{result_at, Held, held_promised, held_reads, minus}
use Rattle.evaluation.proofs.ValuesLines.{line_x, line_o, line_both}
use Rattle.evaluation.proofs.score_line.Goals as goal

pub returns-then-obits-mask-eq0-clause-gives : goal.returns-then-obits-mask-eq0-clause-gives
returns-then-obits-mask-eq0-clause-gives c l i e =
    result_at w32 c.potential.type_inv (c.potential.ensures.gives l i e) ∙ line_x _ l _ _ _ i e c.if-obits-mask-eq0.true

pub returns-then-xbits-mask-eq0-clause-gives : goal.returns-then-xbits-mask-eq0-clause-gives
returns-then-xbits-mask-eq0-clause-gives c l i e =
    let r = c.potential-then-xbits-mask-eq0.ensures in
    let for-o : Held w32 65535 = minus (held_promised (r.gives l i e, r.bounded)) tt in
    held_reads for-o tt ∙ line_o _ l _ _ _ i e c.if-xbits-mask-eq0.true

pub returns-clause-gives : goal.returns-clause-gives
returns-clause-gives c l i e = line_both _ l _ _ _ i e c.if-xbits-mask-eq0.false c.if-obits-mask-eq0.false
