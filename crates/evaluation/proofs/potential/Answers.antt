-- The code tells by the mask how many of the line's places are set.
use mathlib.Core.Path.{ap, ◌∙◌}
use lib.IntN.{pos}
use mir.Syntax.{w32}
use Rattle.base.proofs.Signed.{result_at}
use Rattle.evaluation.proofs.ValuesLines.{worth_none, worth_one, worth_all, worth_two}
use Rattle.evaluation.proofs.potential.Goals as goal

pub returns-then-places-eq0-clause-gives : goal.returns-then-places-eq0-clause-gives
returns-then-places-eq0-clause-gives c l i e = ap pos (worth_none l _ i _ e c.args.weights c.if-places-eq0.true)

pub returns-then-places-eq0-2-clause-gives : goal.returns-then-places-eq0-2-clause-gives
returns-then-places-eq0-2-clause-gives c l i e =
    result_at w32 c.from.type_inv c.from.ensures
    ∙ ap pos (worth_one l _ i _ e c.args.weights c.if-places-eq0.false c.if-places-eq0-2.true)

pub returns-then-places-mask-clause-gives : goal.returns-then-places-mask-clause-gives
returns-then-places-mask-clause-gives c l i e =
    ap pos (worth_all l _ i _ e c.args.weights c.if-places-eq0.false c.if-places-eq0-2.false c.if-places-mask.true)

pub returns-clause-gives : goal.returns-clause-gives
returns-clause-gives c l i e =
    result_at w32 c.from-2.type_inv c.from-2.ensures
    ∙ ap pos (worth_two l _ i _ e c.args.weights c.if-places-eq0.false c.if-places-eq0-2.false c.if-places-mask.false)
