-- With the default weights the evaluation is not refused.
use mathlib.Core.Path.{sym, ◌∙◌}
use Prim.Native.Nat.{◌^◌, ◌<◌}
use native.Mathlib.Omega.{arith}
use lib.Signed.{mag}
use mir.Syntax.{w64}
use mir.Val.{hbits}
use Rattle.base.proofs.Signed.{result}
use Rattle.replay_eval.proofs.Records.{never_refused, value_is, scored}
use Rattle.replay_eval.proofs.agrees.Goals as goal

pub returns-in_default-evaluate : goal.returns-in_default-evaluate
returns-in_default-evaluate c = absurd (never_refused _ _ _ c.evaluate.ensures c.in_default-evaluate.is)

pub returns : goal.returns
returns c =
    let small : mag c.in-Ok-evaluate.value < 2 ^ hbits w64 = omega arith in
    c.is_score.ensures ∙
    scored _ _ _ _ c.parse.ensures c.in-Ok.is (sym c.draw_of.ensures ∙ c.in-Some.is)
    (result small (value_is _ _ _ c.evaluate.ensures c.in-Ok-evaluate.is))
