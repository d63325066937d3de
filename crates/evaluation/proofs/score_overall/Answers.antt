-- The three values are within 2^31, and at most one side has a board of the line where they count.
use mathlib.Core.Path.{ap, ◌∙◌}
use mathlib.Core.List.{List}
use Prim.Native.Nat.{ℕ}
use lib.IntN.{◌+ℤ◌}
use lib.ListN.{get_or}
use mir.Syntax.{w64}
use Rattle.evaluation.specs.Values.{value_at}
use Rattle.base.proofs.Signed.{Held, held_promised, held_reads, plus}
use Rattle.evaluation.proofs.ValuesOverall.{overall_both, overall_x, overall_o}
use Rattle.evaluation.proofs.score_overall.Goals as goal
use Rattle.evaluation.proofs.score_overall.Goals.{
  else-x-mask-ne0-via-then-x-mask-ne0+else-o-mask-ne0,
  else-x-mask-ne0-via-else-x-mask-ne0,
}

pub returns-then-o-mask-ne0-clause-gives : goal.returns-then-o-mask-ne0-clause-gives
returns-then-o-mask-ne0-clause-gives c l i e p = overall_both l _ _ _ _ i e c.if-x-mask-ne0.true c.if-o-mask-ne0.true

pub returns-clause-gives : goal.returns-clause-gives
returns-clause-gives c l i e p =
    let to-2 : Held w64 4294967296 = plus (held_promised c.value_at.ensures) (held_promised c.value_at-2.ensures) tt tt in
    let to-3 : Held w64 6442450944 = plus to-2 (held_promised c.value_at-3.ensures) tt tt in
    let v = value_at c.args.values in
    held_reads to-3 tt
    ∙ ap (λ (bs : List ℕ). v (get_or bs 0 0) +ℤ v (get_or bs 1 0) +ℤ v (get_or bs 2 0)) p
    ∙ elim c.else-x-mask-ne0.branch [
      | else-x-mask-ne0-via-then-x-mask-ne0+else-o-mask-ne0 w ↦ overall_x l _ _ _ c.args.values i e w.if-o-mask-ne0.false
      | else-x-mask-ne0-via-else-x-mask-ne0 w ↦ overall_o l _ _ _ c.args.values i e w.if-x-mask-ne0.false
    ]
