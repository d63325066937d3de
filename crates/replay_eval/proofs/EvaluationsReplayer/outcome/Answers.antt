-- Three fields, and another number of them.
use mathlib.Core.Path.{sym, ◌∙◌}
use borrow.Author.Tests.{ne_eqb}
use Rattle.replay_eval.proofs.Records.{not_three_differ, three_found, fields_said}
use Rattle.replay_eval.proofs.EvaluationsReplayer.outcome.Goals.{then-tabs-eq2, else-tabs-eq2}
use Rattle.replay_eval.proofs.EvaluationsReplayer.outcome.Goals as goal

pub returns : goal.returns
returns c =
    let line = c.args.line.now in
    rw c.of.ensures (elim c.if-tabs-eq2.branch [
      | then-tabs-eq2 w ↦
          three_found line _ (sym c.tabs.ensures ∙ w.if-tabs-eq2.true) (w.agrees-is ∙ w.agrees-agrees.ensures
          ∙ fields_said line w.field.ensures w.field-then-tabs-eq2.ensures w.field-then-tabs-eq2-2.ensures)
      | else-tabs-eq2 w ↦
          rw (w.agrees-is, ne_eqb c.tabs.result 2 w.if-tabs-eq2.false)
          (not_three_differ line (λ e. w.if-tabs-eq2.false (c.tabs.ensures ∙ e)))
    ])
