-- By the boards' own values, if the weights are accepted.
use mathlib.Core.Path.{sym, ap, ◌∙◌}
use Rattle.rules.specs.Evaluation.{scoring_with}
use Rattle.rules.proofs.Evaluation.{evaluated_accepted, evaluated_refused}
use Rattle.game.specs.Meaning.{position_of}
use Rattle.evaluation.specs.declared.Values.{Values}
use Rattle.evaluation.specs.Values.{evaluate_by}
use Rattle.base.proofs.Signed.{result}
use Rattle.evaluation.proofs.ValuesOverall.{by_values}
use Rattle.evaluation.proofs.evaluate.Goals as goal

pub returns-then-are_accepted : goal.returns-then-are_accepted
returns-then-are_accepted c =
    let a = c.args in
    let p = position_of a.g in
    let sc = scoring_with a.draw_winner in
    let e = evaluated_accepted (sc a.weights) p (sym c.are_accepted.ensures ∙ c.if-are_accepted.true) in
    record {
      refusal = rw e;
      value = rw e (result c.evaluate-value.type_inv c.evaluate-value.ensures
          ∙ ap (λ (x : Values). evaluate_by (sc x.weights) p x.boards) c.new.ensures ∙ by_values (sc a.weights) p);
    }

pub returns-else-are_accepted : goal.returns-else-are_accepted
returns-else-are_accepted c =
    let a = c.args in
    let e = evaluated_refused (scoring_with a.draw_winner a.weights) (position_of a.g)
    (sym c.are_accepted.ensures ∙ c.if-are_accepted.false) in
    record { refusal = rw e; value = rw e }
