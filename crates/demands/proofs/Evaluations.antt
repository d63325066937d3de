-- Of accepted weights the evaluation's laws; of others both values are 0.
use Rattle.std.specs.Prelude.{Option, Result}
use mathlib.Core.Path.{◌≡◌, refl, ap, sym, ◌∙◌, subst}
use mathlib.Core.Bool.{Bool, true, false}
use Prim.Native.Nat.{◌+◌, ◌*◌, ◌≤◌, max}
use native.Mathlib.Omega.{arith}
use lib.Dec.{T}
use lib.IntN.{ℤ, neg_ℤ, nat_abs}
use lib.Signed.{◌<ℤ◌}
use denote.Floats.{passes}
use Rattle.rules.specs.declared.Player.{Player}
use Rattle.base.proofs.Integers.{hi, lo, zarith}
use Rattle.rules.specs.declared.Weights.{Weights}
use Rattle.rules.specs.Position.{Position, unfinished}
use Rattle.rules.specs.Evaluation.{won, lost, accepted_weights, Scoring, scoring_with, evaluated}
use Rattle.rules.proofs.Evaluation.{other_side_negates, unfinished_within, value_inside, evaluated_accepted, evaluated_refused}
use Rattle.game.specs.declared.Game.{Game}
use Rattle.game.specs.Meaning.{position_of}
use Rattle.evaluation.specs.Values.{Evaluates}
use Rattle.demands.specs.Evaluations.{other_to_move, EvaluationClaims}
use Rattle.evaluation.specs.declared.BadWeight.{BadWeight}

module _ (g : Game) (draws : Option Player) (w : Weights) (own others : Result ℤ BadWeight) where
  abbrev sc : Scoring
  sc = scoring_with draws w

  abbrev p : Position
  p = position_of g

  abbrev q : Position
  q = position_of (other_to_move g)

  -- the values alone
  abbrev Holds : ℤ → ℤ → Type 0
  Holds u v = (v ≡ neg_ℤ u) × (T (unfinished p) → nat_abs u ≤ 24 * w.board + 192 * max w.one w.two)
      × (T (unfinished p) → (lost <ℤ u) × (u <ℤ won))

  by_test : (b : Bool) → accepted_weights w ≡ b → Holds (evaluated sc p).value (evaluated sc q).value
  unfolding hi lo
  by_test true e = rw (evaluated_accepted sc p e, evaluated_accepted sc q e)
      (other_side_negates sc p, unfinished_within sc p, value_inside sc (passes _ e) p)
  by_test false e = rw (evaluated_refused sc p e, evaluated_refused sc q e)
      (refl, (λ _. omega arith), λ _. (omega zarith, omega zarith))

  pub evaluation_claims : (k : Game) → k ≡ other_to_move g → Evaluates sc g own → Evaluates sc k others →
      EvaluationClaims g draws w (record { own = own; others = others })
  evaluation_claims k e a b =
      let h = by_test (accepted_weights w) refl in
      let b' = subst (λ (x : Game). Evaluates sc x others) e b in record {
        own_is = a;
        others_is = b';
        negative = b'.value ∙ h.0 ∙ ap neg_ℤ (sym a.value);
        within = λ t. rw a.value (h.1 t);
        inside = λ t. rw a.value (h.2 t);
      }
