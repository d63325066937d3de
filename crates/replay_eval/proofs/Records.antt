-- What is found of a record, by what its fields are read as.
use Rattle.std.specs.Prelude.{Option, Some, None, Result, Ok, Err}
use mathlib.Core.Path.{◌≡◌, sym, ap, ◌∙◌}
use mathlib.Core.Bool.{Bool, true, false}
use mathlib.Core.List.{List}
use Prim.Native.Nat.{ℕ}
use lib.IntN.{ℤ}
use borrow.Author.Tests.{eq-eqb, ne_eqb}
use Rattle.base.specs.Branch.{when◌then◌else◌}
use Rattle.rules.specs.declared.Player.{Player}
use Rattle.rules.specs.Evaluation.{default_weights, scoring_with, evaluate, evaluated}
use Rattle.rules.proofs.Evaluation.{evaluated_accepted, defaults_accepted}
use Rattle.text.specs.Reading.{read, reads}
use Rattle.game.specs.declared.Game.{Game}
use Rattle.game.specs.Meaning.{position_of}
use Rattle.decimals.specs.Numbers.{read_signed}
use Rattle.notation.specs.declared.ParseError.{ParseError}
use Rattle.notation.specs.Parsed.{reading_of, Parses}
use Rattle.evaluation.specs.declared.BadWeight.{BadWeight}
use Rattle.evaluation.specs.Values.{Evaluates}
use Rattle.replay.specs.Draws.{draw_of}
use Rattle.replay.specs.Totals.{comparison}
use Rattle.replay.specs.Fields.{field, tabs}
use Rattle.replay_eval.specs.Records.{is_score, agrees, outcome_of}

-- the default weights are accepted
module _ (w : Option Player) (g : Game) (r : Result ℤ BadWeight) (evaluates : Evaluates (scoring_with w default_weights) g r) where
  accepted : evaluated (scoring_with w default_weights) (position_of g) ≡ record {
    refusal = 0;
    value = evaluate (scoring_with w default_weights) (position_of g);
  }
  accepted = evaluated_accepted (scoring_with w default_weights) _ defaults_accepted

  pub never_refused : {e : BadWeight} → r ≡ Err e → ⊥
  never_refused q = cc (evaluates.refusal, accepted, q)

  pub value_is : {v : ℤ} → r ≡ Ok v → v ≡ evaluate (scoring_with w default_weights) (position_of g)
  value_is q = cc (evaluates.value, accepted, q)

module _ (position draw score : List ℕ) (r : Result Game ParseError) (parses : Parses position r) where
  -- a text that is no position
  pub refused_differs : {e : ParseError} → r ≡ Err e → false ≡ agrees position draw score
  refused_differs q = rw (sym parses.says ∙ ap reading_of q)

  read_as : {g : Game} → r ≡ Ok g → read position ≡ reads (position_of g)
  read_as q = sym parses.says ∙ ap reading_of q

  -- a field that says no draw winner
  pub no_draw_differs : {g : Game} → r ≡ Ok g → draw_of draw ≡ None → false ≡ agrees position draw score
  no_draw_differs q d = rw (read_as q, d)

-- a position's text, a draw winner, and the score in question
pub scored : (position draw score : List ℕ) (r : Result Game ParseError) → Parses position r → {g : Game} → r ≡ Ok g →
    {w : Option Player} → draw_of draw ≡ Some w → {v : ℤ} → v ≡ evaluate (scoring_with w default_weights) (position_of g) →
    is_score (read_signed score) v ≡ agrees position draw score
scored position draw score r p q d e =
    rw (sym p.says ∙ ap reading_of q, d) (ap (is_score (read_signed score)) e)

module _ (line : List ℕ) where
  pub fields_said : {a b d : List ℕ} → a ≡ field 0 line → b ≡ field 1 line → d ≡ field 2 line →
      agrees a b d ≡ agrees (field 0 line) (field 1 line) (field 2 line)
  fields_said p q r = cc

  pub not_three_differ : (tabs line ≡ 2 → ⊥) → comparison false false ≡ outcome_of line
  unfolding outcome_of comparison when◌then◌else◌
  not_three_differ t = rw (ne_eqb (tabs line) 2 t)

  pub three_found : (a : Bool) → tabs line ≡ 2 → a ≡ agrees (field 0 line) (field 1 line) (field 2 line) →
      comparison a false ≡ outcome_of line
  unfolding outcome_of comparison when◌then◌else◌
  three_found true t e = rw (eq-eqb (tabs line) 2 t, ← e)
  three_found false t e = rw (eq-eqb (tabs line) 2 t, ← e)
