-- A line agrees only where its fields are the text of a position, a draw winner, and the position's evaluation.
use Rattle.std.specs.Prelude.{Option, Some, None}
use mathlib.Core.Path.{◌≡◌, refl, ap}
use mathlib.Core.List.{List}
use Prim.Native.Nat.{ℕ}
use native.Mathlib.Omega.{arith}
use lib.Dec.{T, eqb, eqb→eq}
use lib.IntN.{ℤ, pos, negsuc}
use Rattle.rules.specs.declared.Player.{Player}
use Rattle.base.proofs.Bool.{and→}
use Rattle.base.proofs.Branch.{if_ind}
use Rattle.rules.specs.Position.{Position}
use Rattle.rules.specs.Evaluation.{default_weights, scoring_with, evaluate}
use Rattle.text.specs.Reading.{Reading, reads, refuses, read}
use Rattle.decimals.specs.Numbers.{read_signed}
use Rattle.replay.specs.declared.totals.Comparison.{Comparison}
use Rattle.replay.specs.declared.totals.Comparison.TheVariants.{Agrees, Apart, Differs}
use Rattle.replay.specs.Draws.{draw_of}
use Rattle.replay.specs.Fields.{field, tabs}
use Rattle.replay.proofs.TotalsComparison.{test_passed}
use Rattle.replay_eval.specs.Records.{same_integer, is_score, is_evaluation, agrees, outcome_of}

-- two integers that are found the same are the same
pub same_integer_equal : (a b : ℤ) → T (same_integer a b) → a ≡ b
same_integer_equal (pos m) (pos n) t = ap pos (eqb→eq m n t)
same_integer_equal (negsuc m) (negsuc n) t = ap negsuc (eqb→eq m n t)
same_integer_equal (pos m) (negsuc n) t = absurd t
same_integer_equal (negsuc m) (pos n) t = absurd t

score_said : (said : Option ℤ) (score : ℤ) → T (is_score said score) → said ≡ Some score
score_said (Some z) score t = ap Some (same_integer_equal z score t)
score_said None score t = absurd t

evaluation_said : (r : Reading) (d : Option (Option Player)) (said : Option ℤ) → T (is_evaluation r d said) →
    (p : Position) × (w : Option Player) × (r ≡ reads p) × (d ≡ Some w) × (said ≡ Some (evaluate (scoring_with w default_weights) p))
evaluation_said (refuses n offset size) d said t = absurd t
evaluation_said (reads p) None said t = absurd t
evaluation_said (reads p) (Some w) said t = (p, w, refl, refl, score_said said (evaluate (scoring_with w default_weights) p) t)

module _ (line : List ℕ) where
  -- a line that does not differ has three fields: a position that is read, a draw winner, and the position's evaluation with it
  pub agreed_means : (outcome_of line ≡ Differs → ⊥) →
      (p : Position) × (w : Option Player) × (tabs line ≡ 2) × (read (field 0 line) ≡ reads p) × (draw_of (field 1 line) ≡ Some w)
      × (read_signed (field 2 line) ≡ Some (evaluate (scoring_with w default_weights) p))
  unfolding outcome_of
  agreed_means h =
      let same = agrees (field 0 line) (field 1 line) (field 2 line) in
      let both = and→ (eqb (tabs line) 2) same (test_passed _ Agrees h).0 in
      let said = evaluation_said (read (field 0 line)) (draw_of (field 1 line)) (read_signed (field 2 line)) both.1 in
      (said.0, said.1, eqb→eq (tabs line) 2 both.0, said.2, said.3, said.4)

  -- no line is apart: it agrees or differs
  pub never_apart : outcome_of line ≡ Apart → ⊥
  unfolding outcome_of
  never_apart e = if_ind (λ (o : Comparison). o ≡ Apart → ⊥) _ _ _ (λ _ q. let z : ◌≡◌ {A = ℕ} 0 1 = cc in omega arith)
      (λ _ q. let z : ◌≡◌ {A = ℕ} 0 1 = cc in omega arith) e
