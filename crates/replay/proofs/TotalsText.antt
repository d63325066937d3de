-- What is printed: a text that goes on part by part.
use mathlib.Core.Path.{◌≡◌}
use mathlib.Core.List.{List, [], ◌∷◌, ◌++◌}
use Prim.Native.Nat.{ℕ}
use borrow.Author.Tests.{eq-eqb, ne_eqb}
use Rattle.base.specs.Branch.{when◌then◌else◌}
use Rattle.text.specs.Bytes.{quoted}
use Rattle.text.specs.ProgramLine.{decimal}
use Rattle.answer_text.specs.declared.AnswerText.{AnswerText}
use Rattle.answer_text.specs.AnswerBytes.{text_of_bytes}
use Rattle.replay.specs.declared.totals.Totals.{Totals}
use Rattle.replay.specs.Totals.{agreed_text, verdict_text}

module _ (t : Totals) (said : List ℕ) (o : AnswerText) where
  pub verdict_without : t.apart ≡ 0 → o ≡ text_of_bytes (agreed_text t ++ (10 ∷ [])) → o ≡ text_of_bytes (verdict_text t said)
  unfolding verdict_text when◌then◌else◌
  verdict_without e f = rw (eq-eqb t.apart 0 e) f

  pub verdict_with : (t.apart ≡ 0 → ⊥) →
      o ≡ text_of_bytes (((((agreed_text t ++ quoted ", ") ++ decimal t.apart) ++ quoted " of them ") ++ said) ++ (10 ∷ [])) →
      o ≡ text_of_bytes (verdict_text t said)
  unfolding verdict_text when◌then◌else◌
  verdict_with e f = rw (ne_eqb t.apart 0 e) f
