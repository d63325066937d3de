use mathlib.Core.Path.{◌≡◌}
use lib.ListN.{drop}
use Rattle.answer_text.specs.AnswerBytes.{added_all}
use Rattle.answer_text.proofs.AnswerText.text.Given as goal

abbrev pub invariant-loop-b : goal.invariant-loop-b
invariant-loop-b l = added_all l.self (drop l.b-index l.bytes) ≡ added_all l.initial.self l.bytes
