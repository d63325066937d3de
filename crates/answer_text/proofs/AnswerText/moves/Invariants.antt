use mathlib.Core.Path.{◌≡◌}
use lib.ListN.{drop}
use Rattle.answer_text.specs.AnswerBytes.{added_all}
use Rattle.answer_text.proofs.AnswerBytesMoves.{joined}
use Rattle.answer_text.proofs.AnswerText.moves.Given as goal

abbrev pub invariant-loop-m : goal.invariant-loop-m
invariant-loop-m l = added_all l.out (joined (drop l.m-index l.moves)) ≡ added_all l.initial.out (joined l.moves)
