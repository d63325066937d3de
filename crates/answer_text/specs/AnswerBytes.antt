-- The bytes of an answer, with room for 224.
use Rattle.std.specs.Prelude.{List, [], ◌∷◌, ◌++◌, map, ℕ, take}
use Rattle.boards.specs.declared.moves.Move.{Move}
use Rattle.answer_text.specs.declared.AnswerText.{AnswerText}

abbrev pub no_text : AnswerText
no_text = record { bytes = [] }

-- one byte more; where there is no room it is dropped
unfoldable pub added : AnswerText → ℕ → AnswerText
added o b = record { bytes = take 224 (o.bytes ++ (b ∷ [])) }

abbrev pub added_all : AnswerText → List ℕ → AnswerText
added_all o [] = o
added_all o (b ∷ bs) = added_all (added o b) bs

abbrev pub move_bytes : List Move → List ℕ
move_bytes line = map (λ (m : Move). m.bits) line

-- a text: its first 224 bytes (`text_is_first`, proofs/AnswerBytes.antt)
abbrev pub text_of_bytes : List ℕ → AnswerText
text_of_bytes t = added_all no_text t

abbrev pub written_bytes : AnswerText → List ℕ
written_bytes o = o.bytes
