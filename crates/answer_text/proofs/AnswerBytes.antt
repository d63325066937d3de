-- A byte more of the text is a byte more of what is kept, until there is no room.
use mathlib.Core.Path.{◌≡◌, refl, sym, ap, ap₂, ◌∙◌}
use mathlib.Core.Bool.{Bool, true, false}
use mathlib.Core.List.{List, [], ◌∷◌, ◌++◌, append-nil, append_assoc}
use Prim.Native.Nat.{ℕ, ◌≤◌}
use native.Mathlib.Omega.{arith}
use lib.IntN.{ℤ}
use lib.ListN.{length, take, length-take}
use lib.Seq.{take_all}
use Rattle.rules.specs.Status.{Status}
use Rattle.text.specs.Bytes.{space}
use Rattle.text.specs.ProgramLine.{decimal, signed, shown, status_letters, moves_text, answer_text}
use Rattle.answer_text.specs.declared.AnswerText.{AnswerText}
use Rattle.answer_text.specs.AnswerBytes.{no_text, added, added_all, text_of_bytes, written_bytes}
use Rattle.text.proofs.Padded.{first_of_first}

-- ---- several
pub added_append : (o : AnswerText) (xs ys : List ℕ) → added_all o (xs ++ ys) ≡ added_all (added_all o xs) ys
added_append o [] ys = refl
added_append o (x ∷ xs) ys = added_append (added o x) xs ys

-- a letter that is shown, and one that is not
pub added_shown : (o r : AnswerText) (b : ℕ) (t : Bool) → t ≡ true → r ≡ added o b → r ≡ added_all o (shown t b)
added_shown o r b t e f = rw e f

pub added_hidden : (o : AnswerText) (b : ℕ) (t : Bool) → t ≡ false → o ≡ added_all o (shown t b)
added_hidden o b t e = rw e

pub added_status : (o p q r : AnswerText) (s : Status) (x y d : Bool) → x ≡ s.x → y ≡ s.o → d ≡ s.draw →
    p ≡ added_all o (shown x 88) → q ≡ added_all p (shown y 79) → r ≡ added_all q (shown d 68) →
    r ≡ added_all o (status_letters s)
added_status o p q r s x y d a b c e f g =
    g ∙ ap₂ (λ (z : AnswerText) (t : Bool). added_all z (shown t 68)) (f
    ∙ ap₂ (λ (z : AnswerText) (t : Bool). added_all z (shown t 79)) (e ∙ ap (λ (t : Bool). added_all o (shown t 88)) a) b) c
    ∙ sym (added_append o (shown s.x 88) (shown s.o 79 ++ shown s.draw 68)
    ∙ added_append (added_all o (shown s.x 88)) (shown s.o 79) (shown s.draw 68))

-- ---- the bytes of a text
pub added_out : (t : List ℕ) (b : ℕ) → added (text_of_bytes t) b ≡ text_of_bytes (t ++ (b ∷ []))
added_out t b = sym (added_append no_text t (b ∷ []))

added_first : (o : AnswerText) (t : List ℕ) → length o.bytes ≤ 224 → (added_all o t).bytes ≡ take 224 (o.bytes ++ t)
unfolding added
added_first o [] h = sym (ap (take 224) (append-nil o.bytes) ∙ take_all 224 o.bytes h)
added_first o (b ∷ bs) h =
    let l : length (take 224 (o.bytes ++ (b ∷ []))) ≤ 224 = omega (arith, length-take 224 (o.bytes ++ (b ∷ []))) in
    added_first (added o b) bs l ∙ first_of_first 224 (o.bytes ++ (b ∷ [])) bs ∙ ap (take 224) (append_assoc o.bytes (b ∷ []) bs)

-- they are its first 224
pub text_is_first : (t : List ℕ) → written_bytes (text_of_bytes t) ≡ take 224 t
text_is_first t = added_first no_text t (omega arith)

-- a text of at most 224 bytes is written whole
pub written_whole : (t : List ℕ) → length t ≤ 224 → written_bytes (text_of_bytes t) ≡ t
written_whole t h = text_is_first t ∙ take_all 224 t h

-- a text, a blank, and the rest
spaced_next : (o : AnswerText) (t u : List ℕ) → added_all (added (added_all o t) space) u ≡ added_all o (t ++ (space ∷ u))
spaced_next o t u = sym (added_append o t (space ∷ u))

-- an answer's parts, with a blank between them
pub parts_written : (s : Status) (legal depth : ℕ) (score : ℤ) (count : ℕ) (line : List ℕ) →
    added_all (added (added_all (added (added_all (added (added_all (added (added_all (added (added_all no_text (status_letters s))
    space) (decimal legal)) space) (decimal depth)) space) (signed score)) space) (decimal count)) space) (moves_text line)
    ≡ text_of_bytes (answer_text s legal depth score count line)
parts_written s legal depth score count line =
    spaced_next _ (decimal count) _ ∙ spaced_next _ (signed score) _ ∙ spaced_next _ (decimal depth) _
    ∙ spaced_next _ (decimal legal) _ ∙ spaced_next no_text (status_letters s) _
