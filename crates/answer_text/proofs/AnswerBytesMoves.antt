-- The moves before the first empty one, joined, are the text.
use mathlib.Core.Path.{◌≡◌, refl, sym, ap, ◌∙◌}
use mathlib.Core.Bool.{Bool, true, false, cond, not, true≢false}
use mathlib.Core.List.{List, [], ◌∷◌, ◌++◌}
use Prim.Native.Nat.{ℕ, suc, ◌+◌, ◌<◌}
use native.Mathlib.Omega.{arith}
use lib.Dec.{eqb}
use native.Mathlib.Numerals.{add-one}
use lib.ListN.{length, get_or, take, drop}
use lib.Seq.{drop-cons}
use Rattle.answer_text.specs.declared.AnswerText.{AnswerText}
use Rattle.answer_text.proofs.AnswerBytes.{added_append}
use Rattle.std.specs.List.{prefix_len, take_while}
use Rattle.std.proofs.lemmas.List.Folds.{length-prefix_len}
use borrow.Author.Tests.{eqb-true}
use Rattle.base.specs.Branch.{when◌then◌else◌}
use Rattle.rules.specs.Play.{no_move}
use Rattle.text.specs.MoveText.{move_text}
use Rattle.text.specs.ProgramLine.{move_letters, or_minus, moves_text}
use Rattle.boards.specs.declared.moves.Move.{Move}
use Rattle.answer_text.specs.AnswerBytes.{added_all, move_bytes}

abbrev pub is_move : Move → Bool
is_move m = not (eqb m.bits no_move)

abbrev pub shown_moves : List Move → List Move
shown_moves line = take_while is_move line

abbrev pub joined : List Move → List ℕ
joined [] = []
joined (m ∷ ms) = move_text m.bits ++ joined ms

letters_joined : (line : List Move) → move_letters (move_bytes line) ≡ joined (shown_moves line)
unfolding move_letters when◌then◌else◌
letters_joined [] = refl
letters_joined (m ∷ ms) = step (eqb m.bits no_move) (prefix_len is_move ms) (move_letters (move_bytes ms)) (letters_joined ms)
  where
    step : (c : Bool) (n : ℕ) (t : List ℕ) → t ≡ joined (take n ms) →
        (when c then (λ _. []) else λ _. move_text m.bits ++ t) ≡ joined (take (cond (not c) (1 + n) 0) (m ∷ ms))
    step true n t e = refl
    step false n t e = let one : 1 + n ≡ suc n = omega arith in rw one (ap (λ (t : List ℕ). move_text m.bits ++ t) e)

-- by how many stand before it
module _ (line : List Move) (n : ℕ) (e : n ≡ length (shown_moves line)) where
  those : take n line ≡ shown_moves line
  those = ap (λ (n : ℕ). take n line) (e ∙ length-prefix_len is_move line)

  text_of : moves_text (move_bytes line) ≡ or_minus (joined (take n line))
  text_of = rw (letters_joined line, sym those)

  pub none_shown : eqb (length (take n line)) 0 ≡ true → moves_text (move_bytes line) ≡ 45 ∷ []
  none_shown f = text_of ∙ go (take n line) (eqb-true _ 0 f)
    where
      go : (ms : List Move) → length ms ≡ 0 → or_minus (joined ms) ≡ 45 ∷ []
      go [] f = refl
      go (m ∷ ms) f = absurd (omega arith)

  pub some_shown : eqb (length (take n line)) 0 ≡ false → moves_text (move_bytes line) ≡ joined (take n line)
  some_shown f = text_of ∙ go (take n line) f
    where
      go : (ms : List Move) → eqb (length ms) 0 ≡ false → or_minus (joined ms) ≡ joined ms
      go [] f = absurd (true≢false f)
      go (m ∷ ms) f = refl

pub next_added : (o r : AnswerText) (moves : List Move) (i : ℕ) (d : Move) → i < length moves →
    r ≡ added_all o (move_text (get_or moves i d).bits) → added_all r (joined (drop (i + 1) moves)) ≡ added_all o (joined (drop i moves))
next_added o r moves i d h e =
    rw (e, drop-cons moves i d h, add-one i) (sym (added_append o (move_text (get_or moves i d).bits) (joined (drop (suc i) moves))))
