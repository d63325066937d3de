-- Numbers that are compared one after the other, up to the record's end.
use Rattle.std.specs.Prelude.{Option, Some, Result, Ok, Err}
use Rattle.std.specs.Result.{result_unwrap_or}
use mathlib.Core.Path.{◌≡◌, refl, sym, ap, ◌∙◌}
use mathlib.Core.Bool.{Bool}
use mathlib.Core.List.{List, [], ◌∷◌}
use Prim.Native.Nat.{ℕ}
use lib.ListN.{length}
use Rattle.rules.specs.Board.{state_number}
use Rattle.rules.specs.Compare.{bound_depth}
use Rattle.rules.specs.Hash.{with_turn}
use Rattle.rules.specs.Play.{no_move}
use Rattle.rules.specs.Refusal.{answer_number}
use Rattle.text.specs.Writing.{text_of}
use Rattle.boards.specs.declared.moves.Move.{Move}
use Rattle.game.specs.declared.Game.{Game}
use Rattle.game.specs.Meaning.{position_of}
use Rattle.notation.specs.declared.ParseMoveError.{ParseMoveError}
use Rattle.notation.specs.declared.ParseMoveError.TheVariants.{BadLength, BadCharacter}
use Rattle.notation.specs.Parsed.{move_reading_of, move_number, ParsesMove}
use Rattle.replay.specs.Agreement.{compared, compared_all, wholly_agrees, same_numbers}
use Rattle.replay.proofs.AgreementCompared.{compared_append, compared_is_same}
use Rattle.replay_notation.specs.Records.{with_bytes, game_numbers, named_byte, move_reading_numbers, move_record}

-- one number after the other
pub then_compared : (x : ℕ) (xs : List ℕ) (a b r : Option (List ℕ)) → b ≡ compared a x → r ≡ compared_all b xs →
    r ≡ compared_all a (x ∷ xs)
then_compared x xs a b r e f = f ∙ ap (λ (q : Option (List ℕ)). compared_all q xs) e

pub three_compared : (x y z : ℕ) (q a b d : Option (List ℕ)) → a ≡ compared q x → b ≡ compared a y → d ≡ compared b z →
    d ≡ compared_all q (x ∷ y ∷ z ∷ [])
three_compared x y z q a b d e f g = g ∙ ap (λ (p : Option (List ℕ)). compared p z) (f ∙ ap (λ (p : Option (List ℕ)). compared p y) e)

abbrev pub none : Move
none = record { bits = no_move }

-- a game
module _ (g : Game) (text : List ℕ) (z s d : ℕ) (text_is : text ≡ text_of (position_of g))
    (z_is : z ≡ with_turn (position_of g) g.hash) (s_is : s ≡ state_number g.game_state)
    (d_is : d ≡ bound_depth (position_of g)) where
  abbrev answers : List ℕ
  answers = g.hash ∷ with_turn (position_of g) g.hash ∷ state_number g.game_state ∷ bound_depth (position_of g) ∷ []

  answers_are : g.hash ∷ z ∷ s ∷ d ∷ [] ≡ answers
  answers_are = cc

  pub game_compared : (q a b c e r : Option (List ℕ)) → a ≡ compared_all q text → b ≡ compared a g.hash →
      c ≡ compared b z → e ≡ compared c s → r ≡ compared e d → r ≡ compared_all q (game_numbers g)
  game_compared q a b c e r t h k l m =
      then_compared g.hash (z ∷ s ∷ d ∷ []) a b r h (three_compared z s d b c e r k l m)
      ∙ ap (compared_all a) answers_are
      ∙ ap (λ (p : Option (List ℕ)). compared_all p answers) (t ∙ ap (compared_all q) text_is)
      ∙ sym (compared_append q (text_of (position_of g)) answers)

module _ (ns : List ℕ) where
  pub whole_record : (xs : List ℕ) (a : Option (List ℕ)) (r : Bool) → a ≡ compared_all (Some ns) xs → r ≡ wholly_agrees a →
      r ≡ same_numbers ns xs
  whole_record xs a r e h = h ∙ ap (wholly_agrees) e ∙ compared_is_same ns xs

  module _ (kind : ℕ) (bytes : List ℕ) where
    pub question_compared : (a b r : Option (List ℕ)) → a ≡ compared (Some ns) kind → b ≡ compared a (length bytes) →
        r ≡ compared_all b bytes → r ≡ compared_all (Some ns) (kind ∷ length bytes ∷ bytes)
    question_compared a b r e f g =
        g ∙ ap (λ (q : Option (List ℕ)). compared_all q bytes) (f ∙ ap (λ (q : Option (List ℕ)). compared q (length bytes)) e)

    module _ (answer : List ℕ) (q a : Option (List ℕ)) (r : Bool) where
      pub answer_compared : q ≡ compared_all (Some ns) (kind ∷ length bytes ∷ bytes) → a ≡ compared_all q answer →
          r ≡ wholly_agrees a → r ≡ same_numbers ns (with_bytes kind bytes answer)
      answer_compared e f g =
          whole_record (with_bytes kind bytes answer) a r (f ∙ ap (λ (b : Option (List ℕ)). compared_all b answer) e
          ∙ sym (compared_append (compared (compared (Some ns) kind) (length bytes)) bytes answer)) g

  -- a refusal: its number and its place
  pub refusal_compared : (text : List ℕ) (n offset size : ℕ) (q a b d : Option (List ℕ)) (r : Bool) →
      q ≡ compared_all (Some ns) (4 ∷ length text ∷ text) → a ≡ compared q n → b ≡ compared a offset →
      d ≡ compared b size → r ≡ wholly_agrees d → r ≡ same_numbers ns (with_bytes 4 text (n ∷ offset ∷ size ∷ []))
  refusal_compared text n offset size q a b d r e f g h w =
      answer_compared 4 text (n ∷ offset ∷ size ∷ []) q d r e (three_compared n offset size q a b d f g h) w

  -- a move's text
  numbers_are : (r : Result Move ParseMoveError) → answer_number move_number r ∷ named_byte (move_reading_of r) ∷
      (result_unwrap_or r none).bits ∷ [] ≡ move_reading_numbers (move_reading_of r)
  numbers_are (Ok m) = refl
  numbers_are (Err BadLength) = refl
  numbers_are (Err (BadCharacter c)) = refl

  pub move_compared : (text : List ℕ) (r : Result Move ParseMoveError) → ParsesMove text r → (q a b d : Option (List ℕ)) (t : Bool) →
      q ≡ compared_all (Some ns) (6 ∷ length text ∷ text) → a ≡ compared q (answer_number move_number r) →
      b ≡ compared a (named_byte (move_reading_of r)) → d ≡ compared b (result_unwrap_or r none).bits → t ≡ wholly_agrees d →
      t ≡ same_numbers ns (move_record text)
  move_compared text r p q a b d t e f g h w =
      answer_compared 6 text _ q d t e (three_compared _ _ _ q a b d f g h) w
      ∙ ap (λ (xs : List ℕ). same_numbers ns (with_bytes 6 text xs)) (numbers_are r ∙ ap move_reading_numbers p)
