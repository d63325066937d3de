-- What is compared of a text that is read, and of a game whose text is read again.
use Rattle.std.specs.Prelude.{Result, Ok, Err, IfOk}
use Rattle.std.specs.Result.{result_unwrap_or}
use mathlib.Core.Path.{◌≡◌, sym, ap, ◌∙◌, subst}
use mathlib.Core.Bool.{Bool, true, false, ◌&&◌, ◌||◌}
use mathlib.Core.List.{List, [], ◌∷◌, ◌++◌}
use Prim.Native.Nat.{ℕ}
use lib.Dec.{eqb, ltb}
use lib.ListN.{get_or}
use borrow.Author.Tests.{eq-eqb, ne_eqb}
use Rattle.rules.specs.Board.{state_number}
use Rattle.rules.specs.Compare.{bound_depth, equivalent}
use Rattle.rules.specs.Hash.{hash, with_turn, zobrist}
use Rattle.text.specs.Reading.{Reading, reads, refuses, read}
use Rattle.text.specs.Writing.{text_of}
use Rattle.game.specs.declared.Game.{Game}
use Rattle.game.specs.Meaning.{position_of}
use Rattle.game.specs.Built.{new_game}
use Rattle.notation.specs.declared.ParseError.{ParseError}
use Rattle.notation.specs.Parsed.{kind_number, reading_of, game_for, Parses}
use Rattle.notation.proofs.ParsedAnswers.{game_or_new}
use Rattle.replay_notation.specs.Records.{with_bytes, read_position_numbers, reading_record, game_numbers, apart, alike, reads_back}
use Rattle.replay.specs.Agreement.{same_numbers}

-- ---- a text
module _ (text : List ℕ) (r : Result Game ParseError) (p : Parses text r) where
  pub refused_reads : (e : ParseError) → r ≡ Err e → read text ≡ refuses (kind_number e.why) e.offset e.length
  refused_reads e q = sym p.says ∙ ap reading_of q

  -- a text that is read is not apart
  pub accepted_not_apart : {g : Game} → r ≡ Ok g → false ≡ apart text (read text)
  accepted_not_apart q = sym (ap (apart text) (sym p.says ∙ ap reading_of q))

  -- of a refusal: a text that is too long, a mark that is not ASCII, and no other
  module _ (e : ParseError) (q : r ≡ Err e) (n : ℕ) (is : n ≡ kind_number e.why) where
    refused_apart : (eqb n 1 || (eqb n 5 && ltb 127 (get_or text e.offset 0))) ≡ apart text (read text)
    refused_apart = rw is (sym (ap (apart text) (refused_reads e q)))

    pub long_apart : n ≡ 1 → true ≡ apart text (read text)
    long_apart h = sym (rw h) ∙ refused_apart

    pub mark_apart : n ≡ 5 → (w : Bool) → w ≡ ltb 127 (get_or text e.offset 0) → w ≡ apart text (read text)
    mark_apart h w f = f ∙ sym (rw h) ∙ refused_apart

    pub other_not_apart : (n ≡ 1 → ⊥) → (n ≡ 5 → ⊥) → false ≡ apart text (read text)
    other_not_apart h k = sym (rw (ne_eqb n 1 h, ne_eqb n 5 k)) ∙ refused_apart

  module _ (g : Game) (q : r ≡ Ok g) where
    pub read_as : read text ≡ reads (position_of g)
    read_as = sym p.says ∙ ap reading_of q

    fresh : g.hash ≡ hash (position_of g)
    fresh =
        let e : g ≡ game_for (read text) = subst (λ (a : Result Game ParseError). IfOk a (λ h. h ≡ game_for (read text))) q p.game_is in
        ap (λ (h : Game). h.hash) (e ∙ ap game_for read_as)

    numbers_fresh : game_numbers g ≡ read_position_numbers (position_of g)
    unfolding zobrist
    numbers_fresh = ap (λ (h : ℕ). text_of (position_of g) ++ (h ∷ with_turn (position_of g) h ∷ state_number (position_of g).state ∷
        bound_depth (position_of g) ∷ [])) fresh

    pub accepted_compared : (ns : List ℕ) (b : Bool) → b ≡ same_numbers ns (with_bytes 5 text (game_numbers g)) →
        b ≡ same_numbers ns (reading_record text (read text))
    accepted_compared ns b h =
        h ∙ ap (λ (xs : List ℕ). same_numbers ns (with_bytes 5 text xs)) numbers_fresh
        ∙ sym (ap (λ (x : Reading). same_numbers ns (reading_record text x)) read_as)

-- ---- a game whose text is read again: the game that is read, or the empty one
module _ (g : Game) (text : List ℕ) (r : Result Game ParseError) (t : text ≡ text_of (position_of g)) (p : Parses text r) where
  abbrev again : Game
  again = result_unwrap_or r new_game

  read_alike : alike again g ≡ reads_back g
  read_alike = ap (λ (h : Game). alike h g) (game_or_new text r p ∙ ap (λ (bs : List ℕ). game_for (read bs)) t)

  pub same_hash_reads_back : again.hash ≡ g.hash → (b : Bool) → b ≡ equivalent (position_of again) (position_of g) → b ≡ reads_back g
  same_hash_reads_back e b q = q ∙ sym (rw (eq-eqb again.hash g.hash e)) ∙ read_alike

  pub other_hash_no_reads_back : (again.hash ≡ g.hash → ⊥) → false ≡ reads_back g
  other_hash_no_reads_back e = sym (rw (ne_eqb again.hash g.hash e)) ∙ read_alike
