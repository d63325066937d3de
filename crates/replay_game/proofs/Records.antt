-- Numbers compared one after the other: moves of the question, their answers, and all of a record.
use mathlib.Core.Path.{◌≡◌, refl, sym, ap, ap₂, ◌∙◌, subst}
use mathlib.Core.Bool.{Bool, false, not}
use mathlib.Core.List.{List, [], ◌∷◌, ◌++◌, map}
use Prim.Native.Nat.{ℕ, zero, suc, ◌+◌, ◌%◌, ◌<◌}
use native.Mathlib.Numerals.{add-one}
use lib.Dec.{ltb}
use lib.ListN.{length, get_or}
use Rattle.base.specs.Lists.{from}
use Rattle.rules.specs.Position.{unfinished}
use Rattle.boards.specs.declared.moves.MoveError.{MoveError}
use Rattle.boards.specs.Answers.{in_range, within}
use Rattle.boards.proofs.Answers.{in_one, in_both}
use Rattle.game.specs.declared.Game.{Game}
use Rattle.game.specs.Meaning.{position_of}
use Rattle.game.specs.After.{games_after, answers_each}
use Rattle.std.specs.Prelude.{Option, Some, Result}
use Rattle.std.specs.Result.{result_unwrap_or}
use Rattle.replay.specs.declared.totals.Comparison.{Comparison}
use Rattle.replay.specs.Agreement.{left_of, compared, compared_all, wholly_agrees}
use Rattle.replay.specs.Totals.{comparison}
use Rattle.replay.proofs.AgreementCompared.{compared_append, compared_is_same}
use Rattle.replay_game.specs.declared.Run.{Run}
use Rattle.replay_game.specs.Records.{
  moves_from,
  moves_in,
  reached_numbers,
  moves_numbers,
  play_numbers,
  of_play,
  of_record,
  Runs,
}

-- ---- numbers by their places
module _ (f : ℕ → ℕ) where
  pub first_place : (i k m : ℕ) → k ≡ m + 1 → map f (from i k) ≡ f i ∷ map f (from (i + 1) m)
  first_place i k m e =
      ap (λ (n : ℕ). map f (from i n)) (e ∙ add-one m) ∙ ap (λ (n : ℕ). f i ∷ map f (from n m)) (sym (add-one i))

  pub places_counted : (i k : ℕ) → length (map f (from i k)) ≡ k
  places_counted i zero = refl
  places_counted i (suc k) = ap suc (places_counted (suc i) k)

  module _ (b t : Option (List ℕ)) where
    pub place_compared : (r : Option (List ℕ)) (i k m : ℕ) → k ≡ m + 1 → r ≡ compared b (f i) →
        compared_all b (map f (from i k)) ≡ t → compared_all r (map f (from (i + 1) m)) ≡ t
    place_compared r i k m e h inv =
        ap (λ (q : Option (List ℕ)). compared_all q (map f (from (i + 1) m))) h
        ∙ sym (ap (compared_all b) (first_place i k m e)) ∙ inv

    pub places_compared : (i k : ℕ) → k ≡ 0 → compared_all b (map f (from i k)) ≡ t → b ≡ t
    places_compared i k e inv = sym (ap (λ (n : ℕ). compared_all b (map f (from i n))) e) ∙ inv

-- ---- moves tried one after the other
pub none_run : (r : Run) → Runs (left_of r.compared) r.game [] r
unfolding answers_each games_after
none_run r = record { game_is = refl; compared_is = refl }

pub more_run : (a : Option (List ℕ)) (g : Game) (m : ℕ) (ms : List ℕ) (r q : Run) → Runs a g (m ∷ []) r →
    Runs (left_of r.compared) r.game ms q → Runs a g (m ∷ ms) q
unfolding answers_each games_after
more_run a g m ms r q h k =
    record {
      game_is = k.game_is ∙ ap (λ (x : Game). games_after x ms) h.game_is;
      compared_is =
          k.compared_is ∙ ap₂ (λ (x : Option (List ℕ)) (y : Game). compared_all x (answers_each y ms)) h.compared_is h.game_is;
    }

-- ---- one list, then another
pub joined : (a b r : Option (List ℕ)) (xs ys : List ℕ) → b ≡ compared_all a xs → r ≡ compared_all b ys →
    r ≡ compared_all a (xs ++ ys)
joined a b r xs ys e h = h ∙ ap (λ (q : Option (List ℕ)). compared_all q ys) e ∙ sym (compared_append a xs ys)

-- ---- a play's numbers, part by part
abbrev parts_compared : Option (List ℕ) → Game → List ℕ → Option (List ℕ)
parts_compared b g ms =
    let end = games_after g ms in
    compared_all (compared_all (compared_all (compared_all b ms) (answers_each g ms)) (reached_numbers end))
    (moves_numbers (position_of end))

play_compared : (a : Option (List ℕ)) (g : Game) (ms : List ℕ) →
    parts_compared (compared a (length ms)) g ms ≡ compared_all a (play_numbers g ms)
play_compared a g ms =
    let end = games_after g ms in
    let last = moves_numbers (position_of end) in
    let two = reached_numbers end ++ last in
    sym (compared_append (compared a (length ms)) ms (answers_each g ms ++ two)
    ∙ compared_append (compared_all (compared a (length ms)) ms) (answers_each g ms) two
    ∙ compared_append _ (reached_numbers end) last)

pub play_joined : (ns : List ℕ) (a counted asked there all : Option (List ℕ)) (run : Run) (g : Game) (i k : ℕ) →
    k ≡ get_or ns i 0 % 512 → counted ≡ compared a k → asked ≡ compared_all counted (moves_from ns (i + 1) k) →
    Runs asked g (moves_from ns (i + 1) k) run → there ≡ compared_all (left_of run.compared) (reached_numbers run.game) →
    all ≡ compared_all there (moves_numbers (position_of run.game)) → all ≡ compared_all a (play_numbers g (moves_in ns i))
play_joined ns a counted asked there all run g i k e f h runs p q =
    rw (q, p, runs.compared_is, runs.game_is, h, f, e)
    (ap (λ (n : ℕ). parts_compared (compared a n) g (moves_in ns i))
    (sym (places_counted (λ (j : ℕ). get_or ns j 0 % 256) (i + 1) (get_or ns i 0 % 512))) ∙ play_compared a g (moves_in ns i))

pub play_end : (ns : List ℕ) (asked : Option (List ℕ)) (run : Run) (g : Game) (i k : ℕ) → k ≡ get_or ns i 0 % 512 →
    Runs asked g (moves_from ns (i + 1) k) run → run.game ≡ games_after g (moves_in ns i)
play_end ns asked run g i k e runs = runs.game_is ∙ ap (λ (n : ℕ). games_after g (moves_from ns (i + 1) n)) e

-- ---- all of a record
pub whole_record : (ns xs : List ℕ) (a : Option (List ℕ)) (w : Bool) (r : Comparison) → a ≡ compared_all (Some ns) xs →
    w ≡ wholly_agrees a → r ≡ comparison w false → r ≡ of_record ns xs
unfolding of_record
whole_record ns xs a w r e h j =
    j ∙ ap (λ (b : Bool). comparison b false) (h ∙ ap (wholly_agrees) e ∙ compared_is_same ns xs)

pub whole_play : (ns first : List ℕ) (a : Option (List ℕ)) (g h : Game) (i : ℕ) (r : Comparison) →
    a ≡ compared_all (Some ns) first →
    h ≡ g → r ≡ comparison (wholly_agrees (compared_all a (play_numbers h (moves_in ns i))))
    (not (unfinished (position_of (games_after h (moves_in ns i))))) → r ≡ of_play ns first g i
unfolding of_play
whole_play ns first a g h i r e f j =
    let ms = moves_in ns i in
    let over : Game → Bool = λ x. not (unfinished (position_of (games_after x ms))) in
    subst (λ (x : Game). r ≡ comparison (wholly_agrees (compared_all a (play_numbers x ms))) (over x)) f j
    ∙ ap (λ (b : Bool). comparison b (over g)) (ap (wholly_agrees) (joined (Some ns) a _ first (play_numbers g ms) e refl)
    ∙ compared_is_same ns (first ++ play_numbers g ms))

-- ---- what is answered in range, and of a move
module _ {A : Type 0} (a or : A) where
  pub in_range_board : (b : ℕ) → b < 9 → result_unwrap_or (within (ltb b 9) a) or ≡ a
  in_range_board b h = sym (ap (λ (r : Result A MoveError). result_unwrap_or r or) (in_one a b h))

  pub in_range_cell : (b c : ℕ) → b < 9 → c < 9 → result_unwrap_or (within (in_range b c) a) or ≡ a
  in_range_cell b c h k = sym (ap (λ (r : Result A MoveError). result_unwrap_or r or) (in_both a b c h k))
