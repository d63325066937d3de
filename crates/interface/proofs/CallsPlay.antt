-- Moves tried one by one, by those still to be tried.
use mathlib.Core.Path.{◌≡◌, refl, sym, ap, ◌∙◌}
use mathlib.Core.List.{List, [], ◌∷◌}
use Prim.Native.Nat.{ℕ, suc, ◌+◌, ◌≤◌, ◌<◌}
use native.Mathlib.Numerals.{add-one}
use lib.ListN.{length, get_or, drop, set, drop_of_length-le}
use lib.Seq.{drop-cons, sets}
use Rattle.rules.specs.Play.{play}
use Rattle.game.specs.declared.Game.{Game}
use Rattle.game.specs.Meaning.{position_of}
use Rattle.game.specs.After.{refusal, game_after, answers_each}

pub answers_next : (l ms : List ℕ) (g h : Game) (i n : ℕ) → i < length ms → n ≡ refusal (play (position_of g) (get_or ms i 0)) →
    h ≡ game_after g (get_or ms i 0) → sets (set l i n) (i + 1) (answers_each h (drop (i + 1) ms))
    ≡ sets l i (answers_each g (drop i ms))
unfolding answers_each
answers_next l ms g h i n q e f =
    ap (λ (k : ℕ). sets (set l i n) k (answers_each h (drop k ms))) (add-one i)
    ∙ ap (λ (k : Game). sets (set l i n) (suc i) (answers_each k (drop (suc i) ms))) f
    ∙ ap (λ (k : ℕ). sets (set l i k) (suc i) (answers_each (game_after g (get_or ms i 0)) (drop (suc i) ms))) e
    ∙ sym (ap (λ (k : List ℕ). sets l i (answers_each g k)) (drop-cons ms i 0 q))

pub answers_end : (l ms m : List ℕ) (g : Game) (i : ℕ) → length ms ≤ i → sets l i (answers_each g (drop i ms)) ≡ m → l ≡ m
unfolding answers_each
answers_end l ms m g i h e = sym (ap (λ (k : List ℕ). sets l i (answers_each g k)) (drop_of_length-le ms h)) ∙ e

-- as many answers as moves
pub answers_length : (g : Game) (ms : List ℕ) → length (answers_each g ms) ≡ length ms
unfolding answers_each
answers_length g [] = refl
answers_length g (m ∷ ms) = ap suc (answers_length (game_after g m) ms)
