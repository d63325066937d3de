-- An overall line by the values of its three boards is the line of the definition, which counts won boards and adds scores.
use mathlib.Core.Path.{◌≡◌, refl, ap, ◌∙◌}
use mathlib.Core.List.{List}
use Prim.Native.Nat.{ℕ, ◌*◌}
use lib.Bits.{bit_and}
use lib.Dec.{T}
use lib.IntN.{ℤ, pos, neg_ℤ, ◌+ℤ◌, ◌-ℤ◌, +ℤ_assoc}
use Rattle.base.specs.Bits.{bit, digits}
use Rattle.base.specs.Integers.{sum}
use Rattle.base.specs.Lists.{In}
use Rattle.base.proofs.Sums.{sum_same}
use Rattle.base.proofs.Branch.{if_ind}
use Rattle.base.proofs.Integers.{hi, lo, zarith, sm, ng}
use Rattle.rules.specs.declared.Player.TheVariants.{X, O}
use Rattle.rules.specs.declared.GameState.{GameState}
use Rattle.rules.specs.declared.GameState.TheVariants.{InPlay, Drawn, Won}
use Rattle.rules.specs.declared.Weights.{Weights}
use Rattle.rules.specs.Board.{in_play, Line, lines}
use Rattle.rules.specs.Position.{Position, unfinished, won_boards}
use Rattle.rules.specs.Evaluation.{places_in, board_score, overall_line, score, seen_by, state_value, evaluate, Scoring}
use Rattle.lines.specs.Masks.{mask_of}
use Rattle.evaluation.specs.Values.{board_value, values_of, value_at, overall_value, score_by, evaluate_by}
use Rattle.evaluation.proofs.ValuesLines.{low, count_digits, none_there, some_there, both_sides, no_x, no_o}
use Rattle.evaluation.proofs.ValuesBoards.{value_parts, nine_values}

-- ---- as the code finds it
module _ (l : Line) (x o m : ℕ) (values : List ℤ) (i : In l lines) (masked : m ≡ mask_of l) where
  pub overall_both : (bit_and x m ≡ 0 → ⊥) → (bit_and o m ≡ 0 → ⊥) → pos 0 ≡ overall_value (bit x) (bit o) values l
  unfolding overall_value
  overall_both q r = both_sides (places_in (bit x) l) (places_in (bit o) l) _ (some_there l x i m masked q) (some_there l o i m masked r)

  abbrev three : ℤ
  three = value_at values l.i +ℤ value_at values l.j +ℤ value_at values l.k

  three_is : three ≡ value_at values l.i +ℤ (value_at values l.j +ℤ value_at values l.k)
  three_is = +ℤ_assoc (value_at values l.i) (value_at values l.j) (value_at values l.k)

  pub overall_x : bit_and o m ≡ 0 → three ≡ overall_value (bit x) (bit o) values l
  unfolding overall_value
  overall_x e = three_is ∙ no_o (places_in (bit x) l) (places_in (bit o) l) _ (none_there l o i m masked e)

  pub overall_o : bit_and x m ≡ 0 → three ≡ overall_value (bit x) (bit o) values l
  unfolding overall_value
  overall_o e = three_is ∙ no_x (places_in (bit x) l) (places_in (bit o) l) _ (none_there l x i m masked e)

-- ---- the definition
module _ (w : Weights) (p : Position) where
  abbrev v : ℕ → ℤ
  v = board_value w p

  abbrev s : ℕ → ℤ
  s = board_score w p

  -- three boards: their values are their scores, and the weight for each that is won
  three_boards : (l : Line) →
      v l.i +ℤ (v l.j +ℤ v l.k)
      ≡ (pos (places_in (won_boards p X) l * w.board) -ℤ pos (places_in (won_boards p O) l * w.board)) +ℤ
      (s l.i +ℤ (s l.j +ℤ s l.k))
  unfolding places_in hi lo
  three_boards l =
      let x = places_in (won_boards p X) l * w.board in
      let o = places_in (won_boards p O) l * w.board in
      omega (
        zarith,
        value_parts w p l.i,
        value_parts w p l.j,
        value_parts w p l.k,
        sm (v l.i) (v l.j +ℤ v l.k),
        sm (v l.j) (v l.k),
        sm (pos x -ℤ pos o) (s l.i +ℤ (s l.j +ℤ s l.k)),
        sm (pos x) (neg_ℤ (pos o)),
        ng (pos o),
        sm (s l.i) (s l.j +ℤ s l.k),
        sm (s l.j) (s l.k),
      )

  line_is : (l : Line) → In l lines → overall_value (won_boards p X) (won_boards p O) (values_of w p) l
      ≡ overall_line w (won_boards p X) (won_boards p O) s l
  unfolding overall_value overall_line
  line_is l i =
      let k = low l i in
      rw (nine_values w p l.i k.0, nine_values w p l.j k.1, nine_values w p l.k k.2, three_boards l)

  score_is : score_by p (values_of w p) ≡ score w p
  unfolding score_by score
  score_is =
      sum_same (overall_value (won_boards p X) (won_boards p O) (values_of w p)) (overall_line w (won_boards p X) (won_boards p O) s)
      lines line_is

-- the lines, by the nine digits of each side's boards
pub score_bits : (p : Position) (x o : ℕ) (values : List ℤ) → x ≡ digits (won_boards p X) 9 → o ≡ digits (won_boards p O) 9 →
    sum (overall_value (bit x) (bit o) values) lines ≡ score_by p values
unfolding score_by overall_value
score_bits p x o values e d =
    sum_same (overall_value (bit x) (bit o) values) (overall_value (won_boards p X) (won_boards p O) values) lines
    (λ l i. rw (count_digits (won_boards p X) x l e i, count_digits (won_boards p O) o l d i))

-- with its own values the evaluation is the definition's
pub by_values : (sc : Scoring) (p : Position) → evaluate_by sc p (values_of sc.weights p) ≡ evaluate sc p
unfolding evaluate_by evaluate
by_values sc p =
    if_ind (λ (z : ℤ). z ≡ evaluate sc p) (unfinished p) _ _
    (λ t. ap (seen_by p.turn) (score_is sc.weights p) ∙ in_play_score p.state t) (λ _. refl)
  where
    in_play_score : (s : GameState) → T (in_play s) → seen_by p.turn (score sc.weights p) ≡ seen_by p.turn (state_value sc p s)
    in_play_score InPlay t = refl
    in_play_score Drawn t = absurd t
    in_play_score (Won w) t = absurd t
