-- Laws of the evaluation: its range, by the most that each line can give, and that the other side sees the negative.
use Rattle.std.specs.Prelude.{Option, None, Some}
use mathlib.Core.Path.{◌≡◌, refl, sym, ap, ◌∙◌}
use mathlib.Core.Bool.{Bool, true, false, not, cond, ◌&&◌}
use mathlib.Core.Logic.{◌⊎◌, inl, inr}
use Prim.Native.Nat.{ℕ, zero, suc, ◌+◌, ◌*◌, ◌^◌, ◌≤◌, max}
use native.Mathlib.Nat.{mul-le-mul_right}
use native.Mathlib.Omega.{arith}
use lib.Dec.{T, ltb, leb, leb→le}
use lib.IntN.{ℤ, pos, neg_ℤ, neg_ℤ-neg_ℤ, nat_abs}
use lib.Signed.{◌≤ℤ◌, ◌<ℤ◌}
use Rattle.base.specs.Branch.{when◌then◌else◌}
use Rattle.base.proofs.Bool.{and→}
use Rattle.base.proofs.Branch.{if_ind}
use Rattle.base.proofs.Integers.{hi, lo, zarith, Within, within_abs, within_+, within_neg, within_pos, within_minus, times, within_sum}
use Rattle.rules.specs.declared.Player.{Player}
use Rattle.rules.specs.declared.Player.TheVariants.{X, O}
use Rattle.rules.specs.declared.GameState.{GameState}
use Rattle.rules.specs.declared.GameState.TheVariants.{InPlay, Drawn, Won}
use Rattle.rules.specs.declared.Weights.{Weights}
use Rattle.rules.specs.Board.{other, in_play, Line, lines}
use Rattle.rules.specs.Position.{Position, unfinished, open_board, won_boards, has}
use Rattle.rules.specs.Evaluation.{won, lost, default_weights, accepted_weights, Scoring, scoring_with, places_in, unless_both, worth}
use Rattle.rules.specs.Evaluation.{board_line, board_score, overall_line, score, seen_by, draw_value, state_value, evaluate}
use Rattle.rules.specs.Evaluation.{evaluated}

-- ---- a won game and a lost one
pub won_is : won ≡ pos (2 ^ 60)
won_is = refl

pub lost_is : lost ≡ neg_ℤ (pos (2 ^ 60))
lost_is = refl

-- ---- with the other side to move
abbrev pub other_to_move : Position → Position
other_to_move p = record { turn = other p.turn; next_board = p.next_board; cells = p.cells; states = p.states; state = p.state }

seen_by_other : (w : Player) (z : ℤ) → seen_by (other w) z ≡ neg_ℤ (seen_by w z)
seen_by_other X z = refl
seen_by_other O z = sym (neg_ℤ-neg_ℤ z)

-- what X sees does not depend on whose turn it is
other_sees_the_same : (sc : Scoring) (p : Position) (g : GameState) → state_value sc (other_to_move p) g ≡ state_value sc p g
unfolding score board_score
other_sees_the_same sc p InPlay = refl
other_sees_the_same sc p Drawn = refl
other_sees_the_same sc p (Won w) = refl

-- the other side, to move, sees the negative
pub other_side_negates : (sc : Scoring) (p : Position) → evaluate sc (other_to_move p) ≡ neg_ℤ (evaluate sc p)
unfolding evaluate
other_side_negates sc p =
    ap (seen_by (other p.turn)) (other_sees_the_same sc p p.state) ∙ seen_by_other p.turn (state_value sc p p.state)

-- ---- as a side sees it
within_seen : (k : ℕ) (w : Player) (z : ℤ) → Within k z → Within k (seen_by w z)
within_seen k X z h = h
within_seen k O z h = within_neg k z h

-- ---- the lines
within_unless : (k x o : ℕ) (z : ℤ) → Within k z → Within k (unless_both x o z)
unfolding unless_both
within_unless k x o z h = if_ind (Within k) (ltb 0 x && ltb 0 o) _ _ (λ _. within_pos k 0 (omega arith)) (λ _. h)

-- the most that a line of a board gives
abbrev line_most : Weights → ℕ
line_most w = max w.one w.two

worth_le : (w : Weights) (n : ℕ) → worth w n ≤ line_most w
worth_le w zero = omega arith
worth_le w (suc zero) = omega arith
worth_le w (suc (suc zero)) = omega arith
worth_le w (suc (suc (suc n))) = omega arith

bit_le : (b : Bool) → cond b 1 0 ≤ 1
bit_le true = omega arith
bit_le false = omega arith

count_le : (own : ℕ → Bool) (l : Line) → places_in own l ≤ 3
unfolding places_in
count_le own l = omega (arith, bit_le (own l.i), bit_le (own l.j), bit_le (own l.k))

eight_of : (k : ℕ) (z : ℤ) → Within (times 8 k) z → Within (8 * k) z
unfolding times
eight_of k z h = (omega arith, omega arith)

module _ (w : Weights) where
  board_line_within : (xs os : ℕ → Bool) (l : Line) → Within (line_most w) (board_line w xs os l)
  unfolding board_line
  board_line_within xs os l =
      within_unless (line_most w) (places_in xs l) (places_in os l) _
      (within_minus (line_most w) _ _ (worth_le w (places_in xs l)) (worth_le w (places_in os l)))

  -- eight lines
  abbrev board_most : ℕ
  board_most = 8 * line_most w

  board_score_within : (p : Position) (b : ℕ) → Within board_most (board_score w p b)
  unfolding board_score
  board_score_within p b = if_ind (Within board_most) (open_board p b) _ _
      (λ _. eight_of (line_most w) _
      (within_sum (line_most w) (board_line w (has p X b) (has p O b)) (board_line_within (has p X b) (has p O b)) lines))
      (λ _. within_pos board_most 0 (omega arith))

  -- three won boards, and the scores of three boards
  overall_most : ℕ
  overall_most = 3 * w.board + (board_most + (board_most + board_most))

  overall_line_within : (xs os : ℕ → Bool) (s : ℕ → ℤ) → ((b : ℕ) → Within board_most (s b)) → (l : Line) →
      Within overall_most (overall_line w xs os s l)
  unfolding overall_line overall_most
  overall_line_within xs os s h l = within_unless overall_most (places_in xs l) (places_in os l) _
      (within_+ (3 * w.board) (board_most + (board_most + board_most)) _ _
      (within_minus (3 * w.board) (places_in xs l * w.board) (places_in os l * w.board)
      (mul-le-mul_right w.board (count_le xs l)) (mul-le-mul_right w.board (count_le os l)))
      (within_+ board_most (board_most + board_most) _ _ (h l.i) (within_+ board_most board_most _ _ (h l.j) (h l.k))))

  -- eight overall lines
  abbrev pub score_most : ℕ
  score_most = 24 * w.board + 192 * line_most w

  pub score_within : (p : Position) → Within score_most (score w p)
  unfolding score overall_most
  score_within p = go _
      (eight_of overall_most _ (within_sum overall_most (overall_line w (won_boards p X) (won_boards p O) (board_score w p))
      (overall_line_within (won_boards p X) (won_boards p O) (board_score w p) (board_score_within p)) lines))
    where
      go : (z : ℤ) → Within (8 * overall_most) z → Within score_most z
      go z h = (omega arith, omega arith)

-- ---- an unfinished position
module _ (sc : Scoring) (p : Position) (t : T (unfinished p)) where
  -- its two halves, as omega reads them
  unfinished_halves : Within (score_most sc.weights) (evaluate sc p)
  unfolding evaluate
  unfinished_halves = within_seen (score_most sc.weights) p.turn _ (of p.state t)
    where
      of : (g : GameState) → T (in_play g) → Within (score_most sc.weights) (state_value sc p g)
      of InPlay t = score_within sc.weights p
      of Drawn t = absurd t
      of (Won w) t = absurd t

  -- for all weights, its evaluation lies within 24 times a won board's and 192 times the larger of the others, either way
  pub unfinished_within : nat_abs (evaluate sc p) ≤ 24 * sc.weights.board + 192 * max sc.weights.one sc.weights.two
  unfinished_within = within_abs (score_most sc.weights) (evaluate sc p) unfinished_halves

-- with the default weights within 1,056
pub default_within : (d : Option Player) (p : Position) → T (unfinished p) → nat_abs (evaluate (scoring_with d default_weights) p) ≤ 1056
default_within d p t = unfinished_within (scoring_with d default_weights) p t

-- ---- accepted weights
pub defaults_accepted : accepted_weights default_weights ≡ true
unfolding accepted_weights
defaults_accepted = refl

accepted→ : (w : Weights) → T (accepted_weights w) → (w.one ≤ 1000) × (w.two ≤ 1000) × (w.board ≤ 1000)
unfolding accepted_weights
accepted→ w t =
    let a = and→ (leb w.one 1000) _ t in
    let b = and→ (leb w.two 1000) _ a.1 in
    (leb→le _ 1000 a.0, leb→le _ 1000 b.0, leb→le _ 1000 b.1)

pub accepted_most : (w : Weights) → T (accepted_weights w) → score_most w ≤ 216000
accepted_most w t = let h = accepted→ w t in omega arith

-- so an unfinished position is neither won nor lost
pub value_inside : (sc : Scoring) → T (accepted_weights sc.weights) → (p : Position) → T (unfinished p) →
    (lost <ℤ evaluate sc p) × (evaluate sc p <ℤ won)
unfolding hi lo
value_inside sc a p t =
    let m = accepted_most sc.weights a in
    let h = unfinished_halves sc p t in
    (omega (zarith, h), omega (zarith, h))

-- the evaluation alone
module _ (sc : Scoring) (p : Position) where
  pub evaluated_accepted : accepted_weights sc.weights ≡ true → evaluated sc p ≡ record { refusal = 0; value = evaluate sc p }
  unfolding evaluated when◌then◌else◌
  evaluated_accepted e = rw e

  pub evaluated_refused : accepted_weights sc.weights ≡ false → evaluated sc p ≡ record { refusal = 20; value = pos 0 }
  unfolding evaluated when◌then◌else◌
  evaluated_refused e = rw e

-- ---- a finished game
abbrev pub Final : ℤ → Type 0
Final z = (z ≡ won) ⊎ ((z ≡ lost) ⊎ (z ≡ pos 0))

seen_win : (v w : Player) → Final (seen_by v (seen_by w won))
seen_win X X = inl refl
seen_win X O = inr (inl refl)
seen_win O X = inr (inl refl)
seen_win O O = inl refl

seen_nothing : (v : Player) → Final (seen_by v (pos 0))
seen_nothing X = inr (inr refl)
seen_nothing O = inr (inr refl)

-- a finished game is won, lost or worth nothing
pub finished_is : (sc : Scoring) (p : Position) → T (not (unfinished p)) → Final (evaluate sc p)
unfolding evaluate
finished_is sc p t = of p.state t
  where
    drawn : (d : Option Player) → Final (seen_by p.turn (draw_value d))
    drawn None = seen_nothing p.turn
    drawn (Some w) = seen_win p.turn w

    of : (g : GameState) → T (not (in_play g)) → Final (seen_by p.turn (state_value sc p g))
    of InPlay t = absurd t
    of Drawn t = drawn sc.draws
    of (Won w) t = seen_win p.turn w

final_within : (z : ℤ) → Final z → (lost ≤ℤ z) × (z ≤ℤ won)
unfolding hi lo
final_within z (inl e) = (omega zarith, omega zarith)
final_within z (inr (inl e)) = (omega zarith, omega zarith)
final_within z (inr (inr e)) = (omega zarith, omega zarith)

-- so it lies from lost to won
pub finished_within : (sc : Scoring) (p : Position) → T (not (unfinished p)) → (lost ≤ℤ evaluate sc p) × (evaluate sc p ≤ℤ won)
finished_within sc p t = final_within (evaluate sc p) (finished_is sc p t)
