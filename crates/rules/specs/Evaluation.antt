-- The evaluation of a position for the side to move.
use Rattle.std.specs.Prelude.{Bool, cond, ◌&&◌, ℕ, zero, suc, ◌+◌, ◌*◌, ltb, leb, ℤ, pos, negsuc, neg_ℤ, ◌+ℤ◌, ◌-ℤ◌, Option, None, Some}
use Rattle.rules.specs.declared.Player.{Player}
use Rattle.rules.specs.declared.Player.TheVariants.{X, O}
use Rattle.rules.specs.declared.GameState.{GameState}
use Rattle.rules.specs.declared.GameState.TheVariants.{InPlay, Drawn, Won}
use Rattle.rules.specs.declared.Weights.{Weights}
use Rattle.base.specs.Branch.{when◌then◌else◌}
use Rattle.base.specs.Integers.{sum}
use Rattle.rules.specs.Board.{Line, lines}
use Rattle.rules.specs.Position.{Position, open_board, won_boards, has}

-- a won game and a lost one: 2^60 and -2^60
abbrev pub won : ℤ
won = pos 1152921504606846976

abbrev pub lost : ℤ
lost = negsuc 1152921504606846975

-- ---- how a position is scored
-- the weights of the Rust
abbrev pub default_weights : Weights
default_weights = record { one = 1; two = 3; board = 20 }

-- each is at most 1,000
unfoldable pub accepted_weights : Weights → Bool
accepted_weights w = leb w.one 1000 && (leb w.two 1000 && leb w.board 1000)

-- the side for which a drawn game counts as won, if any, and the weights
pub record Scoring : Type 0 where
  pub draws : Option Player
  pub weights : Weights

abbrev pub scoring_with : Option Player → Weights → Scoring
scoring_with d w = record { draws = d; weights = w }

abbrev pub no_draw_winner : Weights → Scoring
no_draw_winner w = scoring_with None w

-- ---- lines
-- how many of a line's three places pass a test
unfoldable pub places_in : (ℕ → Bool) → Line → ℕ
places_in own l = cond (own l.i) 1 0 + cond (own l.j) 1 0 + cond (own l.k) 1 0

-- a line with both sides in it gives nothing
unfoldable pub unless_both : ℕ → ℕ → ℤ → ℤ
unless_both x o z = when ltb 0 x && ltb 0 o then (λ _. pos 0) else λ _. z

-- what a line of a board gives the one side that has places in it: a weight for one place, another for two, and nothing for all three
abbrev pub worth : Weights → ℕ → ℕ
worth w zero = 0
worth w (suc zero) = w.one
worth w (suc (suc zero)) = w.two
worth w (suc (suc (suc n))) = 0

-- ---- as X sees it
unfoldable pub board_line : Weights → (ℕ → Bool) → (ℕ → Bool) → Line → ℤ
board_line w xs os l =
    let x = places_in xs l in let o = places_in os l in
    unless_both x o (pos (worth w x) -ℤ pos (worth w o))

-- a closed board scores 0
unfoldable pub board_score : Weights → Position → ℕ → ℤ
board_score w p b = when open_board p b then (λ _. sum (board_line w (has p X b) (has p O b)) lines) else λ _. pos 0

-- an overall line gives a weight for each board that its side has won, and the scores of its three boards; a drawn board is neither side's
unfoldable pub overall_line : Weights → (ℕ → Bool) → (ℕ → Bool) → (ℕ → ℤ) → Line → ℤ
overall_line w xs os score l =
    let x = places_in xs l in let o = places_in os l in
    unless_both x o ((pos (x * w.board) -ℤ pos (o * w.board)) +ℤ (score l.i +ℤ (score l.j +ℤ score l.k)))

unfoldable pub score : Weights → Position → ℤ
score w p = sum (overall_line w (won_boards p X) (won_boards p O) (board_score w p)) lines

-- ---- as w sees what X sees as z
abbrev pub seen_by : Player → ℤ → ℤ
seen_by X z = z
seen_by O z = neg_ℤ z

-- a drawn game is worth nothing, or as much as one won by the draw winner
abbrev pub draw_value : Option Player → ℤ
draw_value None = pos 0
draw_value (Some w) = seen_by w won

abbrev pub state_value : Scoring → Position → GameState → ℤ
state_value sc p InPlay = score sc.weights p
state_value sc p Drawn = draw_value sc.draws
state_value sc p (Won w) = seen_by w won

unfoldable pub evaluate : Scoring → Position → ℤ
evaluate sc p = seen_by p.turn (state_value sc p p.state)

-- ---- the evaluation alone: 20 for a weight over 1,000, of a finished game too
pub record Evaluated : Type 0 where
  pub refusal : ℕ
  pub value : ℤ

unfoldable pub evaluated : Scoring → Position → Evaluated
evaluated sc p =
    when accepted_weights sc.weights then (λ _. record { refusal = 0; value = evaluate sc p }) else
    λ _. record { refusal = 20; value = pos 0 }
