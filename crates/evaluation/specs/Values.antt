-- The values of the nine boards, the evaluation by them, and what the evaluation alone answers.
use Rattle.std.specs.Prelude.{◌≡◌, Bool, List, map, ℕ, ℤ, pos, neg_ℤ, ◌+ℤ◌, get_or, Result, Ok, Err}
use Rattle.rules.specs.declared.Player.TheVariants.{X, O}
use Rattle.rules.specs.declared.GameState.{GameState}
use Rattle.rules.specs.declared.GameState.TheVariants.{InPlay, Drawn, Won}
use Rattle.rules.specs.declared.Weights.{Weights}
use Rattle.base.specs.Branch.{when◌then◌else◌}
use Rattle.base.specs.Integers.{sum}
use Rattle.base.specs.Lists.{In}
use Rattle.rules.specs.Board.{nine, Line, lines}
use Rattle.rules.specs.Position.{Position, unfinished, won_boards}
use Rattle.rules.specs.Refusal.{answer_number}
use Rattle.rules.specs.Evaluation.{Scoring, places_in, unless_both, board_score, seen_by, evaluate, evaluated}
use Rattle.lines.specs.Masks.{mask_of}
use Rattle.game.specs.declared.Game.{Game}
use Rattle.game.specs.Meaning.{position_of}
use Rattle.evaluation.specs.declared.BadWeight.{BadWeight}

-- what is said of the line whose mask it is
abbrev pub OfLine : ℕ → (Line → Type 0) → Type 0
OfLine mask P = (l : Line) → In l lines → mask ≡ mask_of l → P l

-- ---- the values
-- the weight of a board that a side has won, and the score of one in play
abbrev pub value_in : Weights → Position → ℕ → GameState → ℤ
value_in w p b InPlay = board_score w p b
value_in w p b Drawn = pos 0
value_in w p b (Won X) = pos w.board
value_in w p b (Won O) = neg_ℤ (pos w.board)

unfoldable pub board_value : Weights → Position → ℕ → ℤ
board_value w p b = value_in w p b (p.states b)

unfoldable pub values_of : Weights → Position → List ℤ
values_of w p = map (board_value w p) nine

-- the value of board i
abbrev pub value_at : List ℤ → ℕ → ℤ
value_at values i = get_or values i (pos 0)

-- an overall line by the values of its three boards
unfoldable pub overall_value : (ℕ → Bool) → (ℕ → Bool) → List ℤ → Line → ℤ
overall_value xs os values l =
    unless_both (places_in xs l) (places_in os l) (value_at values l.i +ℤ (value_at values l.j +ℤ value_at values l.k))

-- as X sees it
unfoldable pub score_by : Position → List ℤ → ℤ
score_by p values = sum (overall_value (won_boards p X) (won_boards p O) values) lines

-- the evaluation, with boards that are said to have these values, which count in play alone
unfoldable pub evaluate_by : Scoring → Position → List ℤ → ℤ
evaluate_by sc p values = when unfinished p then (λ _. seen_by p.turn (score_by p values)) else λ _. evaluate sc p

-- ---- the evaluation alone
abbrev pub bad_weight_number : BadWeight → ℕ
bad_weight_number why = 20

abbrev pub value_or_0 : Result ℤ BadWeight → ℤ
value_or_0 (Ok value) = value
value_or_0 (Err why) = pos 0

-- what `evaluate` gives: refused, as the value 0
pub record Evaluates (sc : Scoring) (g : Game) (r : Result ℤ BadWeight) : Type 0 where
  pub refusal : answer_number bad_weight_number r ≡ (evaluated sc (position_of g)).refusal
  pub value : value_or_0 r ≡ (evaluated sc (position_of g)).value
