-- Settings and weights as words.
use Rattle.std.specs.Prelude.{Bool, cond, ◌&&◌, List, ℕ, ◌-◌, min, eqb, leb, length, get_or, drop, Option, None, Some}
use Rattle.rules.specs.declared.Player.{Player}
use Rattle.rules.specs.declared.Weights.{Weights}
use Rattle.rules.specs.Board.{side_from}
use Rattle.rules.specs.Evaluation.{Scoring, scoring_with}
use Rattle.theory.specs.Reported.{Settings}
use Rattle.minimax.specs.declared.Config.{Config}

-- 0 nobody, 1 X, 2 O
abbrev pub draws_from : ℕ → Option Player
draws_from n = cond (eqb n 0) None (Some (side_from (n - 1)))

-- of one place of a board's line, of two places, of a won board
abbrev pub weights_from : List ℕ → Weights
weights_from ws = record { one = get_or ws 0 0; two = get_or ws 1 0; board = get_or ws 2 0 }

-- ---- the six words: depth, allowance, draw winner, and the weights
abbrev pub settings_from : List ℕ → Settings
settings_from ws = record { max_depth = get_or ws 0 0; allowance = get_or ws 1 0; weights = weights_from (drop 3 ws) }

abbrev pub scoring_from : List ℕ → Scoring
scoring_from ws = scoring_with (draws_from (get_or ws 2 0)) (weights_from (drop 3 ws))

abbrev pub settings_ok : List ℕ → Bool
settings_ok ws = leb 6 (length ws) && leb (get_or ws 2 0) 2

-- ---- what the engine's struct, of 16 bits a weight, holds of them: one that is over 65,535 stays over 1,000
abbrev pub held_weights : Weights → Weights
held_weights w = record { one = min w.one 65535; two = min w.two 65535; board = min w.board 65535 }

abbrev pub config_from : List ℕ → Config
config_from ws = record {
  max_depth = get_or ws 0 0;
  allowance = get_or ws 1 0;
  draw_winner = draws_from (get_or ws 2 0);
  weights = held_weights (weights_from (drop 3 ws));
}
