-- The value of a finished game, and of one in play, for the side to move.
use mathlib.Core.Path.{◌≡◌}
use mathlib.Core.Bool.{not}
use mathlib.Core.List.{List}
use lib.Dec.{T}
use lib.IntN.{ℤ}
use Rattle.base.specs.Branch.{when◌then◌else◌}
use Rattle.rules.specs.declared.Player.{Player}
use Rattle.rules.specs.declared.GameState.{GameState}
use Rattle.rules.specs.declared.GameState.TheVariants.{InPlay, Drawn, Won}
use Rattle.rules.specs.Board.{in_play}
use Rattle.rules.specs.Position.{Position}
use Rattle.rules.specs.Evaluation.{Scoring, seen_by, state_value, evaluate}
use Rattle.evaluation.specs.Values.{score_by, evaluate_by}

module _ (sc : Scoring) (p : Position) (values : List ℤ) where
  -- a finished game
  pub eval_ended : (s : GameState) → p.state ≡ s → T (not (in_play s)) →
      seen_by p.turn (state_value sc p s) ≡ evaluate_by sc p values
  unfolding evaluate evaluate_by when◌then◌else◌
  eval_ended InPlay e t = absurd t
  eval_ended Drawn e t = rw e
  eval_ended (Won w) e t = rw e

  -- one in play, as the side to move sees it
  pub eval_open : p.state ≡ InPlay → (t : Player) → p.turn ≡ t → seen_by t (score_by p values) ≡ evaluate_by sc p values
  unfolding evaluate_by when◌then◌else◌
  eval_open e t f = rw (e, f)
