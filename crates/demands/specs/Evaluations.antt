-- What is claimed of the evaluation alone, for all weights.
use Rattle.std.specs.Prelude.{◌≡◌, ◌+◌, ◌*◌, ◌≤◌, max, T, neg_ℤ, nat_abs, ◌<ℤ◌, Option}
use Rattle.rules.specs.declared.Player.{Player}
use Rattle.rules.specs.declared.Weights.{Weights}
use Rattle.rules.specs.Board.{other}
use Rattle.rules.specs.Position.{unfinished}
use Rattle.rules.specs.Evaluation.{won, lost, scoring_with}
use Rattle.game.specs.declared.Game.{Game}
use Rattle.game.specs.Meaning.{position_of}
use Rattle.evaluation.specs.Values.{Evaluates, value_or_0}
use Rattle.demands.specs.declared.SidesEvaluations.{SidesEvaluations}

-- the hash, which the evaluation does not look at, is left as it is
abbrev pub other_to_move : Game → Game
other_to_move g = record {
  next_player = other g.next_player;
  next_board = g.next_board;
  local_boards = g.local_boards;
  global_states = g.global_states;
  game_state = g.game_state;
  hash = g.hash;
}

-- of a game as it is, and with the other side to move
module _ (g : Game) (draws : Option Player) (w : Weights) where
  pub record EvaluationClaims (r : SidesEvaluations) : Type 0 where
    -- each by the definition
    pub own_is : Evaluates (scoring_with draws w) g r.own
    pub others_is : Evaluates (scoring_with draws w) (other_to_move g) r.others
    -- the one is the exact negative of the other
    pub negative : value_or_0 r.others ≡ neg_ℤ (value_or_0 r.own)
    -- an unfinished game lies within 24 times a won board's weight and 192 times the larger of the others, either way
    pub within : T (unfinished (position_of g)) → nat_abs (value_or_0 r.own) ≤ 24 * w.board + 192 * max w.one w.two
    -- and is neither won nor lost
    pub inside : T (unfinished (position_of g)) → (lost <ℤ value_or_0 r.own) × (value_or_0 r.own <ℤ won)
