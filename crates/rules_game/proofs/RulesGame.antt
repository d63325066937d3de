-- The written rules are a lawful game, so the theory of the search holds of them.
use mathlib.Core.Path.{◌≡◌, refl}
use lib.Dec.{T}
use Rattle.base.proofs.Bool.{not_not}
use Rattle.rules.specs.Position.{unfinished}
use Rattle.rules.specs.Evaluation.{Scoring, accepted_weights, evaluate}
use Rattle.rules.proofs.Moves.{moves_are_accepted}
use Rattle.rules.proofs.Sound.{Good, play_stays_good, some_move}
use Rattle.rules.proofs.Evaluation.{value_inside, finished_within}
use Rattle.theory.proofs.PlainMinimax.{Lawful}
use Rattle.rules_game.specs.RulesGame.{game}

-- a position's value is its evaluation, by the weights given
pub valued_by_scoring : (sc : Scoring) → (game sc).value ≡ evaluate sc
valued_by_scoring sc = refl

-- with every draw winner and with accepted weights: the good positions are the proper ones that are sound while unfinished
abbrev pub rules_lawful : (sc : Scoring) → T (accepted_weights sc.weights) → Lawful (game sc)
rules_lawful sc accepted = record {
  Good = Good;
  good_play = λ p g _ m _. play_stays_good p g m;
  listed = λ p _ _ m. moves_are_accepted p m;
  some_move = λ p g t. some_move p g (not_not (unfinished p) t);
  inside = λ p _ t. value_inside sc accepted p (not_not (unfinished p) t);
  within = λ p _ t. finished_within sc p t;
}
