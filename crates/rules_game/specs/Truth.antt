-- What the endgame status says of plain minimax, with no draw winner, and with weights that are accepted.
use Rattle.std.specs.Prelude.{◌≡◌, not, ℕ, ◌≤◌, T}
use Rattle.rules.specs.declared.Player.{Player}
use Rattle.rules.specs.declared.Weights.{Weights}
use Rattle.rules.specs.Position.{Position}
use Rattle.rules.specs.Status.{allows, alone}
use Rattle.rules.specs.Endgame.{analysis}
use Rattle.rules.specs.Evaluation.{no_draw_winner}
use Rattle.rules_game.specs.RulesGame.{plain_minimax, win_for}

pub record StatusTells (weights : Weights) (p : Position) : Type 0 where
  -- a side that it leaves alone, without a draw, wins at every depth of three or more
  pub alone_wins : (w : Player) → T (alone (analysis p).status w) → (d : ℕ) → 3 ≤ d →
      plain_minimax (no_draw_winner weights) d p ≡ win_for w p
  -- a side that it leaves out wins at no depth
  pub left_out_never : (w : Player) → T (not (allows (analysis p).status w)) → (d : ℕ) →
      plain_minimax (no_draw_winner weights) d p ≡ win_for w p → ⊥
