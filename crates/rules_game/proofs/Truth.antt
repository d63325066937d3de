-- The endgame status is true of plain minimax with no draw winner and accepted weights, at every sound proper unfinished position.
use mathlib.Core.Path.{◌≡◌, sym, ap, ◌∙◌, subst}
use mathlib.Core.Bool.{not}
use mathlib.Core.Logic.{inl, inr}
use Prim.Native.Nat.{ℕ, ◌-◌, ◌≤◌}
use native.Mathlib.Omega.{arith}
use lib.Dec.{T}
use Rattle.rules.specs.declared.Player.{Player}
use Rattle.rules.specs.declared.Weights.{Weights}
use Rattle.rules.specs.Board.{other}
use Rattle.rules.specs.Position.{Position, unfinished}
use Rattle.rules.specs.Sound.{sound, proper}
use Rattle.rules.specs.Status.{Status, allows, alone}
use Rattle.rules.specs.Endgame.{endgame_stats, Analysis, analysis}
use Rattle.rules.specs.Evaluation.{accepted_weights, Scoring, no_draw_winner}
use Rattle.rules.proofs.Board.{other_other, side, open_not_won}
use Rattle.rules.proofs.Sound.{Good, good, good_is_sound}
use Rattle.rules.proofs.Endgame.{Decided, StatusSays, analysis_sound}
use Rattle.theory.proofs.PlainMinimax.{Lawful, stays_won_to, stays_lost_to, not_both}
use Rattle.rules_game.specs.RulesGame.{game, plain_minimax, win_for}
use Rattle.rules_game.specs.Truth.{StatusTells}
use Rattle.rules_game.proofs.RulesGame.{rules_lawful}
use Rattle.rules_game.proofs.TruthWins.{own_win, other_win, forced_loses, attacker_wins, never_wins}

module _ (weights : Weights) (accepted : T (accepted_weights weights)) where
  abbrev sc : Scoring
  sc = no_draw_winner weights

  abbrev lawful : Lawful (game sc)
  lawful = rules_lawful sc accepted

  module _ (p : Position) (g : Good p) (t : T (unfinished p)) where
    -- a side that is proved to win wins
    decided_wins : (w : Player) → Decided p w → (d : ℕ) → 3 ≤ d → plain_minimax sc d p ≡ win_for w p
    decided_wins w (inl r) d h =
        stays_won_to (game sc) lawful (d - 3) 3 d p g (omega arith) (attacker_wins weights accepted p g t r.0)
        ∙ sym (ap (λ (v : Player). win_for v p) r.1 ∙ own_win p.turn)
    decided_wins w (inr r) d h =
        stays_lost_to (game sc) lawful (d - 2) 2 d p g (omega arith) (forced_loses weights accepted p g t r.0 r.1)
        ∙ sym (ap (λ (v : Player). win_for v p) r.2 ∙ other_win p.turn)

    -- not both sides win
    not_the_other : (w : Player) (d : ℕ) → plain_minimax sc 3 p ≡ win_for (other w) p → plain_minimax sc d p ≡ win_for w p → ⊥
    not_the_other w d =
        side (λ v. plain_minimax sc 3 p ≡ win_for (other v) p → plain_minimax sc d p ≡ win_for v p → ⊥) p.turn
        (λ e f. not_both (game sc) lawful d 3 p g (f ∙ own_win p.turn) (e ∙ other_win p.turn))
        (λ e f. not_both (game sc) lawful 3 d p g
        (e ∙ ap (λ (v : Player). win_for v p) (other_other p.turn) ∙ own_win p.turn) (f ∙ other_win p.turn)) w

    -- a good unfinished position
    pub good_status_tells : StatusTells weights p
    good_status_tells = record {
      alone_wins = λ w a. decided_wins w (s.1.alone_is_decided w (subst (λ (x : Status). T (alone x w)) is a));
      left_out_never = λ w n d e. elim (s.1.left_out w (subst (λ (x : Status). T (not (allows x w))) is n)) [
        | inl u ↦ never_wins weights accepted d w p g (record { gone = u; not_yet = open_not_won w p.state t }) e
        | inr u ↦ not_the_other w d (decided_wins (other w) u 3 (omega arith)) e
      ];
    }
      where
        s : (x : Status) × StatusSays p x × (analysis p ≡ record { refusal = 0; status = x; stats = endgame_stats p })
        s = analysis_sound p t (good_is_sound p g t)

        is : (analysis p).status ≡ s.0
        is = ap (λ (a : Analysis). a.status) s.2

  -- a side that the status leaves alone wins at every depth of three or more, and one that it leaves out at none
  pub status_tells : (p : Position) → T (unfinished p) → T (sound p) → T (proper p) → StatusTells weights p
  status_tells p t s q = good_status_tells p (good p q (λ _. s)) t
