-- What a search says of a game from the empty board, table off: it is plain minimax to the last completed depth, so what holds of that
-- holds of it.
use Rattle.std.specs.Prelude.{Option, None}
use mathlib.Core.Path.{◌≡◌, refl, sym, ap, ◌∙◌, subst}
use mathlib.Core.Bool.{not}
use mathlib.Core.List.{List}
use mathlib.Core.Logic.{inl, inr}
use Prim.Native.Nat.{ℕ, zero, suc, ◌≤◌, ◌<◌}
use native.Mathlib.Omega.{arith}
use lib.Dec.{T, T_not}
use lib.IntN.{pos}
use Rattle.base.proofs.Bool.{is}
use Rattle.base.proofs.Integers.{hi, lo, zarith}
use Rattle.rules.specs.declared.Player.{Player}
use Rattle.rules.specs.declared.Player.TheVariants.{X, O}
use Rattle.rules.specs.declared.Weights.{Weights}
use Rattle.rules.specs.Position.{Position, start, unfinished}
use Rattle.rules.specs.Play.{reached}
use Rattle.rules.specs.Status.{allows, alone}
use Rattle.rules.specs.Evaluation.{accepted_weights, Scoring, scoring_with, no_draw_winner, won, seen_by}
use Rattle.rules.specs.Endgame.{analysis}
use Rattle.rules.proofs.Sound.{Good, start_is_good, reached_good}
use Rattle.theory.specs.Table.{off}
use Rattle.theory.specs.Memory.{Memory}
use Rattle.theory.specs.OrderedSearch.{Allowance, unlimited, at_most}
use Rattle.theory.specs.Deepening.{Completed, SearchAnswer, deepen, analyze}
use Rattle.theory.specs.Variation.{AttainsMinimax}
use Rattle.theory.specs.Allowance.{LimitedBeside}
use Rattle.theory.proofs.Allowance.{allowance_limits, mark_means_spent, stopped_right}
use Rattle.theory.proofs.Deepening.{analyze_right}
use Rattle.rules_game.specs.RulesGame.{game, win_for}
use Rattle.rules_game.specs.Truth.{StatusTells}
use Rattle.rules_game.specs.Answers.{entries, AnswersWhole, AnswersSpent}
use Rattle.rules_game.proofs.RulesGame.{rules_lawful}
use Rattle.rules_game.proofs.TruthWins.{not_over}
use Rattle.rules_game.proofs.Truth.{good_status_tells}

-- a win is not nothing
pub not_nothing : (v w : Player) → pos 0 ≡ seen_by v (seen_by w won) → ⊥
unfolding hi lo
not_nothing X X e = omega zarith
not_nothing X O e = omega zarith
not_nothing O X e = omega zarith
not_nothing O O e = omega zarith

-- for accepted weights, every list of tried moves, refused ones too, that leaves the game unfinished, and response tables of any kind
module _ (weights : Weights) (accepted : T (accepted_weights weights)) (ms : List ℕ) (t : T (unfinished (reached start ms)))
    (s : Memory) (table_off : T (off s.table)) (from_none : s.count ≡ 0) (k : ℕ) where
  abbrev p : Position
  p = reached start ms

  g : Good p
  g = reached_good start start_is_good ms

  module _ (draws : Option Player) (n : ℕ) where
    abbrev sc : Scoring
    sc = scoring_with draws weights

    limited : LimitedBeside (game sc) n (suc k) p s
    limited = allowance_limits (game sc) n (suc k) p s (omega arith)

    -- if the allowance suffices, the answer is right for the limit
    pub unstopped_right : entries sc (suc k) p s ≤ n → AnswersWhole sc k p (analyze (game sc) (at_most n) (suc k) p s)
    unstopped_right h = record { unmarked = unmarked; right = r; first_attains = r.first (not_over p t) }
      where
        unmarked : T (not (analyze (game sc) (at_most n) (suc k) p s).is_stopped)
        unmarked = subst (λ (x : SearchAnswer). T (not x.is_stopped)) (sym (limited.enough h)) limited.unlimited_whole

        r : AttainsMinimax (game sc) k p (analyze (game sc) (at_most n) (suc k) p s).completed
        r = analyze_right (game sc) (rules_lawful sc accepted) (at_most n) k p g s table_off unmarked

    -- else the search is stopped, and its answer is right for the last completed depth
    pub stopped_right_too : n < entries sc (suc k) p s → AnswersSpent sc n k p s (analyze (game sc) (at_most n) (suc k) p s)
    unfolding analyze deepen
    stopped_right_too h = let z = limited.spent h in record {
      marked = z.marked;
      counted = z.counted;
      shallower = omega (arith, z.shallower);
      fits = z.fits;
      next_too_many = z.next_too_many;
      right_so_far = stopped_right (game sc) (rules_lawful sc accepted) n (suc k) p g s table_off (omega arith) z.marked;
      nothing_so_far = λ e. z.whole_is ∙ ap (λ (d : ℕ). (analyze (game sc) unlimited d p s).completed) e;
    }

  -- ---- with no draw winner, what the endgame status says
  abbrev nobody : Scoring
  nobody = no_draw_winner weights

  tells : StatusTells weights p
  tells = good_status_tells weights accepted p g t

  -- a side that it leaves alone, without a draw: every search that is not stopped, to a limit of three or more, scores that side's win
  pub alone_scores : (n : ℕ) → entries nobody (suc k) p s ≤ n → 2 ≤ k → (w : Player) → T (alone (analysis p).status w) →
      (analyze (game nobody) (at_most n) (suc k) p s).completed.score ≡ win_for w p
  alone_scores n h two w a = (unstopped_right None n h).right.score_is ∙ tells.alone_wins w a (suc k) (omega arith)

  module _ (w : Player) (out : T (not (allows (analysis p).status w))) where
    never_right : (j : ℕ) (x : Completed) → AttainsMinimax (game nobody) j p x → x.score ≡ win_for w p → ⊥
    never_right j x r e = tells.left_out_never w out (suc j) (sym r.score_is ∙ e)

    stopped_never : (a : Allowance) → T (analyze (game nobody) a (suc k) p s).is_stopped →
        (analyze (game nobody) a (suc k) p s).completed.score ≡ win_for w p → ⊥
    stopped_never unlimited u e = T_not (analyze (game nobody) unlimited (suc k) p s).is_stopped (limited None 0).unlimited_whole u
    stopped_never (at_most n) u e = by_depth x.completed.depth refl
      where
        x : SearchAnswer
        x = analyze (game nobody) (at_most n) (suc k) p s

        z : AnswersSpent nobody n k p s x
        z = stopped_right_too None n (mark_means_spent (game nobody) n (suc k) p s (omega arith) u)

        by_depth : (d : ℕ) → x.completed.depth ≡ d → ⊥
        by_depth zero h = not_nothing p.turn w (sym (ap (λ (y : Completed). y.score) (z.nothing_so_far h)) ∙ e)
        by_depth (suc j) h = never_right j x.completed (z.right_so_far j h) e

    -- a side that it leaves out: no search, stopped or not, scores that side's win
    pub left_out_never_scores : (a : Allowance) → (analyze (game nobody) a (suc k) p s).completed.score ≡ win_for w p → ⊥
    left_out_never_scores a e = elim (is (analyze (game nobody) a (suc k) p s).is_stopped) [
      | inl u ↦ stopped_never a u e
      | inr u ↦ never_right k _ (analyze_right (game nobody) (rules_lawful nobody accepted) a k p g s table_off u) e
    ]
