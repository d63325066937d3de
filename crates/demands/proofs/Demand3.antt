-- After every list of tried moves the game means the position that the rules reach, with its fresh hash, so each answer is the rules' own
-- there.
use Rattle.std.specs.Prelude.{Option, Result}
use mathlib.Core.Path.{◌≡◌, refl, sym, ap, ◌∙◌, subst}
use mathlib.Core.List.{List, [], ◌∷◌}
use Prim.Native.Nat.{ℕ}
use native.Mathlib.Omega.{arith}
use lib.Dec.{T}
use lib.ListN.{length}
use Rattle.rules.specs.declared.Player.{Player}
use Rattle.rules.specs.Position.{Position, start}
use Rattle.rules.specs.Play.{reached}
use Rattle.rules.specs.Hash.{zobrist}
use Rattle.rules.specs.Endgame.{Analysis as Found, analysis}
use Rattle.rules.specs.Evaluation.{scoring_with}
use Rattle.rules.proofs.Sound.{good_is_sound, start_is_good, reached_good}
use Rattle.rules.proofs.Endgame.{analysis_sound}
use Rattle.theory.specs.Memory.{Responses}
use Rattle.theory.specs.Reported.{Reported, reported}
use Rattle.rules_game.specs.RulesGame.{game}
use Rattle.game.specs.declared.Game.{Game}
use Rattle.game.specs.Meaning.{position_of}
use Rattle.game.specs.Built.{new_game}
use Rattle.game.specs.After.{games_after}
use Rattle.game.specs.Neat.{neat}
use Rattle.game.proofs.AfterHash.{Fresh, zobrist_fresh}
use Rattle.game.proofs.AfterList.{new_played_neat, new_played_means, new_played_hash}
use Rattle.status.specs.Sets.{status_of}
use Rattle.endgame.specs.declared.Analysis.{Analysis}
use Rattle.endgame.specs.Means.{Analyses}
use Rattle.minimax.specs.declared.Minimax.{Minimax}
use Rattle.minimax.specs.declared.Config.{Config}
use Rattle.minimax.specs.declared.Report.{Report}
use Rattle.minimax.specs.Report.{scoring_of, settings_of, report_of, reported_of, responses_of}
use Rattle.minimax.proofs.Structs.{reported_rules}
use Rattle.demands.specs.Claims.{MarkSays, ReportsMinimax, StatusHolds}
use Rattle.demands.specs.Demand3.{Demand3}
use Rattle.demands.proofs.Claims.{reported_marks, reported_right, reported_holds}
use Rattle.endgame.specs.declared.Unsound.{Unsound}

pub none_long : (words : List ℕ) → length words ≡ 0 → words ≡ []
none_long [] e = refl
none_long (w ∷ words) e = absurd (omega arith)

module _ (ms : List ℕ) (m : Minimax) (c : Config) (g : Game) (a : Result Analysis Unsound) (rep : Report)
    (g_is : g ≡ games_after new_game ms) (a_is : Analyses g a) (rep_is : report_of rep [] ≡ reported_of m g c []) where
  abbrev rs : Responses
  rs = responses_of m.responses

  abbrev p : Position
  p = reached start ms

  means : position_of g ≡ p
  means = ap position_of g_is ∙ new_played_means ms

  fresh : Fresh g
  fresh = subst Fresh (sym g_is) (new_played_hash ms)

  is_neat : T (neat g)
  is_neat = subst (λ (x : Game). T (neat x)) (sym g_is) (new_played_neat ms)

  report_is : report_of rep [] ≡ reported (game (scoring_of c)) (settings_of c) p rs []
  report_is =
      rep_is ∙ reported_rules (scoring_of c) (settings_of c) g is_neat fresh rs []
      ∙ ap (λ (q : Position). reported (game (scoring_of c)) (settings_of c) q rs []) means

  pub demand_3 : Demand3 ms m c (record { game = g; analysis = a; report = rep })
  demand_3 = record {
    game_is = g_is;
    position_is = means;
    key_is = zobrist_fresh g fresh ∙ ap zobrist means;
    refusal_is = a_is.refusal ∙ ap (λ (q : Position). (analysis q).refusal) means;
    status_is = a_is.status ∙ ap (λ (q : Position). status_of (analysis q).status) means;
    counts_are = a_is.stats ∙ ap (λ (q : Position). (analysis q).stats) means;
    report_is = report_is;
    sound_is = λ t. good_is_sound p (reached_good start start_is_good ms) t;
    answered =
        λ t. a_is.refusal ∙ ap (λ (q : Position). (analysis q).refusal) means
        ∙ ap (λ (y : Found). y.refusal) (analysis_sound p t (good_is_sound p (reached_good start start_is_good ms) t)).2;
    mark_says =
        λ t. subst (MarkSays c.draw_winner (settings_of c) rs p) (sym report_is)
        (reported_marks ms t c.draw_winner (settings_of c) rs);
    right =
        λ t n. subst (ReportsMinimax c.draw_winner (settings_of c) rs p) (sym report_is)
        (reported_right ms t c.draw_winner (settings_of c) rs n);
    status_holds =
        λ t e. subst (λ (x : Reported). StatusHolds (settings_of c) rs p x (analysis p).status)
        (sym (report_is ∙ ap (λ (w : Option Player). reported (game (scoring_with w c.weights)) (settings_of c) p rs []) e))
        (reported_holds ms t (settings_of c) rs);
  }
