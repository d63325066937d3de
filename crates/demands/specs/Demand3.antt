-- Demand 3: moves are tried one after the other, beginning on the empty board; one that is refused changes nothing.
use Rattle.std.specs.Prelude.{◌≡◌, List, [], ℕ, T, None}
use Rattle.rules.specs.Position.{Position, start, unfinished}
use Rattle.rules.specs.Play.{reached}
use Rattle.rules.specs.Sound.{sound}
use Rattle.rules.specs.Hash.{with_turn, zobrist}
use Rattle.rules.specs.Endgame.{analysis}
use Rattle.theory.specs.Memory.{Responses}
use Rattle.theory.specs.Reported.{reported}
use Rattle.rules_game.specs.RulesGame.{game}
use Rattle.game.specs.Meaning.{position_of}
use Rattle.game.specs.Built.{new_game}
use Rattle.game.specs.After.{games_after}
use Rattle.status.specs.Sets.{status_of}
use Rattle.minimax.specs.declared.Minimax.{Minimax}
use Rattle.minimax.specs.declared.Config.{Config}
use Rattle.minimax.specs.Report.{scoring_of, settings_of, report_of, responses_of}
use Rattle.demands.specs.declared.AfterMoves.{AfterMoves}
use Rattle.demands.specs.Claims.{NotStopped, MarkSays, ReportsMinimax, StatusHolds}
use Rattle.rules.specs.Refusal.{answer_number}
use Rattle.endgame.specs.Means.{unsound_number, analysis_status, analysis_stats}

module _ (ms : List ℕ) (m : Minimax) (c : Config) (r : AfterMoves) where
  -- where the list leads by the rules alone
  abbrev pub p : Position
  p = reached start ms

  abbrev pub rs : Responses
  rs = responses_of m.responses

  pub record Demand3 : Type 0 where
    -- the game, the endgame analysis and the search, each by its definition at that position
    pub game_is : r.game ≡ games_after new_game ms
    pub position_is : position_of r.game ≡ p
    pub key_is : with_turn (position_of r.game) r.game.hash ≡ zobrist p
    pub refusal_is : answer_number unsound_number r.analysis ≡ (analysis p).refusal
    pub status_is : analysis_status r.analysis ≡ status_of (analysis p).status
    pub counts_are : analysis_stats r.analysis ≡ (analysis p).stats
    pub report_is : report_of r.report [] ≡ reported (game (scoring_of c)) (settings_of c) p rs []
    -- and, where the game is unfinished, the claims: the position is sound, and the endgame question is answered
    pub sound_is : T (unfinished p) → T (sound p)
    pub answered : T (unfinished p) → answer_number unsound_number r.analysis ≡ 0
    pub mark_says : T (unfinished p) → MarkSays c.draw_winner (settings_of c) rs p (report_of r.report [])
    pub right : T (unfinished p) → NotStopped c.draw_winner (settings_of c) rs p
        → ReportsMinimax c.draw_winner (settings_of c) rs p (report_of r.report [])
    pub status_holds : T (unfinished p) → c.draw_winner ≡ None
        → StatusHolds (settings_of c) rs p (report_of r.report []) (analysis p).status
