-- Demand 3 of a report with the table off: its list is what was tried by calls of ultimattt_play since the empty board, then the report's
-- own moves.
use Rattle.std.specs.Prelude.{Option, None, Some}
use mathlib.Core.Path.{◌≡◌, sym, ap, ◌∙◌, subst}
use mathlib.Core.List.{List, [], ◌++◌}
use Prim.Native.Nat.{ℕ}
use native.Mathlib.Omega.{arith}
use lib.Dec.{T, ltb→lt}
use lib.ListN.{get_or}
use Rattle.rules.specs.declared.Player.{Player}
use Rattle.rules.specs.Position.{Position, start, unfinished}
use Rattle.rules.specs.Play.{reached}
use Rattle.rules.specs.Endgame.{Analysis as Ends, analysis}
use Rattle.rules.specs.Evaluation.{Scoring, scoring_with}
use Rattle.rules.proofs.Sound.{good_is_sound, start_is_good, reached_good}
use Rattle.rules.proofs.Endgame.{analysis_sound}
use Rattle.theory.specs.Memory.{Responses}
use Rattle.theory.specs.Reported.{Settings, Reported, reported}
use Rattle.rules_game.specs.RulesGame.{game}
use Rattle.game.specs.declared.Game.{Game}
use Rattle.game.specs.Meaning.{position_of}
use Rattle.game.specs.Built.{new_game}
use Rattle.game.specs.After.{games_after}
use Rattle.game.specs.Neat.{neat_next}
use Rattle.game.proofs.Neat.{neat→}
use Rattle.game.proofs.AfterList.{games_joined, new_played_neat, new_played_means, new_played_hash}
use Rattle.minimax.specs.Structs.{structs}
use Rattle.minimax.proofs.Structs.{reported_rules}
use Rattle.demands.specs.Claims.{NotStopped, MarkSays, ReportsMinimax, StatusHolds}
use Rattle.demands.proofs.Claims.{reported_marks, reported_right, reported_holds}
use Rattle.interface.specs.Position.{words_of, game_from}
use Rattle.interface.specs.Settings.{draws_from, settings_from, scoring_from}
use Rattle.interface.specs.Calls.{responses_from, found}
use Rattle.interface.proofs.PositionWords.{Byte, slice_comes_back}

-- a search of the game after moves on the empty board is the rules' of the position that they reach
pub played_reported : (sc : Scoring) (c : Settings) (ns : List ℕ) (rs : Responses) →
    reported (structs sc) c (games_after new_game ns) rs [] ≡ reported (game sc) c (reached start ns) rs []
played_reported sc c ns rs =
    reported_rules sc c (games_after new_game ns) (new_played_neat ns) (new_played_hash ns) rs []
    ∙ ap (λ (k : Position). reported (game sc) c k rs []) (new_played_means ns)

module _ (p ns ms settings answers report : List ℕ) (from : game_from p ≡ games_after new_game ns) where
  abbrev q : Position
  q = reached start (ns ++ ms)

  abbrev draws : Option Player
  draws = draws_from (get_or settings 2 0)

  abbrev c : Settings
  c = settings_from settings

  abbrev rs : Responses
  rs = responses_from answers

  abbrev x : Reported
  x = found p ms settings answers [] report

  game_is : games_after (game_from p) ms ≡ games_after new_game (ns ++ ms)
  game_is = ap (λ (g : Game). games_after g ms) from ∙ games_joined new_game ns ms

  pub reached_is : position_of (games_after (game_from p) ms) ≡ q
  reached_is = ap position_of game_is ∙ new_played_means (ns ++ ms)

  reported_is : x ≡ reported (game (scoring_from settings)) c q rs []
  reported_is =
      ap (λ (g : Game). reported (structs (scoring_from settings)) c g rs []) game_is
      ∙ played_reported (scoring_from settings) c (ns ++ ms) rs

  module _ (t : T (unfinished q)) where
    pub found_answered : (analysis (position_of (games_after (game_from p) ms))).refusal ≡ 0
    found_answered =
        ap (λ (k : Position). (analysis k).refusal) reached_is
        ∙ ap (λ (y : Ends). y.refusal) (analysis_sound q t (good_is_sound q (reached_good start start_is_good (ns ++ ms)) t)).2

    pub found_marks : MarkSays draws c rs q x
    found_marks = subst (MarkSays draws c rs q) (sym reported_is) (reported_marks (ns ++ ms) t draws c rs)

    pub found_right : NotStopped draws c rs q → ReportsMinimax draws c rs q x
    found_right n = subst (ReportsMinimax draws c rs q) (sym reported_is) (reported_right (ns ++ ms) t draws c rs n)

    pub found_holds : get_or settings 2 0 ≡ 0 → StatusHolds c rs q x (analysis q).status
    found_holds e = subst (λ (y : Reported). StatusHolds c rs q y (analysis q).status)
        (sym (reported_is ∙ ap (λ (d : ℕ). reported (game (scoring_with (draws_from d) c.weights)) c q rs []) e))
        (reported_holds (ns ++ ms) t c rs)

-- ---- the words that calls since the empty board have left are such a position
next_is_byte : (n : Option ℕ) → T (neat_next n) → Byte n
next_is_byte None t = tt
next_is_byte (Some b) t = let h = ltb→lt b 9 t in omega (arith, h)

pub played_comes_back : (ns rest : List ℕ) → game_from (words_of (games_after new_game ns) ++ rest) ≡ games_after new_game ns
played_comes_back ns rest = let n = neat→ (games_after new_game ns) (new_played_neat ns) in
    slice_comes_back (games_after new_game ns) rest n.three (next_is_byte (games_after new_game ns).next_board n.next)
