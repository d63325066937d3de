-- From the empty board with the table off, a report has the words of what demand 3's function answers.
use mathlib.Core.Path.{◌≡◌, sym, ap, ◌∙◌}
use mathlib.Core.Bool.{Bool}
use mathlib.Core.List.{List, []}
use Prim.Native.Nat.{ℕ}
use Rattle.rules.specs.Position.{Position, start}
use Rattle.rules.specs.Play.{reached}
use Rattle.rules.specs.Status.{as_byte}
use Rattle.rules.specs.Endgame.{analysis}
use Rattle.theory.specs.Reported.{Reported}
use Rattle.status.specs.declared.Status.{Status}
use Rattle.game.specs.Meaning.{position_of}
use Rattle.game.specs.Built.{new_game}
use Rattle.game.specs.After.{games_after}
use Rattle.minimax.specs.declared.Minimax.{Minimax}
use Rattle.minimax.specs.declared.Config.{Config}
use Rattle.minimax.specs.Report.{scoring_of, settings_of, report_of, responses_of}
use Rattle.demands.specs.declared.AfterMoves.{AfterMoves}
use Rattle.demands.specs.Demand3.{Demand3}
use Rattle.interface.specs.Lent.{left}
use Rattle.interface.specs.Position.{game_from}
use Rattle.interface.specs.Calls.{responses_from, report_words, analyze_ok, found, Analyzes}
use Rattle.interface.specs.Settings.{config_from}
use Rattle.interface.proofs.SettingsHeld.{settings_reported}
use Rattle.interface.proofs.CallsAfterPlay.{played_reported, reached_is}
use Rattle.rules.specs.Refusal.{answer_number}
use Rattle.endgame.specs.Means.{unsound_number, analysis_status}

module _ (p ms settings answers report : List ℕ) (m : Minimax) (new : game_from p ≡ new_game)
    (rs_is : responses_of m.responses ≡ responses_from answers)
    (r : AfterMoves) (r_is : Demand3 ms m (config_from settings) r) where
  abbrev c : Config
  c = config_from settings

  abbrev here : Position
  here = position_of (games_after (game_from p) ms)

  abbrev ok : Bool
  ok = analyze_ok p ms settings answers [] report

  here_is : here ≡ reached start ms
  unfolding games_after
  here_is = reached_is p [] ms settings answers report new

  found_is : found p ms settings answers [] report ≡ report_of r.report []
  found_is =
      cc (
        settings_reported settings m (games_after (game_from p) ms) [],
        played_reported (scoring_of c) (settings_of c) ms (responses_of m.responses),
      )

  number_is : (analysis here).refusal ≡ answer_number unsound_number r.analysis
  number_is = ap (λ (q : Position). (analysis q).refusal) here_is ∙ sym r_is.refusal_is

  byte_is : as_byte (analysis here).status ≡ (analysis_status r.analysis).bits
  byte_is = ap (λ (q : Position). as_byte (analysis q).status) here_is ∙ sym (ap (λ (s : Status). s.bits) r_is.status_is)

  -- word by word
  pub analyzed_after : (answers_after words_after report_after : List ℕ) (n : ℕ)
      → Analyzes p ms settings answers [] report answers_after words_after report_after n
      → report_after ≡ left ok (report_words (report_of r.report []) (answer_number unsound_number r.analysis)
      (analysis_status r.analysis).bits) report
  analyzed_after answers_after words_after report_after n a =
      a.report_is
      ∙ ap (λ (x : Reported). left ok (report_words x (analysis here).refusal (as_byte (analysis here).status)) report) found_is
      ∙ ap (λ (k : ℕ). left ok (report_words (report_of r.report []) k (as_byte (analysis here).status)) report) number_is
      ∙ ap (λ (k : ℕ). left ok (report_words (report_of r.report []) (answer_number unsound_number r.analysis) k) report) byte_is
