-- Each refusal in turn, or what the search and the analysis give.
use mathlib.Core.Path.{sym, ap, ◌∙◌}
use Rattle.game.specs.declared.Game.{Game}
use Rattle.game.specs.After.{games_after}
use Rattle.interface.proofs.Calls.{analyzes_none, analyzes_few_settings, analyzes_no_draws, analyzes_few_answers}
use Rattle.interface.proofs.Calls.{analyzes_no_report, analyzes_well}
use Rattle.interface.proofs.ultimattt_analyze.Goals as goal

pub returns-then-not-is_position : goal.returns-then-not-is_position
returns-then-not-is_position c =
    let s = c.args in
    analyzes_none s.position.now s.moves.now s.settings.now s.responses.now s.words.now s.report.now
    (sym c.is_position.ensures ∙ c.if-not-is_position.true)

pub returns-then-settings-lt6 : goal.returns-then-settings-lt6
returns-then-settings-lt6 c =
    let s = c.args in
    analyzes_few_settings s.position.now s.moves.now s.settings.now s.responses.now s.words.now s.report.now
    (sym c.is_position.ensures ∙ c.if-not-is_position.false) c.if-settings-lt6.true

pub returns-then-settings-gt2 : goal.returns-then-settings-gt2
returns-then-settings-gt2 c =
    let s = c.args in
    analyzes_no_draws s.position.now s.moves.now s.settings.now s.responses.now s.words.now s.report.now
    (sym c.is_position.ensures ∙ c.if-not-is_position.false) c.if-settings-lt6.false c.if-settings-gt2.true

pub returns-then-responses-lt512 : goal.returns-then-responses-lt512
returns-then-responses-lt512 c =
    let s = c.args in
    analyzes_few_answers s.position.now s.moves.now s.settings.now s.responses.now s.words.now s.report.now
    (sym c.is_position.ensures ∙ c.if-not-is_position.false) c.if-settings-lt6.false c.if-settings-gt2.false c.if-responses-lt512.true

pub returns-then-report-lt655 : goal.returns-then-report-lt655
returns-then-report-lt655 c =
    let s = c.args in
    analyzes_no_report s.position.now s.moves.now s.settings.now s.responses.now s.words.now s.report.now
    (sym c.is_position.ensures ∙ c.if-not-is_position.false) c.if-settings-lt6.false c.if-settings-gt2.false c.if-responses-lt512.false
    c.if-report-lt655.true

pub returns : goal.returns
returns c =
    let s = c.args in
    analyzes_well s.position.now s.moves.now s.settings.now s.responses.now s.words.now s.report.now
    (sym c.is_position.ensures ∙ c.if-not-is_position.false) c.if-settings-lt6.false c.if-settings-gt2.false c.if-responses-lt512.false
    c.if-report-lt655.false
    c.play_all-game.result (c.play_all-game.ensures ∙ ap (λ (g : Game). games_after g s.moves.now) c.game_from.ensures)
    c.config_from-config.result c.config_from-config.ensures c.memory.result c.memory.ensures
    c.analyze-found.result c.analyze-found.new.words c.analyze-found.ensures
    c.new.result c.new.ensures _ _ _ c.put_memory.ensures c.put.ensures c.number.ensures
