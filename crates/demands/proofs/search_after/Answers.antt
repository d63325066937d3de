-- The game is the list's, and the analysis and the search are those of the game.
use mathlib.Core.Path.{◌≡◌, ap, ◌∙◌, subst}
use mathlib.Core.List.{List, []}
use Prim.Native.Nat.{ℕ}
use Rattle.game.specs.declared.Game.{Game}
use Rattle.game.specs.After.{games_after}
use Rattle.minimax.specs.Report.{report_of, reported_of}
use Rattle.demands.proofs.Demand3.{none_long, demand_3}
use Rattle.demands.proofs.search_after.Goals as goal

pub returns : goal.returns
returns c =
    let g = c.play_all-game.result in
    let r = c.analyze-report.result in
    let none = none_long c.analyze-report.new.words c.analyze-report.auto.words in
    let g_is = c.play_all-game.ensures ∙ ap (λ (k : Game). games_after k c.args.moves.now) c.new.ensures in
    let whole = subst (λ (ws : List ℕ). report_of r ws ≡ reported_of c.args.memory g c.args.config []) none
    c.analyze-report.ensures in
    demand_3 c.args.moves.now c.args.memory c.args.config g _ r g_is c.new-analysis.ensures whole
