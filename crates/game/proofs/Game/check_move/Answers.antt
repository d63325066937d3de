-- The checks of the rules stand in their order, and the first that fails gives the number.
use mathlib.Core.Path.{sym, ap, ◌∙◌}
use mathlib.Core.Bool.{true, false}
use native.Mathlib.Omega.{arith}
use borrow.Author.Tests.{not-true, not-false}
use Rattle.rules.specs.Board.{blank}
use Rattle.game.specs.Meaning.{position_of}
use Rattle.game.proofs.AfterRefusals.{out, finished, shut, elsewhere, looked}
use Rattle.game.proofs.Game.check_move.Goals as goal

pub returns-then-global-gt8 : goal.returns-then-global-gt8
returns-then-global-gt8 c =
    out _ _ c.global-global.result c.local-local.result c.global-global.ensures c.local-local.ensures (λ h k. omega (arith, h, k))

pub returns-then-terminal : goal.returns-then-terminal
returns-then-terminal c =
    finished (position_of c.args.self) _ _ _ c.global-global.ensures c.local-local.ensures (omega arith) (omega arith)
    (not-true _ (sym c.terminal.ensures ∙ c.if-terminal.true))

pub returns-then-not-in_play : goal.returns-then-not-in_play
returns-then-not-in_play c =
    let eleven =
    shut (position_of c.args.self) _ _ _ c.global-global.ensures c.local-local.ensures (omega arith) (omega arith)
    (not-false _ (sym c.terminal.ensures ∙ c.if-terminal.false)) (sym c.in_play.ensures ∙ c.if-not-in_play.true) in
    grind arith

pub returns-then-not-allows : goal.returns-then-not-allows
returns-then-not-allows c =
    elsewhere (position_of c.args.self) _ _ _ c.global-global.ensures c.local-local.ensures (omega arith) (omega arith)
    (not-false _ (sym c.terminal.ensures ∙ c.if-terminal.false)) (sym c.in_play.ensures ∙ c.if-not-in_play.false)
    (sym c.allows.ensures ∙ c.if-not-allows.true)

pub returns-in-Empty : goal.returns-in-Empty
returns-in-Empty c =
    looked (position_of c.args.self) _ _ _ c.global-global.ensures c.local-local.ensures (omega arith) (omega arith)
    (not-false _ (sym c.terminal.ensures ∙ c.if-terminal.false)) (sym c.in_play.ensures ∙ c.if-not-in_play.false)
    (sym c.allows.ensures ∙ c.if-not-allows.false) true (ap blank (sym c.at.ensures ∙ c.in-Empty.is))

pub returns-in-Played : goal.returns-in-Played
returns-in-Played c =
    looked (position_of c.args.self) _ _ _ c.global-global.ensures c.local-local.ensures (omega arith) (omega arith)
    (not-false _ (sym c.terminal.ensures ∙ c.if-terminal.false)) (sym c.in_play.ensures ∙ c.if-not-in_play.false)
    (sym c.allows.ensures ∙ c.if-not-allows.false) false (ap blank (sym c.at.ensures ∙ c.in-Played.is))
