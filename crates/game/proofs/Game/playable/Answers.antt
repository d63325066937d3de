-- None of a finished game; else the open boards, and of these the due one alone if there is one.
use mathlib.Core.Path.{sym, ◌∙◌}
use borrow.Author.Tests.{not-true, not-false}
use Rattle.game.specs.Meaning.{position_of}
use Rattle.game.proofs.MeaningMoves.{none_over, none_due, all_open, one_open}
use Rattle.game.proofs.Game.playable.Goals as goal

pub returns-then-game_over : goal.returns-then-game_over
returns-then-game_over c = none_over (position_of c.args.self) (not-true _ (sym c.game_over.ensures ∙ c.if-game_over.true))

pub returns-in-None : goal.returns-in-None
returns-in-None c =
    all_open (position_of c.args.self) _ (not-false _ (sym c.game_over.ensures ∙ c.if-game_over.false)) c.openbits-open.ensures
    c.in-None.is

pub returns-in-Some : goal.returns-in-Some
returns-in-Some c =
    one_open (position_of c.args.self) _ (not-false _ (sym c.game_over.ensures ∙ c.if-game_over.false)) c.openbits-open.ensures _
    c.in-Some.is c.if-due-lt9.true

pub returns-in-Some-2 : goal.returns-in-Some-2
returns-in-Some-2 c = none_due (position_of c.args.self) _ c.in-Some.is c.if-due-lt9.false
