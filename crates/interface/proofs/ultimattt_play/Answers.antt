-- Each move in turn, and the words of the game that they lead to.
use mathlib.Core.Path.{sym, ◌∙◌}
use denote.Floats.{passes}
use Rattle.interface.specs.Position.{most}
use Rattle.interface.proofs.PositionWords.{within_long}
use Rattle.interface.proofs.Calls.{plays_none, plays_short, plays_well}
use Rattle.interface.proofs.ultimattt_play.Goals as goal

pub returns-then-not-is_position : goal.returns-then-not-is_position
returns-then-not-is_position c =
    let s = c.args in
    plays_none s.position.now s.moves.now s.answers.now (sym c.is_position.ensures ∙ c.if-not-is_position.true)

pub returns-then-answers-moves : goal.returns-then-answers-moves
returns-then-answers-moves c =
    let s = c.args in
    plays_short s.position.now s.moves.now s.answers.now (sym c.is_position.ensures
    ∙ c.if-not-is_position.false) c.if-answers-moves.true

pub put-requires : goal.put-requires
put-requires c =
    within_long most c.args.position.now
    (passes _ (sym c.is_position.ensures ∙ c.if-not-is_position.false))

pub returns : goal.returns
returns c =
    let s = c.args in
    let is = (sym c.is_position.ensures ∙ c.if-not-is_position.false) in
    plays_well s.position.now s.moves.now s.answers.now _ _ _ _ is c.if-answers-moves.false
    (within_long most s.position.now (passes _ is))
    c.game_from.ensures c.play-game.ensures.0 c.play-game.ensures.1 c.put.ensures
