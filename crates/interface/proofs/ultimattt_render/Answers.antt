-- The text of the words' game.
use mathlib.Core.Path.{sym, ◌∙◌}
use Rattle.interface.proofs.Calls.{renders_none, renders_short, renders_well}
use Rattle.interface.proofs.ultimattt_render.Goals as goal

pub returns-then-not-is_position : goal.returns-then-not-is_position
returns-then-not-is_position c =
    renders_none c.args.position.now c.args.out.now
    (sym c.is_position.ensures ∙ c.if-not-is_position.true)

pub returns-then-out-lt101 : goal.returns-then-out-lt101
returns-then-out-lt101 c =
    renders_short c.args.position.now
    c.args.out.now (sym c.is_position.ensures
    ∙ c.if-not-is_position.false) c.if-out-lt101.true

pub returns : goal.returns
returns c =
    let s = c.args in
    renders_well s.position.now s.out.now _ _ _ (sym c.is_position.ensures ∙ c.if-not-is_position.false)
    c.if-out-lt101.false c.game_from.ensures
    c.render.ensures c.put.ensures
