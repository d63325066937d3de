-- The numbers are those of the game, in their order.
use mathlib.Core.Path.{ap, ◌∙◌}
use Rattle.rules.specs.Board.{state_number}
use Rattle.replay_notation.proofs.RecordsCompared.{game_compared}
use Rattle.replay_notation.proofs.add_game.Goals as goal

pub returns : goal.returns
returns c =
    let a = c.args in
    game_compared a.g _ _ _ _ c.render-text.ensures c.zobrist.ensures
    (c.from.ensures ∙ ap state_number c.game_state.ensures) c.bound_depth.ensures
    _ _ _ _ _ _ c.bytes.ensures c.number.ensures c.number-2.ensures
    c.number-3.ensures c.number-4.ensures
