-- Each field is what the position after the move has, as it is read off the new boards and states.
use mathlib.Core.Path.{◌≡◌, ◌∙◌}
use lib.ListN.{length}
use Rattle.game.proofs.Meaning.{play_makes, next_due}
use native.Mathlib.Omega.{arith}
use Rattle.game.proofs.Game.play.Goals as goal

pub returns : goal.returns
returns c =
    let g = c.args.self in
    let h = c.requires in
    let n : length g.local_boards.rows ≡ 3 = omega arith in
    play_makes g c.args.global c.args.local n h.0 h.1 h.2 h.3 _ _ _ _ _ _ _ _
    c.other.ensures (c.then_some-next_board.ensures ∙ next_due _ _ _ c.in_play.ensures)
    c.set-local_boards.ensures c.check_winner-state.ensures c.set-global_states.ensures c.check_winner-game_state.ensures
    c.for_square.ensures c.hash_after-hash.ensures
