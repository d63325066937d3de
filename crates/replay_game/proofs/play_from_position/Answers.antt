-- The kind, the position, and the play.
use mathlib.Core.Path.{ap, ◌∙◌}
use mathlib.Core.List.{List, ◌∷◌}
use Prim.Native.Nat.{ℕ}
use Rattle.std.specs.Prelude.{Option}
use Rattle.replay.specs.Agreement.{left_of, compared_all}
use Rattle.replay_game.specs.Records.{game_in, position_numbers}
use Rattle.replay_game.proofs.Records.{whole_play}
use Rattle.replay_game.proofs.play_from_position.Goals as goal

pub returns : goal.returns
returns c =
    let ns = c.args.words.now in
    let start = c.game_in-start in
    whole_play ns (2 ∷ position_numbers (game_in ns 1)) (left_of c.position.result) (game_in ns 1) start.result 12 _
    (rw (← start.ensures) (c.position.ensures
    ∙ ap (λ (q : Option (List ℕ)). compared_all q (position_numbers start.result)) (rw c.new.ensures at c.number-kind.ensures)))
    start.ensures c.play.ensures
