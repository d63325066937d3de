-- The kind, and the play.
use mathlib.Core.List.{[], ◌∷◌}
use Rattle.game.specs.Built.{new_game}
use Rattle.replay_game.proofs.Records.{whole_play}
use Rattle.replay_game.proofs.play_from_start.Goals as goal

pub returns : goal.returns
returns c =
    whole_play c.args.words.now (1 ∷ []) _ new_game c.new-2.result 1 _
    (rw c.new.ensures at c.number.ensures) c.new-2.ensures c.play.ensures
