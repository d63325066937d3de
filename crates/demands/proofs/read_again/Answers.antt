-- What is rendered reads as the game.
use mathlib.Core.Path.{ap, ◌∙◌}
use Rattle.game.specs.declared.Game.{Game}
use Rattle.game.specs.After.{games_after}
use Rattle.demands.proofs.Demand2.{reads_again}
use Rattle.demands.proofs.read_again.Goals as goal

pub returns : goal.returns
returns c =
    let ms = c.args.moves.now in
    let g_is = c.play_all-game.ensures ∙ ap (λ (g : Game). games_after g ms) c.new.ensures in
    reads_again ms c.play_all-game.result c.render-text.result c.parse.result g_is c.render-text.ensures c.parse.ensures
