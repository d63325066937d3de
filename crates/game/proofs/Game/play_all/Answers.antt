-- The moves are folded into the game, each as it is tried.
use mathlib.Core.Path.{◌∙◌}
use Rattle.std.proofs.Common.{rules}
use Rattle.std.proofs.lemmas.Iterator.{YieldsList-from_slice}
use Rattle.std.proofs.lemmas.Iterator.Consumers.{fold_from_yields_List}
use Rattle.game.specs.After.{game_after}
use Rattle.game.proofs.AfterList.{left_as_tried, games_folded}
use Rattle.game.proofs.Game.play_all.Goals as goal

pub returns : goal.returns
returns c =
    fold_from_yields_List _ game_after c.args.self _ c.fold.ensures.ran
    (YieldsList-from_slice c.args.moves.now cc) (λ a x b q k. search (rules, left_as_tried))
    ∙ games_folded c.args.self c.args.moves.now
