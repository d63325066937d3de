-- `any` asks it of each board.
use mathlib.Core.Path.{refl, ◌∙◌}
use mathlib.Core.Bool.{not, ◌||◌, ◌&&◌}
use Rattle.std.proofs.Common.{rules}
use Rattle.std.proofs.lemmas.Iterator.{YieldsList-from_range}
use Rattle.std.proofs.lemmas.Iterator.Search.{any_from_yields_List}
use Rattle.base.specs.Bits.{bit}
use Rattle.base.specs.Lists.{all}
use Rattle.base.proofs.ListsAgree.{any_of_list}
use Rattle.rules.specs.Board.{nine}
use Rattle.rules.specs.Position.{free_cell}
use Rattle.game.specs.Meaning.{position_of}
use Rattle.endgame.proofs.any_sends_to.Goals as goal

pub returns : goal.returns
returns c =
    any_from_yields_List
    (λ i. bit c.args.dests i && all (λ k. not (free_cell (position_of c.args.pos) i k) || bit c.args.want k) nine) _ _ _ c.any.ensures.ran
    (YieldsList-from_range 0 9 9 refl refl) (λ x b q k. search rules) ∙ any_of_list _ _
