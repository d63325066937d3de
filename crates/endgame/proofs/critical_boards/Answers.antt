-- The boards of the masks' lines together are the critical ones.
use mathlib.Core.Path.{◌∙◌}
use lib.Bits.{bit_or}
use Rattle.std.proofs.Common.{rules}
use Rattle.std.proofs.lemmas.Iterator.{YieldsList-from_slice}
use Rattle.std.proofs.lemmas.Iterator.Consumers.{fold_from_yields_List}
use Rattle.base.specs.Bits.{digits}
use Rattle.rules.proofs.Sound.{sound→}
use Rattle.lines.specs.Masks.{masks}
use Rattle.game.specs.Meaning.{position_of}
use Rattle.endgame.specs.Parts.{critical_by}
use Rattle.endgame.proofs.PartsCritical.{all_masks}
use Rattle.endgame.proofs.critical_boards.Goals as goal

pub returns : goal.returns
returns c =
    fold_from_yields_List _ (λ out m. bit_or out (digits (critical_by (position_of c.args.pos) c.args.who m) 9)) 0 _ c.fold.ensures.ran
    (YieldsList-from_slice masks cc) (λ a x b q k. search rules)
    ∙ all_masks (position_of c.args.pos) (sound→ (position_of c.args.pos) c.requires) c.args.who
