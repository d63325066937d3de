-- `any` asks of each mask whether the bits cover it.
use mathlib.Core.Path.{◌∙◌}
use Rattle.std.proofs.Common.{rules, tests}
use Rattle.std.proofs.lemmas.Iterator.{YieldsList-from_slice}
use Rattle.std.proofs.lemmas.Iterator.Search.{any_from_yields_List}
use Rattle.lines.specs.Masks.{masks}
use Rattle.lines.proofs.Masks.{covers, mask_line}
use Rattle.lines.proofs.has_line.Goals as goal

pub returns : goal.returns
returns c =
    any_from_yields_List (covers c.args.bits) _ _ _ c.any.ensures.ran (YieldsList-from_slice masks cc)
    (λ x b q k. search (rules, tests)) ∙ mask_line _
