-- Letters of draw winners, computed.
use mathlib.Core.Path.{◌≡◌, refl}
use Rattle.base.specs.Branch.{when◌then◌else◌}
use Rattle.rules.specs.declared.Player.TheVariants.{X, O}
use Rattle.std.specs.Prelude.{Some, None}
use Rattle.text.specs.Bytes.{quoted}
use Rattle.replay.specs.Draws.{draw_letter, draw_of}

-- each side's own letter, and a minus for nobody; two letters, no letter and a small letter are refused
pub draws_read : (draw_of (quoted "X") ≡ Some (Some X)) × (draw_of (quoted "O") ≡ Some (Some O)) × (draw_of (quoted "-") ≡ Some None)
    × (draw_of (quoted "XO") ≡ None) × (draw_of (quoted "") ≡ None) × (draw_of (quoted "x") ≡ None)
unfolding quoted draw_of draw_letter when◌then◌else◌
draws_read = (refl, refl, refl, refl, refl, refl)
