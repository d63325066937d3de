-- A draw winner: X, O, or - for none.
use Rattle.std.specs.Prelude.{List, ℕ, eqb, length, get_or, Option, Some, None}
use Rattle.base.specs.Branch.{when◌then◌else◌}
use Rattle.rules.specs.declared.Player.{Player}
use Rattle.rules.specs.declared.Player.TheVariants.{X, O}

unfoldable pub draw_letter : ℕ → Option (Option Player)
draw_letter b =
    when eqb b 0x2d then (λ _. Some None) else
    λ _. when eqb b 0x58 then (λ _. Some (Some X)) else
    λ _. when eqb b 0x4f then (λ _. Some (Some O)) else
    λ _. None

unfoldable pub draw_of : List ℕ → Option (Option Player)
draw_of text = when eqb (length text) 1 then (λ _. draw_letter (get_or text 0 0)) else λ _. None
