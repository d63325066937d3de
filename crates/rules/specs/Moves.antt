-- The list of moves: boards rising, cells rising, those that play accepts. A finished game has none.
use Rattle.std.specs.Prelude.{List, map, ℕ}
use Rattle.base.specs.Lists.{filter, concat_map}
use Rattle.rules.specs.Board.{nine}
use Rattle.rules.specs.Position.{Position}
use Rattle.rules.specs.Play.{move_of, accepts}

-- all 81 places
unfoldable pub places : List ℕ
places = concat_map (λ b. map (move_of b) nine) nine

unfoldable pub moves : Position → List ℕ
moves p = filter (accepts p) places
