-- Status: the set of the results that are left, of X wins, O wins and draw.
use Rattle.std.specs.Prelude.{Bool, true, false, not, cond, ◌&&◌, ℕ, ◌+◌, ◌/◌, ◌%◌, eqb, ltb, Option, None, Some}
use Rattle.rules.specs.declared.Player.{Player}
use Rattle.rules.specs.declared.Player.TheVariants.{X, O}
use Rattle.base.specs.Branch.{when◌then◌else◌}
use Rattle.rules.specs.Board.{other, same}

pub record Status : Type 0 where
  pub x : Bool
  pub o : Bool
  pub draw : Bool

-- the full set: nothing is proved
abbrev pub unproven : Status
unproven = record { x = true; o = true; draw = true }

abbrev pub for_player : Player → Status
for_player w = record { x = same w X; o = same w O; draw = false }

-- w no longer wins: a draw or the other side
abbrev pub draw_or_other : Player → Status
draw_or_other w = record { x = not (same w X); o = not (same w O); draw = true }

abbrev pub allows : Status → Player → Bool
allows s X = s.x
allows s O = s.o

-- w alone, without a draw
abbrev pub alone : Status → Player → Bool
alone s w = allows s w && (not (allows s (other w)) && not s.draw)

abbrev pub as_byte : Status → ℕ
as_byte s = cond s.x 1 0 + cond s.o 2 0 + cond s.draw 4 0

-- 1, 2, 4, 5, 6 and 7 are a set's bytes: not 0, none left, and not 3, either side but no draw
unfoldable pub from_byte : ℕ → Option Status
from_byte v = when ltb v 8 && (not (eqb v 0) && not (eqb v 3))
    then (λ _. Some (record { x = eqb (v % 2) 1; o = eqb (v / 2 % 2) 1; draw = eqb (v / 4) 1 }))
    else λ _. None

-- the common part, or none
unfoldable pub merge : Status → Status → Option Status
merge s t = from_byte (as_byte (record { x = s.x && t.x; o = s.o && t.o; draw = s.draw && t.draw }))
