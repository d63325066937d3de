-- What the parts of an analysis give: live boards, and critical boards the Rust's way, by the masks of lines that lack one place, which is
-- empty.
use Rattle.std.specs.Prelude.{Bool, not, ◌||◌, ◌&&◌, ℕ, eqb}
use Rattle.std.specs.Int.Bits.{bit_and, bit_or}
use Rattle.std.specs.Int.Count.{ones}
use Rattle.std.specs.List.{list_any}
use Rattle.base.specs.Bits.{bit, digits}
use Rattle.base.specs.Lists.{any, all}
use Rattle.rules.specs.declared.Player.{Player}
use Rattle.rules.specs.Board.{sides, nine, has_line}
use Rattle.rules.specs.Position.{Position, open_board, won_boards, free_cell, has}
use Rattle.lines.specs.Masks.{masks}

-- what `sound` asks of board b
unfoldable pub live : Position → ℕ → Bool
live p b = not (open_board p b) || (any (free_cell p b) nine && all (λ w. not (has_line (has p w b))) sides)

-- the side's and the empty places cover the line of a mask, and one of them is empty
abbrev pub lacks_one : ℕ → ℕ → ℕ → Bool
lacks_one own empty mask = eqb (bit_and (bit_or own empty) mask) mask && eqb (ones (bit_and empty mask)) 1

-- board b is the one that the line of a mask lacks, and some line of its cells lacks one
unfoldable pub critical_by : Position → Player → ℕ → ℕ → Bool
critical_by p w mask b =
    (open_board p b && bit mask b) &&
    (lacks_one (digits (won_boards p w) 9) (digits (open_board p) 9) mask &&
    list_any (lacks_one (digits (has p w b) 9) (digits (free_cell p b) 9)) masks)
