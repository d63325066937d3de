-- Sound and proper positions.
use Rattle.std.specs.Prelude.{Bool, true, not, ℕ, ◌||◌, ◌&&◌, ltb, Option, None, Some}
use Rattle.base.specs.Lists.{any, all}
use Rattle.rules.specs.Board.{sides, nine, has_line}
use Rattle.rules.specs.Position.{Position, unfinished, open_board, won_boards, free_cell, has}

-- sound, which is asked of unfinished positions: neither side's boards make a line, and a board still in play is neither full nor won
unfoldable pub sound : Position → Bool
sound p =
    all (λ w. not (has_line (won_boards p w))) sides &&
    all (λ b. not (open_board p b) || (any (free_cell p b) nine && all (λ w. not (has_line (has p w b))) sides)) nine

-- what play and reading give besides: the board that is due is one of the nine and in play, and an unfinished game has a board in play
abbrev pub next_board_open : Position → Option ℕ → Bool
next_board_open p None = true
next_board_open p (Some b) = ltb b 9 && open_board p b

unfoldable pub proper : Position → Bool
proper p = next_board_open p p.next_board && (not (unfinished p) || any (open_board p) nine)
