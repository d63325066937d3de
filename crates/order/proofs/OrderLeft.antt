-- What an order has left: the next move, and the rest.
use Rattle.std.specs.Prelude.{Option, None, Some}
use mathlib.Core.Path.{sym, ap, ◌∙◌}
use lib.ListN.{drop}
use Rattle.boards.specs.declared.moves.Move.{Move}
use Rattle.boards.specs.declared.moves.MoveIterator.{MoveIterator}
use Rattle.boards.specs.Cursor.{cursor_over, Lists}
use Rattle.order.specs.declared.MovesLeft.{MovesLeft}
use Rattle.order.specs.Order.{all_left, Meets}

abbrev those : Option Move → Option Move → MoveIterator → MovesLeft
those first second list = record { first = first; second = second; list = list }

-- the first of the three that has a move gives it
pub next_listed : (it : MoveIterator) (next : Option Move) (after : MoveIterator) → Lists it next after →
    Meets (those None None it) next (those None None after)
unfolding all_left
next_listed it None after l = (l.0.0, ap (those None None) l.1)
next_listed it (Some m) after l = (l.0, ap (those None None) (l.1 ∙ ap cursor_over (sym (ap (drop 1) l.0))))
