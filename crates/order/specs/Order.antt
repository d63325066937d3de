-- The order in which a position's moves are searched: what it means, and one step of it.
use Rattle.std.specs.Prelude.{◌≡◌, Bool, ◌||◌, List, [], ◌∷◌, ◌++◌, ℕ, zero, suc, ◌-◌, ◌/◌, ◌%◌, ◌^◌, eqb, get_or}
use Rattle.std.specs.Prelude.{Option, None, Some, set, take, drop, length, replicate}
use Rattle.std.specs.Int.Bits.{bit_or}
use Rattle.base.specs.Branch.{when◌then◌else◌}
use Rattle.base.specs.Bits.{bit}
use Rattle.rules.specs.Play.{accepts}
use Rattle.rules.specs.Moves.{moves}
use Rattle.boards.specs.declared.moves.Move.{Move}
use Rattle.boards.specs.declared.moves.MoveIterator.{MoveIterator}
use Rattle.boards.specs.Cursor.{moves_left, cursor_over}
use Rattle.game.specs.declared.Game.{Game}
use Rattle.game.specs.Meaning.{position_of}
use Rattle.game.specs.After.{game_after}
use Rattle.order.specs.declared.Seen.{Seen}
use Rattle.order.specs.declared.MovesLeft.{MovesLeft}
use Rattle.order.specs.declared.MoveOrder.{MoveOrder}
use Rattle.order.specs.declared.NextMove.{NextMove}

-- ---- a move order means its marks, one for each of the 256 moves, and the moves still to be met
unfoldable pub marked : Seen → ℕ → Bool
marked s m = bit (get_or s.marks (m / 64) 0) (m % 64)

-- the move, if there is one
abbrev pub listed : Option Move → List ℕ
listed None = []
listed (Some m) = m.bits ∷ []

unfoldable pub all_left : MovesLeft → List ℕ
all_left o = listed o.first ++ (listed o.second ++ moves_left o.list)

-- ---- before the first move is met
abbrev pub no_marks : Seen
no_marks = record { marks = replicate 4 0 }

abbrev pub new_order : Game → Option Move → Option Move → MoveOrder
new_order g first second =
    record { left = record { first = first; second = second; list = cursor_over (moves (position_of g)) }; seen = no_marks }

-- ---- one move met
-- those left without the next: `first` or `second` is taken, or the list goes on
abbrev pub rest : Option Move → Option Move → MoveIterator → MovesLeft
rest (Some m) second list = record { first = None; second = second; list = list }
rest None (Some m) list = record { first = None; second = None; list = list }
rest None None list = record { first = None; second = None; list = cursor_over (drop 1 (moves_left list)) }

abbrev pub without_next : MovesLeft → MovesLeft
without_next o = rest o.first o.second o.list

-- the next of them and the others, or nothing where nothing is left
abbrev pub Meets : MovesLeft → Option Move → MovesLeft → Type 0
Meets o None after = (all_left o ≡ []) × (after ≡ o)
Meets o (Some m) after = (all_left o ≡ m.bits ∷ all_left after) × (after ≡ without_next o)

-- the marks with that of a move set
unfoldable pub set_mark : Seen → ℕ → Seen
set_mark s m = record { marks = set s.marks (m / 64) (bit_or (get_or s.marks (m / 64) 0) (2 ^ (m % 64))) }

-- ---- so many moves met: each is gone from those left, and marked
unfoldable pub left_after : ℕ → MovesLeft → MovesLeft
left_after zero o = o
left_after (suc n) o = left_after n (without_next o)

unfoldable pub set_marks : Seen → List ℕ → Seen
set_marks s [] = s
set_marks s (m ∷ ms) = set_marks (set_mark s m) ms

abbrev pub order_after : ℕ → MoveOrder → MoveOrder
order_after n w =
    record { left = left_after n w.left; seen = set_marks w.seen (take n (all_left w.left)) }

-- ---- a step: the move found, if any; the marks by then; the moves left
pub record Step : Type 0 where
  pub found : Option ℕ
  pub marks : ℕ → Bool
  pub left : List ℕ

-- one mark more
abbrev pub with_mark : (ℕ → Bool) → ℕ → ℕ → Bool
with_mark seen m k = eqb k m || seen k

-- the first move that is not marked and passes; each that is met is marked
unfoldable pub step : (ok : ℕ → Bool) → (seen : ℕ → Bool) → List ℕ → Step
step ok seen [] = record { found = None; marks = seen; left = [] }
step ok seen (m ∷ ms) =
    when seen m then (λ _. step ok seen ms) else
    λ _. when ok m then (λ _. record { found = Some m; marks = with_mark seen m; left = ms }) else λ _. step ok (with_mark seen m) ms

-- over the moves that a game accepts
abbrev pub step_of : Game → MoveOrder → Step
step_of g w = step (accepts (position_of g)) (marked w.seen) (all_left w.left)

-- how many moves it meets
abbrev pub number_met : Game → MoveOrder → ℕ
number_met g w = length (all_left w.left) - length (step_of g w).left

-- a move found, and the game after it
abbrev pub found_after : Game → Option ℕ → Option NextMove
found_after g None = None
found_after g (Some m) = Some (record { game = game_after g m; m = record { bits = m } })

-- what a step gives, and the order that it leaves: the struct by equality, and what it means
pub record NextOf (g : Game) (w : MoveOrder) (r : Option NextMove) (after : MoveOrder) : Type 0 where
  pub found_is : r ≡ found_after g (step_of g w).found
  pub order_is : after ≡ order_after (number_met g w) w
  pub marks_are : (k : ℕ) → marked after.seen k ≡ (step_of g w).marks k
  pub left_are : all_left after.left ≡ (step_of g w).left

-- ---- all the steps: those that are accepted, each once; those that are marked are passed over
unfoldable pub unmarked : (ok : ℕ → Bool) → (seen : ℕ → Bool) → List ℕ → List ℕ
unmarked ok seen [] = []
unmarked ok seen (m ∷ ms) =
    when seen m then (λ _. unmarked ok seen ms) else
    λ _. when ok m then (λ _. m ∷ unmarked ok (with_mark seen m) ms) else λ _. unmarked ok (with_mark seen m) ms

abbrev pub order_left : Game → MoveOrder → List ℕ
order_left g w = unmarked (accepts (position_of g)) (marked w.seen) (all_left w.left)
