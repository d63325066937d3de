-- Playing a move: what is asked of it, the refusals 9 to 13 in their order, the position after it, and what it did to its board.
use Rattle.std.specs.Prelude.{Bool, true, false, cond, ◌&&◌, List, [], ◌∷◌, ℕ, ◌+◌, ◌*◌, ◌/◌, ◌%◌, eqb, ltb, Option, None, Some}
use Rattle.rules.specs.declared.CellState.TheVariants.{Played}
use Rattle.rules.specs.declared.GameState.TheVariants.{InPlay}
use Rattle.rules.specs.declared.Effect.{Effect}
use Rattle.base.specs.Branch.{when◌then◌else◌}
use Rattle.base.specs.Checks.{all_pass, first_failed}
use Rattle.base.specs.Update.{update}
use Rattle.rules.specs.Board.{other, blank, mine, in_play, won_by, state_number, result_of}
use Rattle.rules.specs.Position.{is_free, Position, unfinished, open_board, free_cell}

-- ---- a move: its board in the upper four bits, its cell in the lower
abbrev pub move_of : ℕ → ℕ → ℕ
move_of b c = b * 16 + c

abbrev pub board_of : ℕ → ℕ
board_of m = m / 16

abbrev pub cell_of : ℕ → ℕ
cell_of m = m % 16

-- the empty move
abbrev pub no_move : ℕ
no_move = 0xff

-- ---- what is asked of a move in cell c of board b, each with the number of its refusal, in order
abbrev pub may : Option ℕ → ℕ → Bool
may None b = true
may (Some d) b = eqb d b

abbrev pub checks : Position → ℕ → ℕ → List (Bool × ℕ)
checks p b c =
    (ltb b 9 && ltb c 9, 9) ∷
    (unfinished p, 10) ∷
    (open_board p b, 11) ∷
    (may p.next_board b, 12) ∷
    (free_cell p b c, 13) ∷ []

unfoldable pub accepts : Position → ℕ → Bool
accepts p m = all_pass (checks p (board_of m) (cell_of m))

-- ---- the position after w, whose turn it is, has played cell c of board b: the cell is w's; w's lines decide the board, then the game;
-- board c is next, or any board where c is closed
unfoldable pub after : Position → ℕ → ℕ → Position
after p b c =
    let w = p.turn in
    let row = update (p.cells b) c (Played w) in
    let states = update p.states b (result_of w (λ i. mine w (row i)) (λ i. blank (row i))) in
    record {
      turn = other w;
      next_board = when in_play (states c) then (λ _. Some c) else λ _. None;
      cells = update p.cells b row;
      states = states;
      state = result_of w (λ i. won_by w (states i)) (λ i. in_play (states i));
    }

-- ---- a move, tried
pub data Tried : Type 0 where
  played : Position → Tried
  refused : ℕ → Tried

unfoldable pub play : Position → ℕ → Tried
play p m =
    when accepts p m then (λ _. played (after p (board_of m) (cell_of m)))
    else λ _. refused (first_failed (checks p (board_of m) (cell_of m)))

-- where a try leaves the position: a refused one changes nothing
unfoldable pub left_by : Position → Tried → Position
left_by p (played q) = q
left_by p (refused n) = p

unfoldable pub tried : Position → ℕ → Position
tried p m = left_by p (play p m)

-- the position that the rules reach from p when fed with the moves of a list
unfoldable pub reached : Position → List ℕ → Position
reached p [] = p
reached p (m ∷ ms) = reached (tried p m) ms

-- ---- what a move did, by the board b that it was played in and the position q after it: the state of that board, and whether no board is
-- due, also at the game's end
abbrev pub effect_in : ℕ → Position → Effect
effect_in b q = record { board = q.states b; free_choice = is_free q.next_board }

-- a refused one: an open board and no free choice, whatever its board is
abbrev pub no_effect : Effect
no_effect = record { board = InPlay; free_choice = false }

unfoldable pub effect : Position → ℕ → Effect
effect p m = when accepts p m then (λ _. effect_in (board_of m) (after p (board_of m) (cell_of m))) else λ _. no_effect

-- what the last of some moves did, tried one after the other from p; e is for no moves, `no_effect` in every promise
unfoldable pub last_effect : Effect → Position → List ℕ → Effect
last_effect e p [] = e
last_effect e p (m ∷ ms) = last_effect (effect p m) (tried p m) ms

-- the number of an effect: that of the board's state, and 4 more for a free choice
abbrev pub effect_number : Effect → ℕ
effect_number e = state_number e.board + cond e.free_choice 4 0
