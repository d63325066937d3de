-- The records of games: the question that a record's numbers hold, and the record of that question.
use Rattle.std.specs.Prelude.{false, not, cond, List, [], ◌∷◌, ◌++◌, map, ◌≡◌, ℕ, ◌+◌, ◌/◌, ◌%◌, ◌^◌, eqb, length, get_or}
use Rattle.std.specs.Prelude.{Option, Some, None}
use Rattle.base.specs.Branch.{when◌then◌else◌}
use Rattle.base.specs.Bits.{digits}
use Rattle.base.specs.Lists.{from}
use Rattle.rules.specs.declared.CellState.{CellState}
use Rattle.rules.specs.declared.CellState.TheVariants.{Empty, Played}
use Rattle.rules.specs.Board.{side_number, side_from, state_number, state_from, drawn, nine}
use Rattle.rules.specs.Position.{Position, unfinished}
use Rattle.rules.specs.Play.{move_of}
use Rattle.rules.specs.Moves.{moves}
use Rattle.rules.specs.Hash.{hash, with_turn}
use Rattle.rules.specs.Compare.{bound_depth, open_boards, equivalent}
use Rattle.boards.specs.declared.local.Row.{Row}
use Rattle.boards.specs.declared.local.LocalBoards.{LocalBoards}
use Rattle.boards.specs.Packed.{row_of}
use Rattle.game.specs.declared.Game.{Game}
use Rattle.game.specs.Meaning.{position_of}
use Rattle.game.specs.After.{games_after, answers_each}
use Rattle.game.specs.Built.{new_game, packed}
use Rattle.decimals.specs.Lists.{list_of}
use Rattle.replay.specs.declared.totals.Comparison.{Comparison}
use Rattle.replay.specs.declared.totals.Comparison.TheVariants.{Differs}
use Rattle.replay.specs.Agreement.{same_numbers, left_of, compared_all}
use Rattle.replay.specs.Totals.{comparison}
use Rattle.replay_game.specs.declared.Run.{Run}

-- ---- the question, whatever the numbers are
abbrev pub next_of : ℕ → Option ℕ
next_of n = cond (eqb n 255) None (Some (n % 256))

-- the numbers from place i on
abbrev pub row_in : List ℕ → ℕ → Row
row_in ns i = record { x = get_or ns i 0 % 2 ^ 32; o = get_or ns (i + 1) 0 % 2 ^ 32 }

unfoldable pub game_in : List ℕ → ℕ → Game
game_in ns i =
    packed
    (side_from (get_or ns i 0))
    (next_of (get_or ns (i + 1) 0))
    (record { rows = row_in ns (i + 2) ∷ row_in ns (i + 4) ∷ row_in ns (i + 6) ∷ [] })
    (record { x = get_or ns (i + 8) 0 % 2 ^ 16; o = get_or ns (i + 9) 0 % 2 ^ 16 })
    (state_from (get_or ns (i + 10) 0))

-- k moves
abbrev pub moves_from : List ℕ → ℕ → ℕ → List ℕ
moves_from ns i k = map (λ j. get_or ns j 0 % 256) (from i k)

-- as many moves as the number at i says, from the next on
abbrev pub moves_in : List ℕ → ℕ → List ℕ
moves_in ns i = moves_from ns (i + 1) (get_or ns i 0 % 512)

-- ---- the numbers of a position
abbrev pub next_number : Option ℕ → ℕ
next_number None = 255
next_number (Some b) = b

abbrev pub boards_numbers : LocalBoards → List ℕ
boards_numbers l = (row_of l 0).x ∷ (row_of l 0).o ∷ (row_of l 3).x ∷ (row_of l 3).o ∷ (row_of l 6).x ∷ (row_of l 6).o ∷ []

unfoldable pub position_numbers : Game → List ℕ
position_numbers g =
    side_number g.next_player ∷ next_number g.next_board ∷ (boards_numbers g.local_boards ++
    (g.global_states.x ∷ g.global_states.o ∷ state_number g.game_state ∷ []))

-- ---- a play: how many moves, the moves, what each is answered, and the game after them
-- of that game; the last number: whether document 01's list of moves, which is none, differs from the Rust's
unfoldable pub reached_numbers : Game → List ℕ
reached_numbers g =
    let p = position_of g in
    boards_numbers g.local_boards ++
    (g.hash ∷ hash p ∷ with_turn p g.hash ∷ state_number p.state ∷ side_number p.turn ∷ next_number p.next_board ∷
    bound_depth p ∷ open_boards p ∷ cond (not (unfinished p)) 1 0 ∷ [])

unfoldable pub moves_numbers : Position → List ℕ
moves_numbers p = length (moves p) ∷ moves p

abbrev pub play_numbers : Game → List ℕ → List ℕ
play_numbers g ms =
    let end = games_after g ms in
    length ms ∷ (ms ++ (answers_each g ms ++ (reached_numbers end ++ moves_numbers (position_of end))))

-- ---- the cells, the states and the drawn boards of a position
abbrev pub cell_number : CellState → ℕ
cell_number Empty = 0
cell_number (Played w) = 1 + side_number w

unfoldable pub cells_numbers : Position → List ℕ
cells_numbers p = map (λ k. cell_number (p.cells (k / 9) (k % 9))) (from 0 81)

unfoldable pub states_numbers : Position → List ℕ
states_numbers p = map (λ b. state_number (p.states b)) nine

abbrev pub looked_numbers : Game → List ℕ
looked_numbers g =
    let p = position_of g in
    position_numbers g ++ (cells_numbers p ++ (states_numbers p ++ (digits (λ b. drawn (p.states b)) 9 ∷ [])))

-- ---- the records of the other kinds
abbrev pub equivalence_record : Game → Game → List ℕ
equivalence_record g h =
    let p = position_of g in
    let q = position_of h in
    3 ∷ (position_numbers g ++ (position_numbers h ++ (cond (equivalent p q) 1 0 ∷ cond (equivalent q p) 1 0 ∷ [])))

abbrev pub coordinates_record : ℕ → ℕ → List ℕ
coordinates_record b c = 11 ∷ b ∷ c ∷ move_of b c ∷ []

-- ---- what is found of a record
-- of a play from g: its moves stand from place i on, and `first` before them
unfoldable pub of_play : List ℕ → List ℕ → Game → ℕ → Comparison
of_play ns first g i =
    let ms = moves_in ns i in
    comparison (same_numbers ns (first ++ play_numbers g ms)) (not (unfinished (position_of (games_after g ms))))

-- of a record for which the Rust and document 01 have one answer
unfoldable pub of_record : List ℕ → List ℕ → Comparison
of_record ns expected = comparison (same_numbers ns expected) false

unfoldable pub comparison_of : List ℕ → Comparison
comparison_of ns =
    let kind = get_or ns 0 0 in
    when eqb kind 1 then (λ _. of_play ns (1 ∷ []) new_game 1) else
    λ _. when eqb kind 2 then (λ _. of_play ns (2 ∷ position_numbers (game_in ns 1)) (game_in ns 1) 12) else
    λ _. when eqb kind 3 then (λ _. of_record ns (equivalence_record (game_in ns 1) (game_in ns 12))) else
    λ _. when eqb kind 10 then (λ _. of_record ns (10 ∷ looked_numbers (game_in ns 1))) else
    λ _. when eqb kind 11 then (λ _. of_record ns (coordinates_record (get_or ns 1 0 % 9) (get_or ns 2 0 % 9))) else
    λ _. Differs

-- a line that is no list of numbers differs
abbrev pub comparison_for : Option (List ℕ) → Comparison
comparison_for None = Differs
comparison_for (Some ns) = comparison_of ns

abbrev pub outcome_of : List ℕ → Comparison
outcome_of line = comparison_for (list_of 1024 line)

-- ---- what is promised of the moves that are tried
pub record Runs (begun : Option (List ℕ)) (g : Game) (ms : List ℕ) (r : Run) : Type 0 where
  pub game_is : r.game ≡ games_after g ms
  pub compared_is : left_of r.compared ≡ compared_all begun (answers_each g ms)
