-- A record of the endgame analysis, and what is found of it: a position's text, a tab, and numbers, those of the analysis and three of
-- each listed move.
use Rattle.std.specs.Prelude.{Bool, ◌&&◌, ◌||◌, List, [], ◌∷◌, ◌++◌, ℕ, eqb, get_or, Option, Some, None}
use Rattle.base.specs.Branch.{when◌then◌else◌}
use Rattle.base.specs.Lists.{any, concat_map}
use Rattle.rules.specs.declared.GameState.TheVariants.{InPlay}
use Rattle.rules.specs.Board.{sides, has_line}
use Rattle.rules.specs.Position.{Position, unfinished, won_boards}
use Rattle.rules.specs.Moves.{moves}
use Rattle.rules.specs.Status.{as_byte}
use Rattle.rules.specs.Endgame.{EndgameStats, Analysis, analysis, evaluate_move}
use Rattle.text.specs.Reading.{Reading, reads, refuses, read}
use Rattle.decimals.specs.Lists.{list_of}
use Rattle.replay.specs.declared.totals.Comparison.{Comparison}
use Rattle.replay.specs.declared.totals.Comparison.TheVariants.{Differs}
use Rattle.replay.specs.Agreement.{same_numbers}
use Rattle.replay.specs.Fields.{field, tabs}
use Rattle.replay.specs.Totals.{comparison}

-- ---- the moves that a record lists, by its position alone
-- an unfinished position in which a side has a line of boards
abbrev pub has_line_of_boards : Position → Bool
has_line_of_boards p = unfinished p && any (λ w. has_line (won_boards p w)) sides

-- the position as if the game went on
abbrev pub reopened : Position → Position
reopened p = record { turn = p.turn; next_board = p.next_board; cells = p.cells; states = p.states; state = InPlay }

-- what the Rust lists: the rules' moves, of a finished game as if it went on; none where its analysis panics on a line of boards
unfoldable pub listed_moves : Position → List ℕ
listed_moves p = when has_line_of_boards p then (λ _. []) else λ _. moves (reopened p)

-- where none is listed, the first cell of the first board
abbrev pub or_first : List ℕ → List ℕ
or_first [] = 0 ∷ []
or_first (m ∷ ms) = m ∷ ms

-- the moves that a record must list, in this order
abbrev pub expected_moves : Position → List ℕ
expected_moves p = or_first (listed_moves p)

-- ---- the numbers
abbrev pub stats_numbers : EndgameStats → List ℕ
stats_numbers s =
    s.attacker_critical ∷ s.defender_critical ∷ s.both_critical ∷ s.unwinnable ∷ s.prove_attacker ∷ s.prove_defender ∷ []

-- whether it is refused, the status and the six counts
abbrev pub analysis_numbers : Analysis → List ℕ
analysis_numbers a = a.refusal ∷ as_byte a.status ∷ stats_numbers a.stats

-- the move, whether it is refused, and its status
abbrev pub move_numbers : Position → ℕ → List ℕ
move_numbers p m = let judged = evaluate_move p m in m ∷ judged.refusal ∷ as_byte judged.status ∷ []

-- the record of a position
abbrev pub record_of : Position → List ℕ
record_of p = analysis_numbers (analysis p) ++ concat_map (move_numbers p) (expected_moves p)

-- ---- what is found
-- the position is refused with 14, or the first listed move with 10
abbrev pub is_apart : List ℕ → Bool
is_apart ns = eqb (get_or ns 0 0) 14 || eqb (get_or ns 9 0) 10

-- of the numbers of a position's record
abbrev pub comparison_of : Position → List ℕ → Comparison
comparison_of p ns = comparison (same_numbers ns (record_of p)) (is_apart ns)

-- a text that is no position differs, and so does what is no list of numbers
abbrev pub comparison_for : Reading → Option (List ℕ) → Comparison
comparison_for (refuses n offset size) ns = Differs
comparison_for (reads p) None = Differs
comparison_for (reads p) (Some ns) = comparison_of p ns

-- of a line: one that has not two fields differs
unfoldable pub outcome_of : List ℕ → Comparison
outcome_of line =
    when eqb (tabs line) 1 then (λ _. comparison_for (read (field 0 line)) (list_of 256 (field 1 line))) else λ _. Differs
