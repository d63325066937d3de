-- Demand 1: what each entry point asks, as a list of checks with the refusals' numbers in their order, and what it returns where one fails.
-- The number that it answers is that of the first that fails, 0 where all pass.
use Rattle.game.specs.Built.{new_game}
use Rattle.rules.specs.declared.GameState.TheVariants.{InPlay}
use Rattle.rules.specs.declared.CellState.TheVariants.{Empty}
use Rattle.std.specs.Result.{result_unwrap_or}
use Rattle.std.specs.Prelude.{◌≡◌, Bool, false, not, ◌||◌, ◌&&◌, List, [], ◌∷◌, ◌++◌, map, ℕ, suc, ◌+◌, ◌*◌, ◌-◌, ◌%◌, None, Result, Err}
use Rattle.std.specs.Prelude.{T, eqb, leb, ltb, pos, length, get_or, replicate, IfOk, ℤ}
use Rattle.base.specs.Lists.{any, elem, from}
use Rattle.base.specs.Checks.{all_pass, first_failed}
use Rattle.rules.specs.declared.Player.{Player}
use Rattle.rules.specs.declared.Player.TheVariants.{X, O}
use Rattle.rules.specs.declared.Weights.{Weights}
use Rattle.rules.specs.Board.{blank, mine, in_play, won_by, nine, has_line}
use Rattle.rules.specs.Position.{Position}
use Rattle.rules.specs.Play.{no_move, move_of, board_of, cell_of, checks, after}
use Rattle.rules.specs.Moves.{moves}
use Rattle.rules.specs.Status.{unproven}
use Rattle.rules.specs.Evaluation.{default_weights}
use Rattle.rules.specs.Endgame.{no_endgame_stats as no_counts, analysis}
use Rattle.text.specs.Reading.{reads, sections, read}
use Rattle.text.specs.MoveText.{coordinate}
use Rattle.text.specs.ProgramLine.{answer_text, refusal_text}
use Rattle.theory.specs.Limits.{console}
use Rattle.theory.specs.Memory.{fresh_memory}
use Rattle.theory.specs.OrderedSearch.{unlimited}
use Rattle.theory.specs.Deepening.{analyze}
use Rattle.theory.specs.Reported.{entry_checks, Reported, no_stats}
use Rattle.boards.specs.declared.moves.Move.{Move}
use Rattle.boards.specs.Packed.{cell_at, state_at}
use Rattle.boards.specs.Answers.{in_range, move_error_number, within}
use Rattle.game.specs.declared.Game.{Game}
use Rattle.game.specs.Meaning.{position_of}
use Rattle.game.specs.After.{after_move, game_left, Plays}
use Rattle.notation.specs.declared.ParseError.{ParseError}
use Rattle.notation.specs.Parsed.{parse_number, move_number, game_for, Parses, ParsesMove}
use Rattle.status.specs.Sets.{status_of}
use Rattle.endgame.specs.declared.Analysis.{Analysis}
use Rattle.endgame.specs.Means.{move_status_number, unsound_number, analysis_status, analysis_stats, move_status, Analyses, Judges}
use Rattle.minimax.specs.declared.Minimax.{Minimax}
use Rattle.minimax.specs.declared.Config.{Config}
use Rattle.minimax.specs.Structs.{structs}
use Rattle.minimax.specs.Report.{settings_of, report_of, answer_of, scoring_of, responses_of, empty_responses, reported_of}
use Rattle.answer_text.specs.AnswerBytes.{written_bytes, text_of_bytes}
use Rattle.program_line.specs.Answered.{program_search, asked_text}
use Rattle.demands.specs.declared.EntryAnswers.{EntryAnswers}
use Rattle.rules.specs.Refusal.{answer_number}
use Rattle.boards.specs.declared.moves.MoveError.{MoveError}
use Rattle.evaluation.specs.declared.BadWeight.{BadWeight}
use Rattle.evaluation.specs.Values.{bad_weight_number, value_or_0, Evaluates}
use Rattle.endgame.specs.declared.Unsound.{Unsound}
use Rattle.endgame.specs.declared.MoveStatusError.{MoveStatusError}
use Rattle.status.specs.declared.Status.{Status}
use Rattle.notation.specs.declared.ParseMoveError.{ParseMoveError}
use Rattle.notation.specs.declared.ParseMoveError.TheVariants.{BadCharacter}
use Rattle.rules.specs.declared.CellState.{CellState}
use Rattle.rules.specs.declared.GameState.{GameState}
use Rattle.line_buffer.specs.Buffer.{buffer_asks, pushed_all, new_buffer}

-- ---- playing: the rules' own checks
-- refused play leaves the old game
pub record Playing (g : Game) (m : Move) (r : Result Game MoveError) : Type 0 where
  pub number : answer_number move_error_number r ≡ first_failed (checks (position_of g) (board_of m.bits) (cell_of m.bits))
  pub refused : (answer_number move_error_number r ≡ 0 → ⊥) → game_left g r ≡ g
  pub accepted : answer_number move_error_number r ≡ 0 → game_left g r ≡ after_move g (board_of m.bits) (cell_of m.bits)
  pub accepted_means : answer_number move_error_number r ≡ 0 →
      position_of (game_left g r) ≡ after (position_of g) (board_of m.bits) (cell_of m.bits)

-- ---- searching
module _ (m : Minimax) (g : Game) (c : Config) (words : List ℕ) where
  -- what the ordered search enters at depth 1 alone, if nothing limits it
  abbrev pub depth_1_enters : ℕ
  depth_1_enters = (analyze (structs (scoring_of c)) unlimited 1 g (fresh_memory (responses_of m.responses) words)).memory.count

  -- 15 to 17 and 20 at the entry, then 18
  abbrev pub searching : List (Bool × ℕ)
  searching = entry_checks console (settings_of c) (length words) ++ ((leb depth_1_enters c.allowance, 18) ∷ [])

  -- x is what is reported
  module _ (x : Reported) where
    -- score 0 and no move, of no depth
    pub record NothingReported : Type 0 where
      pub depth : x.depth ≡ 0
      pub score : x.score ≡ pos 0
      pub pv : x.pv ≡ replicate console.deepest no_move
      pub stats : x.stats ≡ replicate console.deepest no_stats

    -- nothing is changed, and no position was entered
    pub record Unchanged : Type 0 where
      pub count : x.count ≡ 0
      pub unmarked : T (not x.is_stopped)
      pub responses : x.responses ≡ responses_of m.responses
      pub table : x.table ≡ words

    -- all that is allowed was entered; response tables and table are as the ordered search has left them where it stopped
    pub record SpentInDepth1 : Type 0 where
      pub count : x.count ≡ c.allowance
      pub marked : T x.is_stopped
      pub responses : x.responses ≡ (answer_of m g c words).memory.responses
      pub table : x.table ≡ (answer_of m g c words).memory.table

    pub record Searching : Type 0 where
      pub number : x.number ≡ first_failed searching
      pub refused : (x.number ≡ 0 → ⊥) → NothingReported
      -- 15 to 17, and 20
      pub at_entry : (x.number ≡ 0 → ⊥) → (x.number ≡ 18 → ⊥) → Unchanged
      pub in_depth_1 : x.number ≡ 18 → SpentInDepth1

-- ---- the evaluation alone
-- no weight is over 1,000
abbrev pub evaluating : Weights → List (Bool × ℕ)
evaluating w = (leb w.one 1000 && (leb w.two 1000 && leb w.board 1000), 20) ∷ []

pub record Evaluating (w : Weights) (r : Result ℤ BadWeight) : Type 0 where
  pub number : answer_number bad_weight_number r ≡ first_failed (evaluating w)
  pub refused : (answer_number bad_weight_number r ≡ 0 → ⊥) → value_or_0 r ≡ pos 0

-- ---- the endgame analysis
-- a side has a line of boards
abbrev pub line_of_boards : Game → Player → Bool
line_of_boards g w = has_line (λ b. won_by w (state_at g.global_states b))

-- board b is in play, without an empty cell or with a side's line
abbrev pub broken_board : Game → ℕ → Bool
broken_board g b =
    let cell = cell_at g.local_boards b in
    in_play (state_at g.global_states b) &&
    (not (any (λ c. blank (cell c)) nine) || (has_line (λ c. mine X (cell c)) || has_line (λ c. mine O (cell c))))

abbrev pub unsound : Game → Bool
unsound g = line_of_boards g X || (line_of_boards g O || any (broken_board g) nine)

abbrev pub analysing : Game → List (Bool × ℕ)
analysing g = (not (in_play g.game_state && unsound g), 14) ∷ []

-- the full set and no counts
pub record Unanswered (a : Result Analysis Unsound) : Type 0 where
  pub full : analysis_status a ≡ status_of unproven
  pub none_counted : analysis_stats a ≡ no_counts

pub record Analysing (g : Game) (a : Result Analysis Unsound) : Type 0 where
  pub number : answer_number unsound_number a ≡ first_failed (analysing g)
  pub refused : (answer_number unsound_number a ≡ 0 → ⊥) → Unanswered a
  pub finished_number : T (not (in_play g.game_state)) → answer_number unsound_number a ≡ 0
  pub finished : T (not (in_play g.game_state)) → Unanswered a

-- a move's status: 14 first, then what playing refuses
pub record JudgingMove (g : Game) (m : Move) (r : Result Status MoveStatusError) : Type 0 where
  pub number : answer_number move_status_number r ≡ first_failed (analysing g ++
      checks (position_of g) (board_of m.bits) (cell_of m.bits))
  pub refused : (answer_number move_status_number r ≡ 0 → ⊥) → move_status r ≡ status_of unproven

-- ---- looking at a cell or a board, and building a move
abbrev pub empty_move : Move
empty_move = record { bits = no_move }

-- refused, an empty cell, an open board and the empty move
pub record LookingCell (b c : ℕ) (r : Result CellState MoveError) : Type 0 where
  pub number : answer_number move_error_number r ≡ first_failed ((in_range b c, 9) ∷ [])
  pub refused : (answer_number move_error_number r ≡ 0 → ⊥) → result_unwrap_or r Empty ≡ Empty

pub record LookingBoard (b : ℕ) (r : Result GameState MoveError) : Type 0 where
  pub number : answer_number move_error_number r ≡ first_failed ((ltb b 9, 9) ∷ [])
  pub refused : (answer_number move_error_number r ≡ 0 → ⊥) → result_unwrap_or r InPlay ≡ InPlay

pub record Building (b c : ℕ) (r : Result Move MoveError) : Type 0 where
  pub number : answer_number move_error_number r ≡ first_failed ((in_range b c, 9) ∷ [])
  pub refused : (answer_number move_error_number r ≡ 0 → ⊥) → result_unwrap_or r empty_move ≡ empty_move
  pub accepted : IfOk r (λ m. m.bits ≡ move_of b c)

-- ---- reading a move
-- the first two bytes, each with what is said of it
abbrev pub letters : List ℕ → ℕ → ℕ → List (Bool × ℕ)
letters text m n = (coordinate (get_or text 0 0), m) ∷ (coordinate (get_or text 1 0), n) ∷ []

pub record ReadingMove (text : List ℕ) (r : Result Move ParseMoveError) : Type 0 where
  pub number : answer_number move_number r ≡ first_failed ((eqb (length text) 2, 7) ∷ letters text 8 8)
  -- 8 gives the byte, the first one first
  pub byte : answer_number move_number r ≡ 8 →
      r ≡ Err (BadCharacter (first_failed (letters text (get_or text 0 0) (get_or text 1 0))))
  pub refused : (answer_number move_number r ≡ 0 → ⊥) → result_unwrap_or r empty_move ≡ empty_move
  pub accepted : IfOk r (λ m. m.bits ≡ move_of (get_or text 0 0 - 0x61) (get_or text 1 0 - 0x61))

-- ---- reading a position
-- `X` or `O`
abbrev pub side_letter : ℕ → Bool
side_letter c = eqb c 0x58 || eqb c 0x4f

-- `.`, `@`, `#` or a side's letter
abbrev pub good_mark : ℕ → Bool
good_mark c = (eqb c 0x2e || eqb c 0x40) || (eqb c 0x23 || side_letter c)

-- `.` or a side's letter
abbrev pub good_cell : ℕ → Bool
good_cell c = eqb c 0x2e || side_letter c

-- the overall marks, from left to right, each with its offset
unfoldable pub marks_from : ℕ → List ℕ → List (Bool × ℕ)
marks_from o [] = []
marks_from o (c ∷ cs) = (good_mark c, o) ∷ marks_from (suc o) cs

-- the bytes of the cells' section by their places: each tenth is a `/`, the others are cells
unfoldable pub cell_checks : List ℕ → List ℕ → List (Bool × ℕ)
cell_checks cs [] = []
cell_checks cs (i ∷ is) =
    let joint = eqb (i % 10) 9 in
    (not joint || (ltb i (length cs) && eqb (get_or cs i 0) 0x2f), 5) ∷
    (joint || ltb i (length cs), 6) ∷
    (joint || good_cell (get_or cs i 0), 3) ∷ cell_checks cs is

-- what is asked of a text and of its parts between the semicolons: side, overall marks, and cells, of which 89 bytes are looked at.
-- Beside its number each check has offset and length of the part at fault; 1 has none
abbrev pub text_checks : List ℕ → List (List ℕ) → List (Bool × ℕ × ℕ × ℕ)
text_checks text parts =
    let side = get_or parts 0 [] in
    let overall = get_or parts 1 [] in
    let cells = get_or parts 2 [] in
    let marks = marks_from 2 overall in
    let fault = first_failed (cell_checks cells (from 0 89)) in
    (leb (length text) 256, 1, 0, 0) ∷
    (eqb (length parts) 3, 2, 0, length text) ∷
    (eqb (length side) 1 && side_letter (get_or side 0 0), 3, 0, length side) ∷
    (eqb (length overall) 9, 4, 2, length overall) ∷
    (all_pass marks, 5, first_failed marks, 1) ∷
    (eqb fault 0, fault, 12, length cells) ∷ []

abbrev pub numbers : List (Bool × ℕ × ℕ × ℕ) → List (Bool × ℕ)
numbers = map (λ (t : Bool × ℕ × ℕ × ℕ). (t.0, t.1))

abbrev pub offsets : List (Bool × ℕ × ℕ × ℕ) → List (Bool × ℕ)
offsets = map (λ (t : Bool × ℕ × ℕ × ℕ). (t.0, t.2))

abbrev pub lengths : List (Bool × ℕ × ℕ × ℕ) → List (Bool × ℕ)
lengths = map (λ (t : Bool × ℕ × ℕ × ℕ). (t.0, t.3))

pub record ReadingPosition (text : List ℕ) (r : Result Game ParseError) : Type 0 where
  pub number : answer_number parse_number r ≡ first_failed (numbers (text_checks text (sections text)))
  pub offset_is : (e : ParseError) → r ≡ Err e → e.offset ≡ first_failed (offsets (text_checks text (sections text)))
  pub length_is : (e : ParseError) → r ≡ Err e → e.length ≡ first_failed (lengths (text_checks text (sections text)))
  pub refused : (answer_number parse_number r ≡ 0 → ⊥) → result_unwrap_or r new_game ≡ new_game

-- ---- a line of the program
abbrev pub digit : ℕ → Bool
digit c = not (ltb c 0x30) && not (ltb 0x39 c)

abbrev pub one_or_two_digits : List ℕ → Bool
one_or_two_digits [] = false
one_or_two_digits (c ∷ []) = digit c
one_or_two_digits (c ∷ d ∷ []) = digit c && digit d
one_or_two_digits (c ∷ d ∷ e ∷ cs) = false

-- the number that they say
abbrev pub digits_say : List ℕ → ℕ
digits_say [] = 0
digits_say (c ∷ []) = c - 0x30
digits_say (c ∷ d ∷ cs) = 10 * (c - 0x30) + (d - 0x30)

-- the program's settings
abbrev pub program_config : ℕ → Config
program_config depth = record { max_depth = depth; allowance = 1000000; draw_winner = None; weights = default_weights }

-- of what stands before the last blank and after it: the depth's form, the position's text, the endgame analysis, and a search from no
-- responses with the table off
abbrev pub answering : List ℕ → List ℕ → List (Bool × ℕ)
answering text rest =
    let depth = digits_say rest in
    let g = game_for (read text) in
    let c = program_config depth in
    (one_or_two_digits rest, 19) ∷ (numbers (text_checks text (sections text)) ++ (analysing g ++ (
    (leb 1 depth && leb depth console.deepest, 15) ∷
    (leb (depth_1_enters empty_responses g c []) c.allowance, 18) ∷ [])))

-- the text reads as a position, and what is written is its status, number of legal moves, and the search's last completed depth, score,
-- positions entered and moves
abbrev pub Answered : List ℕ → ℕ → List ℕ → Type 0
Answered text depth written =
    (p : Position) × (read text ≡ reads p) × (let x = program_search depth p in
    written ≡ answer_text (analysis p).status (length (moves p)) x.depth x.score x.count x.pv)

-- `E` and the number of the first check that fails, or the answer. A line without a blank has no depth
pub record AnsweringLine (line written : List ℕ) : Type 0 where
  pub no_blank : T (not (elem 0x20 line)) → written ≡ refusal_text 19
  pub refused : (text rest : List ℕ) → line ≡ text ++ (0x20 ∷ rest) → T (not (elem 0x20 rest)) →
      (first_failed (answering text rest) ≡ 0 → ⊥) → written ≡ refusal_text (first_failed (answering text rest))
  pub answered : (text rest : List ℕ) → line ≡ text ++ (0x20 ∷ rest) → T (not (elem 0x20 rest)) →
      first_failed (answering text rest) ≡ 0 → Answered text (digits_say rest) written

-- ---- the demand: of what each entry point answers
-- asked of a text, the bytes of a line, a game, a move, a board and a cell, response tables, settings, and the lent words; words' are
-- these at the end
module _ (text line : List ℕ) (g : Game) (m : Move) (b c : ℕ) (memory : Minimax) (config : Config) (words words' : List ℕ) where
  pub record Demand1 (r : EntryAnswers) : Type 0 where
    pub position_text : ReadingPosition text r.read
    pub move_text : ReadingMove text r.read_move
    pub play : Playing g m r.played
    pub cell : LookingCell b c r.cell
    pub board : LookingBoard b r.board_state
    pub build : Building b c r.built
    pub evaluation : Evaluating config.weights r.evaluation
    pub endgame : Analysing g r.analysis
    pub move_status : JudgingMove g m r.move_status
    pub search : Searching memory g config words (report_of r.report words')
    pub program_line : AnsweringLine line (written_bytes r.line)

  -- and what each call answers where nothing is refused: the promise of the function called
  pub record EachCall (r : EntryAnswers) : Type 0 where
    pub parsed : Parses text r.read
    pub move_parsed : ParsesMove text r.read_move
    pub tried : Plays g m r.played
    pub looked_cell : r.cell ≡ within (in_range b c) ((position_of g).cells b c)
    pub looked_board : r.board_state ≡ within (ltb b 9) ((position_of g).states b)
    pub built : r.built ≡ within (in_range b c) (record { bits = move_of b c })
    pub valued : Evaluates (scoring_of config) g r.evaluation
    pub analysed : Analyses g r.analysis
    pub judged : Judges g m r.move_status
    pub searched : report_of r.report words' ≡ reported_of memory g config words
    pub answered : r.line ≡ text_of_bytes (asked_text (buffer_asks (pushed_all new_buffer line)))
