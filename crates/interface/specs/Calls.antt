-- What each call promises of what it returns and of the lent slices at exit, from their bytes and words at entry.
use Rattle.std.specs.Prelude.{◌≡◌, Bool, cond, ◌&&◌, List, [], ◌∷◌, ◌++◌, ℕ, leb, length, take, drop}
use Rattle.base.specs.Branch.{when◌then◌else◌}
use Rattle.rules.specs.Status.{as_byte}
use Rattle.rules.specs.Endgame.{analysis}
use Rattle.rules.specs.Evaluation.{Evaluated, scoring_with, evaluated}
use Rattle.theory.specs.Table.{to_word}
use Rattle.theory.specs.Memory.{Responses}
use Rattle.theory.specs.Deepening.{Stats}
use Rattle.theory.specs.Reported.{Reported, reported}
use Rattle.text.specs.Reading.{Reading, reads, refuses, text_refusal, read}
use Rattle.text.specs.Writing.{text_of}
use Rattle.game.specs.declared.Game.{Game}
use Rattle.game.specs.Meaning.{position_of}
use Rattle.game.specs.Built.{new_game}
use Rattle.game.specs.After.{games_after, answers_each}
use Rattle.notation.specs.Parsed.{game_for}
use Rattle.minimax.specs.Structs.{structs}
use Rattle.program_line.specs.Answered.{answer_line}
use Rattle.interface.specs.Lent.{returned, left}
use Rattle.interface.specs.Position.{words_of, game_from, is_position}
use Rattle.interface.specs.Settings.{draws_from, weights_from, settings_from, scoring_from, settings_ok}

-- ---- ultimattt_answer: the program's answer to a line
module _ (line out : List ℕ) where
  pub record Answers (out_after : List ℕ) (r : ℕ) : Type 0 where
    pub returns : r ≡ length (answer_line line)
    pub out_is : out_after ≡ left (leb (length (answer_line line)) (length out)) (answer_line line) out

-- ---- ultimattt_new: the empty board
pub record Starts (position position_after : List ℕ) (r : ℕ) : Type 0 where
  pub returns : r ≡ returned (leb 12 (length position)) 0
  pub position_is : position_after ≡ left (leb 12 (length position)) (words_of new_game) position

-- ---- ultimattt_read: a text, as a position
abbrev pub read_place : Reading → List ℕ
read_place (reads p) = 0 ∷ 0 ∷ []
read_place (refuses n offset size) = offset ∷ size ∷ []

module _ (text position place : List ℕ) where
  abbrev pub read_ok : Bool
  read_ok = leb 12 (length position) && leb 2 (length place)

  pub record ReadsPosition (position_after place_after : List ℕ) (r : ℕ) : Type 0 where
    pub returns : r ≡ returned read_ok (text_refusal (read text))
    pub position_is : position_after ≡ left read_ok (words_of (game_for (read text))) position
    pub place_is : place_after ≡ left read_ok (read_place (read text)) place

-- ---- ultimattt_render: a position, as a text
module _ (position out : List ℕ) where
  abbrev pub render_ok : Bool
  render_ok = is_position position && leb 101 (length out)

  pub record Renders (out_after : List ℕ) (r : ℕ) : Type 0 where
    pub returns : r ≡ returned render_ok 0
    pub out_is : out_after ≡ left render_ok (text_of (position_of (game_from position))) out

-- ---- ultimattt_play: moves, tried one after the other; each is answered by 9 to 13, or by 0 where it is played
module _ (position moves answers : List ℕ) where
  abbrev pub play_ok : Bool
  play_ok = is_position position && leb (length moves) (length answers)

  pub record PlaysAll (position_after answers_after : List ℕ) (r : ℕ) : Type 0 where
    pub returns : r ≡ returned play_ok 0
    pub position_is : position_after ≡ left play_ok (words_of (games_after (game_from position) moves)) position
    pub answers_is : answers_after ≡ left play_ok (answers_each (game_from position) moves) answers

-- ---- ultimattt_analyze: endgame analysis and search after tried moves
-- the response tables as bytes: to X's moves, then to O's
abbrev pub responses_from : List ℕ → Responses
responses_from bytes = record { to_x = take 256 bytes; to_o = take 256 (drop 256 bytes) }

abbrev pub responses_bytes : Responses → List ℕ
responses_bytes rs = rs.to_x ++ rs.to_o

abbrev pub stats_words : Stats → List ℕ
stats_words s =
    s.depth ∷ to_word s.score ∷ s.tally.visited ∷ s.tally.terminal ∷ s.tally.cuts ∷ s.tally.tt_hit ∷
    s.tally.tt_suffice ∷ []

unfoldable pub all_stats : List Stats → List ℕ
all_stats [] = []
all_stats (s ∷ ss) = stats_words s ++ all_stats ss

-- of the search, and of the endgame analysis, by its number and its status byte
abbrev pub head_words : Reported → ℕ → ℕ → List ℕ
head_words x refusal status =
    x.number ∷ cond x.is_stopped 1 0 ∷ x.depth ∷ to_word x.score ∷ x.count ∷ refusal ∷ status ∷ []

-- then the line's moves, and seven words for each depth
abbrev pub report_words : Reported → ℕ → ℕ → List ℕ
report_words x refusal status = head_words x refusal status ++ (x.pv ++ all_stats x.stats)

module _ (position moves settings responses words report : List ℕ) where
  abbrev pub analyze_ok : Bool
  analyze_ok = is_position position && (settings_ok settings && (leb 512 (length responses) && leb 655 (length report)))

  abbrev pub analysed : Game
  analysed = games_after (game_from position) moves

  abbrev pub found : Reported
  found = reported (structs (scoring_from settings)) (settings_from settings) analysed (responses_from responses) words

  pub record Analyzes (responses_after words_after report_after : List ℕ) (r : ℕ) : Type 0 where
    pub returns : r ≡ returned analyze_ok found.number
    pub responses_is : responses_after ≡ left analyze_ok (responses_bytes found.responses) responses
    pub words_is : words_after ≡ (when analyze_ok then (λ _. found.table) else λ _. words)
    pub report_is :
        report_after ≡ left analyze_ok (report_words found (analysis (position_of analysed)).refusal
        (as_byte (analysis (position_of analysed)).status)) report

-- ---- ultimattt_evaluate: the evaluation alone
module _ (position : List ℕ) (draws : ℕ) (weights score : List ℕ) where
  abbrev pub evaluate_ok : Bool
  evaluate_ok = is_position position && (leb draws 2 && (leb 3 (length weights) && leb 1 (length score)))

  abbrev pub valued : Evaluated
  valued = evaluated (scoring_with (draws_from draws) (weights_from weights)) (position_of (game_from position))

  pub record EvaluatesPosition (score_after : List ℕ) (r : ℕ) : Type 0 where
    pub returns : r ≡ returned evaluate_ok valued.refusal
    pub score_is : score_after ≡ left evaluate_ok (to_word valued.value ∷ []) score
