-- A report's words stand where the header says: of every report, of what a call of ultimattt_analyze leaves, and of one whose words are
-- all written out; the words of a position and of settings; and the other numbers that the header names or tells.
use Rattle.std.specs.Prelude.{None, Some}
use mathlib.Core.Path.{◌≡◌, refl, sym, ap, ◌∙◌, subst}
use mathlib.Core.Bool.{Bool, true, false}
use mathlib.Core.List.{List, [], ◌∷◌, ◌++◌, append_assoc}
use Prim.Native.Nat.{ℕ, zero, suc, ◌+◌, ◌*◌, ◌<◌}
use native.Mathlib.Omega.{arith}
use lib.IntN.{pos, negsuc}
use lib.ListN.{length, get_or, drop, replicate, get_or-append}
use lib.Seq.{drop-append-add, get_or-append-add}
use Rattle.base.specs.Branch.{when◌then◌else◌}
use Rattle.base.specs.Bits.{bit}
use Rattle.base.specs.Integers.{sum}
use Rattle.boards.specs.Packed.{cell_at, state_at}
use Rattle.rules.specs.declared.Player.TheVariants.{X, O}
use Rattle.rules.specs.declared.GameState.TheVariants.{Won}
use Rattle.rules.specs.Position.{start}
use Rattle.rules.specs.Play.{no_move}
use Rattle.rules.specs.Status.{as_byte}
use Rattle.rules.specs.Evaluation.{won, lost, accepted_weights, places_in, unless_both, board_line, board_score, overall_line, score}
use Rattle.rules.specs.Evaluation.{evaluate, evaluated}
use Rattle.rules.specs.Endgame.{analysis}
use Rattle.text.specs.Reading.{refuses}
use Rattle.text.specs.Writing.{text_of}
use Rattle.text.proofs.Writing.{text_has_101_bytes}
use Rattle.theory.specs.Memory.{Responses, counts, no_responses}
use Rattle.theory.specs.Deepening.{Stats}
use Rattle.theory.specs.Reported.{Reported, no_stats}
use Rattle.theory.proofs.ReportedPlaces.{reported_places}
use Rattle.game.specs.declared.Game.{Game}
use Rattle.game.specs.Meaning.{position_of}
use Rattle.minimax.specs.Structs.{structs}
use Rattle.interface.specs.Lent.{bad_argument, left}
use Rattle.interface.specs.Position.{next_board_word, words_of, game_from, all_within}
use Rattle.interface.specs.Calls.{read_place, responses_from, responses_bytes, stats_words, all_stats}
use Rattle.interface.specs.Calls.{head_words, report_words, analyze_ok, analysed, found, Analyzes, evaluate_ok, valued}
use Rattle.interface.specs.Settings.{draws_from, weights_from, settings_from, scoring_from, settings_ok}
use Rattle.interface.specs.Header.{BAD_ARGUMENT, POSITION, FREE, NO_MOVE, TEXT, RESPONSES, REPORT, STATS, STATS_WORDS}
use Rattle.interface.specs.Header.{SETTINGS, SETTINGS_DEPTH, SETTINGS_ALLOWANCE, SETTINGS_DRAW_WINNER, SETTINGS_WEIGHTS}
use Rattle.interface.specs.Header.{WEIGHTS, WEIGHTS_ONE, WEIGHTS_TWO, WEIGHTS_BOARD}
use Rattle.interface.specs.Header.{StatsLayout, ReportLayout}

-- ---- of every report, whatever follows it
-- the words of depth i begin after those of the depths before it
depth_words : (ss : List Stats) (rest : List ℕ) (i : ℕ) → i < length ss →
    StatsLayout (drop (7 * i) (all_stats ss ++ rest)) (get_or ss i no_stats)
unfolding all_stats
depth_words [] rest i h = absurd (omega arith)
depth_words (s ∷ ss) rest zero h = record {
  depth_is = refl;
  score_is = refl;
  visited_is = refl;
  terminal_is = refl;
  cuts_is = refl;
  hits_is = refl;
  suffice_is = refl;
}
depth_words (s ∷ ss) rest (suc i) h =
    let e : 7 * suc i ≡ length (stats_words s) + 7 * i = omega arith in
    subst (λ (l : List ℕ). StatsLayout l (get_or ss i no_stats))
    (sym (ap (λ (n : ℕ). drop n (all_stats (s ∷ ss) ++ rest)) e ∙ drop-append-add (stats_words s) (all_stats ss ++ rest) (7 * i)))
    (depth_words ss rest i (omega arith))

module _ (x : Reported) (refusal status : ℕ) (rest : List ℕ) (moves : length x.pv ≡ 81) (depths : length x.stats ≡ 81) where
  abbrev after_head : List ℕ
  after_head = x.pv ++ (all_stats x.stats ++ rest)

  parted : report_words x refusal status ++ rest ≡ head_words x refusal status ++ after_head
  parted = ap (λ (l : List ℕ). head_words x refusal status ++ l) (append_assoc x.pv (all_stats x.stats) rest)

  after_moves : (i : ℕ) → drop (STATS + STATS_WORDS * i) (head_words x refusal status ++ after_head)
      ≡ drop (7 * i) (all_stats x.stats ++ rest)
  after_moves i =
      let e : STATS + STATS_WORDS * i ≡ length (head_words x refusal status) + (length x.pv + 7 * i) = omega arith in
      ap (λ (n : ℕ). drop n (head_words x refusal status ++ after_head)) e
      ∙ drop-append-add (head_words x refusal status) after_head (length x.pv + 7 * i)
      ∙ drop-append-add x.pv (all_stats x.stats ++ rest) (7 * i)

  pub laid_out : ReportLayout (report_words x refusal status ++ rest) x refusal status
  laid_out = subst (λ (ws : List ℕ). ReportLayout ws x refusal status) (sym parted) (record {
    number_is = refl;
    stopped_is = refl;
    depth_is = refl;
    score_is = refl;
    count_is = refl;
    endgame_number_is = refl;
    status_is = refl;
    line_is = λ i h.
        get_or-append-add (head_words x refusal status) after_head i 0
        ∙ get_or-append x.pv (all_stats x.stats ++ rest) 0 i (omega arith);
    stats_are = λ i h. subst (λ (l : List ℕ). StatsLayout l (get_or x.stats i no_stats)) (sym (after_moves i))
        (depth_words x.stats rest i (omega arith));
  })

-- ---- of what a call leaves
module _ (position moves settings responses words report : List ℕ) where
  abbrev g : Game
  g = analysed position moves settings responses words report

  abbrev x : Reported
  x = found position moves settings responses words report

  abbrev refusal : ℕ
  refusal = (analysis (position_of g)).refusal

  abbrev status : ℕ
  status = as_byte (analysis (position_of g)).status

  -- asked rightly: the search's report, and the endgame analysis by its number and its status byte
  pub report_laid_out : (responses_after words_after report_after : List ℕ) (r : ℕ) →
      Analyzes position moves settings responses words report responses_after words_after report_after r →
      analyze_ok position moves settings responses words report ≡ true → ReportLayout report_after x refusal status
  unfolding left when◌then◌else◌
  report_laid_out responses_after words_after report_after r a ok =
      let all = report_words x refusal status in
      let long = reported_places (structs (scoring_from settings)) (settings_from settings) g (responses_from responses) words in
      subst (λ (ws : List ℕ). ReportLayout ws x refusal status) (sym (a.report_is ∙ ap (λ (b : Bool). left b all report) ok))
      (laid_out x refusal status (drop (length all) report) long.0 long.1)

-- ---- of one, in which no two fields are alike
abbrev sample : Reported
sample = record {
  number = 18;
  is_stopped = true;
  depth = 2;
  score = negsuc 2;
  pv = 0x40 ∷ 0x08 ∷ replicate 79 no_move;
  stats =
      record { depth = 3; score = pos 6; tally = counts 7 8 9 10 11 } ∷
      record { depth = 12; score = negsuc 12; tally = counts 15 16 17 19 20 } ∷ replicate 79 no_stats;
  count = 4;
  responses = no_responses;
  table = [];
}

-- number, stopped, depth, score, count, endgame number, status; 81 moves; of each depth depth, score, visited, terminal, cuts, tt_hit
-- and tt_suffice
pub sample_words : report_words sample 14 5
    ≡ 18 ∷ 1 ∷ 2 ∷ 18446744073709551613 ∷ 4 ∷ 14 ∷ 5 ∷
    0x40 ∷ 0x08 ∷ (replicate 79 255 ++
    (3 ∷ 6 ∷ 7 ∷ 8 ∷ 9 ∷ 10 ∷ 11 ∷
    12 ∷ 18446744073709551603 ∷ 15 ∷ 16 ∷ 17 ∷ 19 ∷ 20 ∷ replicate 553 0))
unfolding all_stats
sample_words = refl

-- ---- of a position, in which no two fields are alike
abbrev sample_game : Game
sample_game = record {
  next_player = O;
  next_board = Some 8;
  local_boards = record { rows = record { x = 10; o = 11 } ∷ record { x = 12; o = 13 } ∷ record { x = 14; o = 15 } ∷ [] };
  global_states = record { x = 16; o = 17 };
  game_state = Won O;
  hash = 18;
}

-- three rows of x and o, the states' x and o, side, next board, state, hash
pub sample_position_words : words_of sample_game
    ≡ 10 ∷ 11 ∷ 12 ∷ 13 ∷ 14 ∷ 15 ∷ 16 ∷ 17 ∷ 1 ∷ 8 ∷ 3 ∷ 18 ∷ []
sample_position_words = refl

-- ---- of settings, in which no two words are alike
abbrev sample_settings : List ℕ
sample_settings = 10 ∷ 11 ∷ 2 ∷ 13 ∷ 14 ∷ 15 ∷ []

abbrev sample_weights : List ℕ
sample_weights = 13 ∷ 14 ∷ 15 ∷ []

-- depth, allowance, draw winner, and the weights of one place, of two, and of a won board; a word less, or another draw winner, is refused
pub record SettingsLayout : Type 0 where
  pub settings_are : settings_from sample_settings
      ≡ record { max_depth = 10; allowance = 11; weights = record { one = 13; two = 14; board = 15 } }
  pub scoring_is : scoring_from sample_settings ≡ record { draws = Some O; weights = record { one = 13; two = 14; board = 15 } }
  pub depth_is : get_or sample_settings SETTINGS_DEPTH 0 ≡ 10
  pub allowance_is : get_or sample_settings SETTINGS_ALLOWANCE 0 ≡ 11
  pub draw_winner_is : get_or sample_settings SETTINGS_DRAW_WINNER 0 ≡ 2
  pub one_is : get_or sample_settings (SETTINGS_WEIGHTS + WEIGHTS_ONE) 0 ≡ 13
  pub two_is : get_or sample_settings (SETTINGS_WEIGHTS + WEIGHTS_TWO) 0 ≡ 14
  pub board_is : get_or sample_settings (SETTINGS_WEIGHTS + WEIGHTS_BOARD) 0 ≡ 15
  pub accepted : settings_ok sample_settings ≡ true
  pub longer : settings_ok (10 ∷ 11 ∷ 2 ∷ 13 ∷ 14 ∷ 15 ∷ 16 ∷ []) ≡ true
  pub too_few : settings_ok (10 ∷ 11 ∷ 2 ∷ 13 ∷ 14 ∷ []) ≡ false
  pub other_draw_winner : settings_ok (10 ∷ 11 ∷ 3 ∷ 13 ∷ 14 ∷ 15 ∷ []) ≡ false
  -- a weight is its word, whatever that holds
  pub weights_are : weights_from (1001 ∷ 65537 ∷ 18446744073709551615 ∷ [])
      ≡ record { one = 1001; two = 65537; board = 18446744073709551615 }
  pub weight_one_is : get_or sample_weights WEIGHTS_ONE 0 ≡ 13
  pub weight_two_is : get_or sample_weights WEIGHTS_TWO 0 ≡ 14
  pub weight_board_is : get_or sample_weights WEIGHTS_BOARD 0 ≡ 15
  -- and of the evaluation's arguments
  pub evaluate_accepted : evaluate_ok (words_of sample_game) 2 sample_weights (0 ∷ []) ≡ true
  pub no_draw_winner : evaluate_ok (words_of sample_game) 3 sample_weights (0 ∷ []) ≡ false
  pub too_few_weights : evaluate_ok (words_of sample_game) 2 (13 ∷ 14 ∷ []) (0 ∷ []) ≡ false
  pub no_place : evaluate_ok (words_of sample_game) 2 sample_weights [] ≡ false

pub sample_settings_are : SettingsLayout
unfolding all_within
sample_settings_are = record {
  settings_are = refl;
  scoring_is = refl;
  depth_is = refl;
  allowance_is = refl;
  draw_winner_is = refl;
  one_is = refl;
  two_is = refl;
  board_is = refl;
  accepted = refl;
  longer = refl;
  too_few = refl;
  other_draw_winner = refl;
  weights_are = refl;
  weight_one_is = refl;
  weight_two_is = refl;
  weight_board_is = refl;
  evaluate_accepted = refl;
  no_draw_winner = refl;
  too_few_weights = refl;
  no_place = refl;
}

-- ---- of an evaluation
-- X has won board 0 and has cells 0 and 1 of board 4; a drawn game
abbrev two_and_a_board : ℕ → List ℕ
two_and_a_board turn = 0 ∷ 0 ∷ 1536 ∷ 0 ∷ 0 ∷ 0 ∷ 1 ∷ 0 ∷ turn ∷ 256 ∷ 0 ∷ 0 ∷ []

abbrev drawn_words : List ℕ
drawn_words = 0 ∷ 0 ∷ 0 ∷ 0 ∷ 0 ∷ 0 ∷ 0 ∷ 0 ∷ 0 ∷ 256 ∷ 1 ∷ 0 ∷ []

pub sample_evaluations : let weights : List ℕ = 5 ∷ 70 ∷ 900 ∷ [] in
    (valued (two_and_a_board 0) 0 weights [] ≡ record { refusal = 0; value = pos 3040 })
    × (valued (two_and_a_board 1) 0 weights [] ≡ record { refusal = 0; value = negsuc 3039 })
    × (valued drawn_words 0 weights [] ≡ record { refusal = 0; value = pos 0 })
    × (valued drawn_words 1 weights [] ≡ record { refusal = 0; value = won })
    × (valued drawn_words 2 weights [] ≡ record { refusal = 0; value = lost })
unfolding game_from evaluated accepted_weights evaluate score board_score sum places_in unless_both board_line overall_line when◌then◌else◌
    cell_at state_at bit
sample_evaluations = (refl, refl, refl, refl, refl)

-- ---- the header's numbers are the definitions'
pub header_numbers : (bad_argument ≡ BAD_ARGUMENT) × (length (words_of sample_game) ≡ POSITION) × (next_board_word None ≡ FREE)
    × (no_move ≡ NO_MOVE) × (length (text_of start) ≡ TEXT) × (length (responses_bytes no_responses) ≡ RESPONSES)
    × (length sample_settings ≡ SETTINGS) × (length (drop SETTINGS_WEIGHTS sample_settings) ≡ WEIGHTS)
    × (length (report_words sample 14 5) ≡ REPORT)
unfolding all_stats
header_numbers = (refl, refl, refl, refl, text_has_101_bytes start, refl, refl, refl, refl)

-- ---- what the header tells of arguments
-- for whom a drawn game counts as won
pub draw_winners : (draws_from 0 ≡ None) × (draws_from 1 ≡ Some X) × (draws_from 2 ≡ Some O)
draw_winners = (refl, refl, refl)

-- offset, then length
pub sample_place : read_place (refuses 5 2 1) ≡ 2 ∷ 1 ∷ []
sample_place = refl

-- to X's moves, then to O's
pub sample_responses : let rs : Responses = record { to_x = replicate 256 1; to_o = replicate 256 2 } in
    (responses_bytes rs ≡ replicate 256 1 ++ replicate 256 2) × (responses_from (replicate 256 1 ++ replicate 256 2) ≡ rs)
sample_responses = (refl, refl)
