-- The numbers that bindings/c/ultimattt.h names: what a call returns, sizes, and the places of words with what stands there.
use Rattle.std.specs.Prelude.{◌≡◌, cond, List, ℕ, ◌+◌, ◌*◌, ◌<◌, get_or, drop}
use Rattle.theory.specs.Table.{to_word}
use Rattle.theory.specs.Deepening.{Stats}
use Rattle.theory.specs.Reported.{Reported, no_stats}

-- ---- numbers and sizes
abbrev pub BAD_ARGUMENT : ℕ
BAD_ARGUMENT = 255

abbrev pub POSITION : ℕ
POSITION = 12

abbrev pub FREE : ℕ
FREE = 256

abbrev pub NO_MOVE : ℕ
NO_MOVE = 0xff

abbrev pub TEXT : ℕ
TEXT = 101

abbrev pub RESPONSES : ℕ
RESPONSES = 512

-- ---- the places of settings' words
abbrev pub SETTINGS : ℕ
SETTINGS = 6

abbrev pub SETTINGS_DEPTH : ℕ
SETTINGS_DEPTH = 0

abbrev pub SETTINGS_ALLOWANCE : ℕ
SETTINGS_ALLOWANCE = 1

abbrev pub SETTINGS_DRAW_WINNER : ℕ
SETTINGS_DRAW_WINNER = 2

-- three weights
abbrev pub SETTINGS_WEIGHTS : ℕ
SETTINGS_WEIGHTS = 3

-- ---- the places among the weights
abbrev pub WEIGHTS : ℕ
WEIGHTS = 3

abbrev pub WEIGHTS_ONE : ℕ
WEIGHTS_ONE = 0

abbrev pub WEIGHTS_TWO : ℕ
WEIGHTS_TWO = 1

abbrev pub WEIGHTS_BOARD : ℕ
WEIGHTS_BOARD = 2

-- ---- the places of a report's words
abbrev pub REPORT : ℕ
REPORT = 655

abbrev pub NUMBER : ℕ
NUMBER = 0

abbrev pub STOPPED : ℕ
STOPPED = 1

abbrev pub DEPTH : ℕ
DEPTH = 2

abbrev pub SCORE : ℕ
SCORE = 3

abbrev pub COUNT : ℕ
COUNT = 4

abbrev pub ENDGAME_NUMBER : ℕ
ENDGAME_NUMBER = 5

abbrev pub STATUS : ℕ
STATUS = 6

-- 81 moves
abbrev pub LINE : ℕ
LINE = 7

-- of each depth seven words
abbrev pub STATS : ℕ
STATS = 88

-- ---- the places among the seven
abbrev pub STATS_DEPTH : ℕ
STATS_DEPTH = 0

abbrev pub STATS_SCORE : ℕ
STATS_SCORE = 1

abbrev pub STATS_VISITED : ℕ
STATS_VISITED = 2

abbrev pub STATS_TERMINAL : ℕ
STATS_TERMINAL = 3

abbrev pub STATS_CUTS : ℕ
STATS_CUTS = 4

abbrev pub STATS_TT_HIT : ℕ
STATS_TT_HIT = 5

abbrev pub STATS_TT_SUFFICE : ℕ
STATS_TT_SUFFICE = 6

abbrev pub STATS_WORDS : ℕ
STATS_WORDS = 7

-- ---- what stands there
pub record StatsLayout (words : List ℕ) (s : Stats) : Type 0 where
  pub depth_is : get_or words STATS_DEPTH 0 ≡ s.depth
  pub score_is : get_or words STATS_SCORE 0 ≡ to_word s.score
  pub visited_is : get_or words STATS_VISITED 0 ≡ s.tally.visited
  pub terminal_is : get_or words STATS_TERMINAL 0 ≡ s.tally.terminal
  pub cuts_is : get_or words STATS_CUTS 0 ≡ s.tally.cuts
  pub hits_is : get_or words STATS_TT_HIT 0 ≡ s.tally.tt_hit
  pub suffice_is : get_or words STATS_TT_SUFFICE 0 ≡ s.tally.tt_suffice

pub record ReportLayout (words : List ℕ) (x : Reported) (refusal status : ℕ) : Type 0 where
  pub number_is : get_or words NUMBER 0 ≡ x.number
  pub stopped_is : get_or words STOPPED 0 ≡ cond x.is_stopped 1 0
  pub depth_is : get_or words DEPTH 0 ≡ x.depth
  pub score_is : get_or words SCORE 0 ≡ to_word x.score
  pub count_is : get_or words COUNT 0 ≡ x.count
  pub endgame_number_is : get_or words ENDGAME_NUMBER 0 ≡ refusal
  pub status_is : get_or words STATUS 0 ≡ status
  pub line_is : (i : ℕ) → i < 81 → get_or words (LINE + i) 0 ≡ get_or x.pv i 0
  pub stats_are : (i : ℕ) → i < 81 → StatsLayout (drop (STATS + STATS_WORDS * i) words) (get_or x.stats i no_stats)
