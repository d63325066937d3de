-- What `analyze` is given and answers: each struct of its entry point as the definition's value.
use Rattle.std.specs.Prelude.{Bool, true, false, List, map, ℕ, replicate}
use Rattle.rules.specs.Play.{no_move}
use Rattle.rules.specs.Evaluation.{Scoring, scoring_with}
use Rattle.theory.specs.Memory.{Responses, Tally, fresh_memory, counts}
use Rattle.theory.specs.OrderedSearch.{at_most}
use Rattle.theory.specs.Deepening.{Stats as Meant, SearchAnswer, analyze}
use Rattle.theory.specs.Reported.{Settings, Reported, reported}
use Rattle.boards.specs.declared.moves.Move.{Move}
use Rattle.game.specs.declared.Game.{Game}
use Rattle.minimax.specs.declared.ResponseTables.{ResponseTables}
use Rattle.minimax.specs.declared.Stats.{Stats}
use Rattle.minimax.specs.declared.Config.{Config}
use Rattle.minimax.specs.declared.Minimax.{Minimax}
use Rattle.minimax.specs.declared.SearchError.{SearchError}
use Rattle.minimax.specs.declared.SearchError.TheVariants.{Depth, Allowance, Words, Weights, Spent}
use Rattle.minimax.specs.declared.Ending.{Ending}
use Rattle.minimax.specs.declared.Ending.TheVariants.{Whole as EndsWhole, Stopped, Refused}
use Rattle.minimax.specs.declared.Report.{Report}
use Rattle.minimax.specs.Structs.{structs}

-- ---- moves and response tables
abbrev pub byte_of : Move → ℕ
byte_of m = m.bits

abbrev pub bytes_of : List Move → List ℕ
bytes_of ms = map byte_of ms

abbrev pub responses_of : ResponseTables → Responses
responses_of t = record { to_x = bytes_of t.x; to_o = bytes_of t.o }

-- ---- the refusals' numbers
abbrev pub search_error_number : SearchError → ℕ
search_error_number Depth = 15
search_error_number Allowance = 16
search_error_number Words = 17
search_error_number Weights = 20
search_error_number Spent = 18

abbrev pub ending_number : Ending → ℕ
ending_number EndsWhole = 0
ending_number Stopped = 0
ending_number (Refused e) = search_error_number e

-- the allowance stopped the search: with a completed depth, or, which is 18, without one
abbrev pub is_spent : SearchError → Bool
is_spent Depth = false
is_spent Allowance = false
is_spent Words = false
is_spent Weights = false
is_spent Spent = true

abbrev pub ending_stopped : Ending → Bool
ending_stopped EndsWhole = false
ending_stopped Stopped = true
ending_stopped (Refused e) = is_spent e

-- ---- settings, and what is reported
abbrev pub tally_of : Stats → Tally
tally_of s = counts s.visited s.terminal s.cuts s.tt_hit s.tt_suffice

abbrev pub stats_of : Stats → Meant
stats_of s = record { depth = s.depth; score = s.score; tally = tally_of s }

abbrev pub settings_of : Config → Settings
settings_of c = record { max_depth = c.max_depth; allowance = c.allowance; weights = c.weights }

abbrev pub scoring_of : Config → Scoring
scoring_of c = scoring_with c.draw_winner c.weights

abbrev pub report_of : Report → List ℕ → Reported
report_of r words = record {
  number = ending_number r.ending;
  is_stopped = ending_stopped r.ending;
  depth = r.depth;
  score = r.score;
  pv = bytes_of r.pv;
  stats = map stats_of r.stats;
  count = r.count;
  responses = responses_of r.state.responses;
  table = words;
}

-- no move has a response
abbrev pub empty_responses : Minimax
empty_responses = let none : List Move = replicate 256 (record { bits = no_move }) in record { responses = record { x = none; o = none } }

-- the definition's answer and report, of a game as a struct
abbrev pub answer_of : Minimax → Game → Config → List ℕ → SearchAnswer
answer_of m g c words =
    analyze (structs (scoring_of c)) (at_most c.allowance) c.max_depth g (fresh_memory (responses_of m.responses) words)

abbrev pub reported_of : Minimax → Game → Config → List ℕ → Reported
reported_of m g c words = reported (structs (scoring_of c)) (settings_of c) g (responses_of m.responses) words
