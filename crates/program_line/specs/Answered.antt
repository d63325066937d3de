-- The answer to a line, over the written rules alone: 19 first, then the position's refusals, the endgame's, the search's.
use Rattle.std.specs.Prelude.{List, [], ℕ, eqb, length}
use Rattle.base.specs.Branch.{when◌then◌else◌}
use Rattle.rules.specs.Position.{Position}
use Rattle.rules.specs.Moves.{moves}
use Rattle.rules.specs.Status.{Status}
use Rattle.rules.specs.Endgame.{analysis}
use Rattle.rules.specs.Evaluation.{default_weights, Scoring, no_draw_winner}
use Rattle.theory.specs.Memory.{no_responses}
use Rattle.theory.specs.Reported.{Settings, Reported, reported}
use Rattle.rules_game.specs.RulesGame.{game}
use Rattle.text.specs.Reading.{Reading, reads, refuses, read}
use Rattle.text.specs.ProgramLine.{Question, no_depth, asks, asked, answer_text, refusal_text}

-- ---- the program's search: no draw winner, the default weights, no responses yet, the table off
abbrev pub settings : ℕ → Settings
settings depth = record { max_depth = depth; allowance = 1000000; weights = default_weights }

abbrev pub program_scoring : Scoring
program_scoring = no_draw_winner default_weights

abbrev pub program_search : ℕ → Position → Reported
program_search depth p = reported (game program_scoring) (settings depth) p no_responses []

-- ---- the answer
-- 15 or 18; else what is reported, with the status and the number of legal moves
unfoldable pub report_text : Status → ℕ → Reported → List ℕ
report_text s legal r =
    when eqb r.number 0 then (λ _. answer_text s legal r.depth r.score r.count r.pv) else
    λ _. refusal_text r.number

-- 14 comes before the search
unfoldable pub position_text : Position → ℕ → List ℕ
position_text p depth =
    let a = analysis p in
    when eqb a.refusal 0 then (λ _. report_text a.status (length (moves p)) (program_search depth p)) else
    λ _. refusal_text a.refusal

-- 1 to 6
abbrev pub reading_text : Reading → ℕ → List ℕ
reading_text (reads p) depth = position_text p depth
reading_text (refuses n offset size) depth = refusal_text n

abbrev pub asked_text : Question → List ℕ
asked_text no_depth = refusal_text 19
asked_text (asks text depth) = reading_text (read text) depth

-- of the bytes of a line without its line feed
abbrev pub answer_line : List ℕ → List ℕ
answer_line line = asked_text (asked line)
