-- A record's line: fields parted by tabs, which are the table's entries, the draw winner, the allowance, the responses at the start, and
-- three for each search: the position's text, the depth, the numbers. Each search begins with the memory that the one before left.
use Rattle.std.specs.Prelude.{Bool, cond, ◌&&◌, List, [], ◌∷◌, ℕ, zero, suc, ◌+◌, ◌-◌, ◌*◌, ◌/◌, ◌%◌, eqb, leb, length, replicate}
use Rattle.std.specs.Prelude.{Option, Some, None, option_map}
use Rattle.base.specs.Branch.{when◌then◌else◌}
use Rattle.rules.specs.declared.Player.{Player}
use Rattle.rules.specs.Board.{side_from}
use Rattle.rules.specs.Position.{Position}
use Rattle.rules.specs.Evaluation.{default_weights, scoring_with}
use Rattle.theory.specs.Limits.{console}
use Rattle.theory.specs.Memory.{Responses, no_responses, with_response}
use Rattle.theory.specs.Reported.{Settings, Reported, reported}
use Rattle.rules_game.specs.RulesGame.{game}
use Rattle.text.specs.Reading.{Reading, reads, refuses, read}
use Rattle.minimax.specs.declared.Minimax.{Minimax}
use Rattle.minimax.specs.Report.{responses_of}
use Rattle.decimals.specs.Numbers.{read_number}
use Rattle.decimals.specs.Lists.{list_of}
use Rattle.replay.specs.declared.totals.Comparison.{Comparison}
use Rattle.replay.specs.declared.totals.Comparison.TheVariants.{Agrees, Apart, Differs}
use Rattle.replay.specs.Fields.{field, tabs}
use Rattle.replay.specs.Draws.{draw_of}
use Rattle.replay.specs.Agreement.{same_numbers}
use Rattle.replay_search.specs.Records.{search_numbers}

-- the most numbers of a field
abbrev pub most_numbers : ℕ
most_numbers = 1024

-- ---- the responses at the start, three numbers each: the side that made the previous move (X 0), that move, the response
unfoldable pub with_responses : Responses → List ℕ → Responses
with_responses rs [] = rs
with_responses rs (side ∷ []) = rs
with_responses rs (side ∷ prev ∷ []) = rs
with_responses rs (side ∷ prev ∷ m ∷ ns) = with_responses (with_response rs (side_from side) (prev % 256) (m % 256)) ns

abbrev pub from_triples : Option (List ℕ) → Option Responses
from_triples None = None
from_triples (Some ns) = when eqb (length ns % 3) 0 then (λ _. Some (with_responses no_responses ns)) else λ _. None

-- none are given by an empty field
unfoldable pub start_of : List ℕ → Option Responses
start_of [] = Some no_responses
start_of (b ∷ bs) = from_triples (list_of most_numbers (b ∷ bs))

abbrev pub begun_of : Option Minimax → Option Responses
begun_of b = option_map (λ (m : Minimax). responses_of m.responses) b

-- ---- one search
-- what is reported, if the numbers say the same
unfoldable pub matching : List ℕ → Reported → Option Reported
matching ns r = when same_numbers ns (search_numbers r) then (λ _. Some r) else λ _. None

abbrev pub matching_search : Reading → Option ℕ → Option (List ℕ) → (Position → ℕ → Reported) → Option Reported
matching_search (refuses n offset size) depth ns search = None
matching_search (reads p) None ns search = None
matching_search (reads p) (Some depth) None search = None
matching_search (reads p) (Some depth) (Some ns) search = matching ns (search p depth)

-- a record's search, with its draw winner and allowance and the default weights
abbrev pub record_search : Option Player → ℕ → Responses → List ℕ → Position → ℕ → Reported
record_search w allowance rs words p depth =
    let c : Settings = record { max_depth = depth; allowance = allowance; weights = default_weights } in
    reported (game (scoring_with w default_weights)) c p rs words

module _ (line : List ℕ) (w : Option Player) (allowance : ℕ) where
  -- search k, from the memory before it: what is reported, if all can be read and the record says the same
  unfoldable pub search_of : ℕ → Responses → List ℕ → Option Reported
  search_of k rs words =
      matching_search (read (field (3 * k + 4) line)) (read_number (field (3 * k + 5) line)) (list_of most_numbers (field (3 * k + 6) line))
      (record_search w allowance rs words)

  abbrev pub going_on : Option Reported → (Reported → Comparison) → Comparison
  going_on None next = Differs
  going_on (Some r) next = next r

  -- n searches from search k on, with what is found so far. A refused one, 15 to 18, has document 01's answer
  unfoldable pub chain_of : ℕ → ℕ → Comparison → Responses → List ℕ → Comparison
  chain_of zero k so_far rs words = so_far
  chain_of (suc n) k so_far rs words =
      going_on (search_of k rs words) (λ r. chain_of n (k + 1) (cond (eqb r.number 0) so_far Apart) r.responses r.table)

-- ---- a line
abbrev pub for_number : Option ℕ → (ℕ → Comparison) → Comparison
for_number None next = Differs
for_number (Some n) next = next n

abbrev pub for_draw : Option (Option Player) → (Option Player → Comparison) → Comparison
for_draw None next = Differs
for_draw (Some w) next = next w

abbrev pub for_start : Option Responses → (Responses → Comparison) → Comparison
for_start None next = Differs
for_start (Some rs) next = next rs

-- n searches, with a table of so many words, all 0
unfoldable pub run_of : List ℕ → ℕ → ℕ → Comparison
run_of line n size =
    for_draw (draw_of (field 1 line)) (λ w. for_number (read_number (field 2 line)) (λ allowance.
    for_start (start_of (field 3 line)) (λ rs. chain_of line w allowance n 0 Agrees rs (replicate size 0))))

-- four fields, and three for each of 1 to 999 searches
abbrev pub has_searches : List ℕ → Bool
has_searches line = eqb (tabs line % 3) 0 && (leb 2 (tabs line / 3) && leb (tabs line / 3) 1000)

-- a program has room for one entry more than a search takes
abbrev pub table_room : ℕ
table_room = console.words + 3

-- with room for so many words
unfoldable pub outcome_of : ℕ → List ℕ → Comparison
outcome_of room line =
    when has_searches line then (λ _. for_number (read_number (field 0 line)) (λ entries.
    when leb (entries * 3) room then (λ _. run_of line (tabs line / 3 - 1) (entries * 3)) else λ _. Differs))
    else λ _. Differs
