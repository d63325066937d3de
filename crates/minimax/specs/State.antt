-- What the structs of the search mean, and what the search of a position gives.
use Rattle.std.specs.Prelude.{◌≡◌, List, ℕ, ◌-◌, ◌≤◌, ◌<◌, T, ℤ, take, drop, replicate, set, ◌≤ℤ◌, Option, None, Some}
use Rattle.rules.specs.Play.{board_of, no_move}
use Rattle.rules.specs.Evaluation.{accepted_weights, Scoring, scoring_with}
use Rattle.theory.specs.Limits.{console}
use Rattle.theory.specs.Game.{Game as Searched}
use Rattle.theory.specs.PlainMinimax.{lowest, highest}
use Rattle.theory.specs.Memory.{Memory}
use Rattle.theory.specs.OrderedSearch.{at_most, Outcome, stopped, found, unless_stopped, with_stored, candidates, over_moves, search}
use Rattle.boards.specs.declared.moves.Move.{Move}
use Rattle.game.specs.Meaning.{position_of}
use Rattle.evaluation.specs.declared.Values.{Values}
use Rattle.evaluation.specs.Values.{board_value, values_of}
use Rattle.order.specs.declared.NextMove.{NextMove}
use Rattle.order.specs.Order.{listed}
use Rattle.minimax.specs.declared.search.SearchState.{SearchState}
use Rattle.minimax.specs.declared.search.Pv.{Pv}
use Rattle.minimax.specs.declared.search.Node.{Node}
use Rattle.minimax.specs.Structs.{structs}
use Rattle.minimax.specs.Report.{bytes_of, responses_of, tally_of}

-- ---- the state
abbrev pub memory_of : SearchState → List ℕ → Memory
memory_of s words = record {
  count = s.count;
  tally = tally_of s.stats;
  responses = responses_of s.responses;
  table = words;
}

-- the first d places of a variation
abbrev pub pv_of : Pv → ℕ → List ℕ
pv_of l d = take d (bytes_of l.moves)

abbrev pub empty_pv : Pv
empty_pv = record { moves = replicate console.deepest (record { bits = no_move }) }

-- ---- nodes, and what was found at one
abbrev pub node_scoring : Node → Scoring
node_scoring a = scoring_with a.draw_winner a.values.weights

abbrev pub node_game : Node → Searched
node_game a = structs (node_scoring a)

-- a score, or none where the search was stopped; and the state, the variation and the table's words by then
abbrev pub outcome_of : Node → Option ℤ → SearchState → Pv → List ℕ → Outcome
outcome_of a None s l words = stopped (memory_of s words)
outcome_of a (Some score) s l words = found score (pv_of l a.depth) (memory_of s words)

-- the values after a move: its own board's anew
abbrev pub values_below : Node → NextMove → Values
values_below a child =
    let b = board_of child.m.bits in
    let w = a.values.weights in
    record { boards = set a.values.boards b (board_value w (position_of child.game) b); weights = w }

-- the definition's outcome
unfoldable pub node_outcome : Node → SearchState → Pv → List ℕ → Outcome
node_outcome a s l words =
    search (node_game a) (at_most a.allowance) a.depth a.game a.alpha a.beta (pv_of l a.depth) a.prev.bits
    (memory_of s words)

-- over the moves left: the lower edge by now, the variation, and that of the position below
unfoldable pub over_left : Node → List ℕ → ℤ → Pv → Pv → SearchState → List ℕ → Outcome
over_left a ms alpha l below s words =
    over_moves (node_game a) (search (node_game a) (at_most a.allowance) (a.depth - 1)) a.game a.beta a.prev.bits ms
    alpha (pv_of l a.depth) (pv_of below (a.depth - 1)) (memory_of s words)

-- over all moves, the table's move first
unfoldable pub over_all : Node → Option Move → SearchState → Pv → List ℕ → Outcome
over_all a first s l words =
    over_left a (candidates (node_game a) (listed first) (memory_of s words) a.game a.prev.bits (pv_of l a.depth))
    a.alpha l empty_pv s words

-- and the result stored
unfoldable pub then_stored : Node → Outcome → Outcome
then_stored a o = unless_stopped o
    (λ r pv s. found r pv (with_stored s ((node_game a).key a.game) a.depth a.alpha a.beta r pv))

-- ---- conditions
-- a score within the root's window
pub record Within (z : ℤ) : Type 0 where
  pub low : lowest ≤ℤ z
  pub high : z ≤ℤ highest

-- a depth at which moves are searched
abbrev pub Deep : ℕ → Type 0
Deep d = (0 < d) × (d ≤ console.deepest)

-- the values are those of the game's boards
abbrev pub Valued : Node → Type 0
Valued a = a.values.boards ≡ values_of a.values.weights (position_of a.game)

-- accepted weights, a depth of at most the deepest, a window within the root's, and an allowance that a count of 64 bits holds with room
pub record NodeFits (a : Node) : Type 0 where
  pub valued : Valued a
  pub weighted : T (accepted_weights a.values.weights)
  pub deep : a.depth ≤ console.deepest
  pub alpha_within : Within a.alpha
  pub beta_within : Within a.beta
  pub allowed : a.allowance ≤ console.positions

-- no count is beyond the positions entered, so none wraps
pub record Counted (a : Node) (s : SearchState) : Type 0 where
  pub within : s.count ≤ a.allowance
  pub visited_within : s.stats.visited ≤ s.count
  pub terminal_within : s.stats.terminal ≤ s.count
  pub cuts_within : s.stats.cuts ≤ s.count
  pub hits_within : s.stats.tt_hit ≤ s.count
  pub suffice_within : s.stats.tt_suffice ≤ s.count

-- a position that is entered and not answered
pub record Ready (a : Node) (s : SearchState) : Type 0 where
  pub deep : 0 < a.depth
  pub counted : Counted a s
  pub room : s.stats.cuts < s.count

-- ---- promises
-- from the variation l: the definition's outcome, and the variation's places from the depth on are as they were. Of a stopped search the
-- places before are free
pub record NodeGives (a : Node) (l : Pv) (r : Option ℤ) (s : SearchState) (pv : Pv) (words : List ℕ) (o : Outcome) : Type 0 where
  pub same : outcome_of a r s pv words ≡ o
  pub places : drop a.depth pv.moves ≡ drop a.depth l.moves
