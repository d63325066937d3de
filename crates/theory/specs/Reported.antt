-- The entry point of the search: its settings, what it refuses, and what it reports.
use Rattle.std.specs.Prelude.{Bool, false, ◌&&◌, List, [], ◌∷◌, ◌++◌, ℕ, ◌-◌, ◌%◌, eqb, leb, ℤ, pos, length, replicate}
use Rattle.base.specs.Branch.{when◌then◌else◌}
use Rattle.base.specs.Checks.{first_failed}
use Rattle.rules.specs.declared.Weights.{Weights}
use Rattle.rules.specs.Play.{no_move}
use Rattle.rules.specs.Evaluation.{accepted_weights}
use Rattle.theory.specs.Limits.{Limits, console}
use Rattle.theory.specs.Game.{Game}
use Rattle.theory.specs.Memory.{no_tally, Responses, fresh_memory}
use Rattle.theory.specs.OrderedSearch.{at_most}
use Rattle.theory.specs.Deepening.{Stats, SearchAnswer, analyze}

-- the weights are tested here; the game that is searched scores by them
pub record Settings : Type 0 where
  pub max_depth : ℕ
  pub allowance : ℕ
  pub weights : Weights

-- what is asked of the settings and of the number of the table's words, each with the number of its refusal, in order
abbrev pub entry_checks : Limits → Settings → ℕ → List (Bool × ℕ)
entry_checks l c words =
    (leb 1 c.max_depth && leb c.max_depth l.deepest, 15) ∷
    (leb 1 c.allowance && leb c.allowance l.positions, 16) ∷
    (eqb (words % 3) 0 && leb words l.words, 17) ∷
    (accepted_weights c.weights, 20) ∷ []

-- 0 where nothing is refused
unfoldable pub entry_refusal : Settings → ℕ → ℕ
entry_refusal c words = first_failed (entry_checks console c words)

pub record Reported : Type 0 where
  -- 15 to 18 or 20, or 0 where nothing is refused
  pub number : ℕ
  -- the allowance stopped the search
  pub is_stopped : Bool
  -- the last completed depth, with its score, variation and the stats of each depth to it; 0 where there is none
  pub depth : ℕ
  pub score : ℤ
  pub pv : List ℕ
  pub stats : List Stats
  -- positions entered, over all depths
  pub count : ℕ
  -- what is left of the response tables and the table
  pub responses : Responses
  pub table : List ℕ

abbrev pub no_stats : Stats
no_stats = record { depth = 0; score = pos 0; tally = no_tally }

-- as many places as the deepest search has, those after the last completed depth's empty
abbrev pub filled : {A : Type 0} → A → List A → List A
filled x xs = xs ++ replicate (console.deepest - length xs) x

-- refused at the entry: nothing is changed, and nothing is said
abbrev pub refused_entry : ℕ → Responses → List ℕ → Reported
refused_entry n rs words = record {
  number = n;
  is_stopped = false;
  depth = 0;
  score = pos 0;
  pv = replicate console.deepest no_move;
  stats = replicate console.deepest no_stats;
  count = 0;
  responses = rs;
  table = words;
}

module _ (G : Game) where
  -- of a search of p. 18: the allowance was spent inside depth 1
  abbrev pub report : G.Pos → SearchAnswer → Reported
  report p x = record {
    number = when x.is_stopped && eqb x.completed.depth 0 then (λ _. 18) else λ _. 0;
    is_stopped = x.is_stopped;
    depth = x.completed.depth;
    score = x.completed.score;
    pv = filled no_move x.completed.pv;
    stats = filled no_stats x.completed.stats;
    count = x.memory.count;
    responses = x.memory.responses;
    table = x.memory.table;
  }

  unfoldable pub reported : Settings → G.Pos → Responses → List ℕ → Reported
  reported c p rs words =
      let n = entry_refusal c (length words) in
      when eqb n 0 then (λ _. report p (analyze G (at_most c.allowance) c.max_depth p (fresh_memory rs words)))
      else λ _. refused_entry n rs words
