-- What is claimed of every search's report: the stats of its depths, what a stop leaves, and a position without a move.
use Rattle.std.specs.Prelude.{◌≡◌, not, List, [], ℕ, suc, ◌≤◌, ◌<◌, T, neg_ℤ, pos, length, get_or, replicate, None}
use Rattle.rules.specs.Position.{unfinished}
use Rattle.rules.specs.Play.{no_move}
use Rattle.rules.specs.Moves.{moves}
use Rattle.rules.specs.Hash.{with_turn}
use Rattle.theory.specs.Limits.{console}
use Rattle.theory.specs.Table.{look_up}
use Rattle.theory.specs.Memory.{fresh_memory}
use Rattle.theory.specs.OrderedSearch.{unlimited}
use Rattle.theory.specs.Deepening.{visited_in, analyze}
use Rattle.theory.specs.Reported.{Reported, entry_refusal, no_stats, report}
use Rattle.game.specs.declared.Game.{Game}
use Rattle.game.specs.Meaning.{position_of}
use Rattle.minimax.specs.declared.Minimax.{Minimax}
use Rattle.minimax.specs.declared.Config.{Config}
use Rattle.minimax.specs.declared.Report.{Report}
use Rattle.minimax.specs.Structs.{structs}
use Rattle.minimax.specs.Report.{responses_of, scoring_of, settings_of, report_of, reported_of}

-- ---- the stats, of which the first place is depth 1's
-- x is what is reported
pub record StatsByDepth (x : Reported) : Type 0 where
  -- one for each completed depth, in order, and then empty places
  pub each_depth : (i : ℕ) → i < x.depth → (get_or x.stats i no_stats).depth ≡ suc i
  pub none_after : (i : ℕ) → x.depth ≤ i → get_or x.stats i no_stats ≡ no_stats
  -- the last one's score is the report's
  pub last_score : (i : ℕ) → x.depth ≡ suc i → (get_or x.stats i no_stats).score ≡ x.score
  -- unless the search was stopped, each position entered is some depth's
  pub all_visited : T (not x.is_stopped) → visited_in x.stats ≡ x.count

module _ (m : Minimax) (g : Game) (c : Config) (words : List ℕ) where
  -- ---- stopped by the allowance
  -- the report of the same search to a depth, with no allowance to stop it
  abbrev pub limited_to : ℕ → Reported
  limited_to d =
      let G = structs (scoring_of c) in
      report G g (analyze G unlimited d g (fresh_memory (responses_of m.responses) words))

  -- all that is allowed was entered, and what is said is the last completed depth's
  pub record StoppedReport (x : Reported) : Type 0 where
    pub count : x.count ≡ c.allowance
    pub shallower : x.depth < c.max_depth
    pub score : x.score ≡ (limited_to x.depth).score
    pub pv : x.pv ≡ (limited_to x.depth).pv
    pub stats : x.stats ≡ (limited_to x.depth).stats
    -- the allowance covers that depth, and not the next
    pub fits : (limited_to x.depth).count ≤ c.allowance
    pub next_too_many : c.allowance < (limited_to (suc x.depth)).count

  -- ---- an accepted search of an unfinished game in which no move is legal, and of which the table has no entry
  pub record NoLegalMove : Type 0 where
    pub accepted : entry_refusal (settings_of c) (length words) ≡ 0
    pub goes_on : T (unfinished (position_of g))
    pub none_listed : moves (position_of g) ≡ []
    pub no_entry : look_up words (with_turn (position_of g) g.hash) ≡ None

  -- the lower edge of the root's window, -2^60 - 1, and no move
  pub record LowerEdge (x : Reported) : Type 0 where
    pub number : x.number ≡ 0
    pub not_stopped : T (not x.is_stopped)
    pub depth : x.depth ≡ 1
    pub score : x.score ≡ neg_ℤ (pos 1152921504606846977)
    pub pv : x.pv ≡ replicate console.deepest no_move
    pub count : x.count ≡ 1

  -- ---- of the report r, with words' the lent words at the end
  pub record SearchClaims (r : Report) (words' : List ℕ) : Type 0 where
    pub report_is : report_of r words' ≡ reported_of m g c words
    pub stats_by_depth : StatsByDepth (report_of r words')
    pub stopped : T (report_of r words').is_stopped → StoppedReport (report_of r words')
    pub lower_edge : NoLegalMove → LowerEdge (report_of r words')
