-- What an allowance of n positions makes of a search.
use Rattle.std.specs.Prelude.{◌≡◌, not, ℕ, suc, ◌≤◌, ◌<◌, T}
use Rattle.theory.specs.Game.{Game}
use Rattle.theory.specs.Memory.{Memory}
use Rattle.theory.specs.OrderedSearch.{unlimited, at_most}
use Rattle.theory.specs.Deepening.{analyze}

module _ (G : Game) (n limit : ℕ) (p : G.Pos) (s : Memory) where
  -- the limited search stopped
  pub record StopsAtAllowance : Type 0 where
    pub marked : T (analyze G (at_most n) limit p s).is_stopped
    pub counted : (analyze G (at_most n) limit p s).memory.count ≡ n
    pub shallower : (analyze G (at_most n) limit p s).completed.depth < limit
    -- depth, score, variation and stats are the unlimited search's to that depth
    pub whole_is : (analyze G (at_most n) limit p s).completed ≡ (analyze G unlimited (analyze G (at_most n) limit p s).completed.depth p
        s).completed
    -- it is the last depth that fits: the unlimited search to it enters no more than n, and to one depth more it does. So depth 0, refusal
    -- 18, means that depth 1 alone enters more than n
    pub fits : (analyze G unlimited (analyze G (at_most n) limit p s).completed.depth p s).memory.count ≤ n
    pub next_too_many : n < (analyze G unlimited (suc (analyze G (at_most n) limit p s).completed.depth) p s).memory.count

  -- the limited search beside the unlimited one
  pub record LimitedBeside : Type 0 where
    pub unlimited_whole : T (not (analyze G unlimited limit p s).is_stopped)
    pub enough : (analyze G unlimited limit p s).memory.count ≤ n → analyze G (at_most n) limit p s ≡ analyze G unlimited limit p s
    pub spent : n < (analyze G unlimited limit p s).memory.count → StopsAtAllowance
