-- What is claimed of the answer to a search of the written rules.
use Rattle.std.specs.Prelude.{◌≡◌, not, ℕ, suc, ◌≤◌, ◌<◌, T}
use Rattle.rules.specs.Position.{Position}
use Rattle.rules.specs.Evaluation.{Scoring}
use Rattle.theory.specs.Memory.{Memory}
use Rattle.theory.specs.OrderedSearch.{unlimited}
use Rattle.theory.specs.Deepening.{nothing_yet, SearchAnswer, analyze}
use Rattle.theory.specs.Variation.{FirstAttains, AttainsMinimax}
use Rattle.rules_game.specs.RulesGame.{game}

-- how many positions the ordered search enters, from none counted
abbrev pub entries : Scoring → ℕ → Position → Memory → ℕ
entries sc limit p s = (analyze (game sc) unlimited limit p s).memory.count

-- x answers a search of p to a limit of k + 1: it is not stopped, and its score is plain minimax's to that limit, attained by its first
-- move, which is listed, and by its variation, whose moves are accepted
pub record AnswersWhole (sc : Scoring) (k : ℕ) (p : Position) (x : SearchAnswer) : Type 0 where
  pub unmarked : T (not x.is_stopped)
  pub right : AttainsMinimax (game sc) k p x.completed
  pub first_attains : FirstAttains (game sc) k p x.completed.pv x.completed.score

-- x answers a search of p, begun with the memory s, that was stopped inside such a limit with its allowance of n spent: it is right so for
-- the last completed depth, and nothing where there is none
pub record AnswersSpent (sc : Scoring) (n k : ℕ) (p : Position) (s : Memory) (x : SearchAnswer) : Type 0 where
  pub marked : T x.is_stopped
  pub counted : x.memory.count ≡ n
  pub shallower : x.completed.depth ≤ k
  -- that depth is the last that fits: n positions suffice for it, and not for one depth more
  pub fits : entries sc x.completed.depth p s ≤ n
  pub next_too_many : n < entries sc (suc x.completed.depth) p s
  pub right_so_far : (j : ℕ) → x.completed.depth ≡ suc j → AttainsMinimax (game sc) j p x.completed
  pub nothing_so_far : x.completed.depth ≡ 0 → x.completed ≡ nothing_yet
