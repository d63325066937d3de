-- The deepening search: one depth after another up to the limit, or until a score says that the game is won or lost.
use Rattle.std.specs.Prelude.{Bool, true, false, ◌||◌, List, [], ◌∷◌, ◌++◌, map, ℕ, zero, suc, ℤ, pos}
use Rattle.std.specs.Int.Signed.{le_z}
use Rattle.base.specs.Branch.{when◌then◌else◌}
use Rattle.base.specs.Lists.{total}
use Rattle.rules.specs.Play.{no_move}
use Rattle.rules.specs.Evaluation.{won, lost}
use Rattle.theory.specs.Game.{Game}
use Rattle.theory.specs.PlainMinimax.{lowest, highest}
use Rattle.theory.specs.Memory.{Tally, Memory, begin}
use Rattle.theory.specs.OrderedSearch.{Allowance, Outcome, stopped, found, search}

-- one for each completed depth
pub record Stats : Type 0 where
  pub depth : ℕ
  pub score : ℤ
  pub tally : Tally

-- the positions entered, over a list of depths
abbrev pub visited_in : List Stats → ℕ
visited_in ss = total (λ n. n) (map (λ (s : Stats). s.tally.visited) ss)

-- what the completed depths have come to: the last one with its score and variation, and the stats of each
pub record Completed : Type 0 where
  pub depth : ℕ
  pub score : ℤ
  pub pv : List ℕ
  pub stats : List Stats

abbrev pub nothing_yet : Completed
nothing_yet = record { depth = 0; score = pos 0; pv = []; stats = [] }

abbrev pub one_deeper : Completed → ℤ → List ℕ → Tally → Completed
one_deeper w r pv t = record {
  depth = suc w.depth;
  score = r;
  pv = pv;
  stats = w.stats ++ (record { depth = suc w.depth; score = r; tally = t } ∷ []);
}

-- a search's answer: the last completed depth, whether the allowance stopped it, and the memory. Stopped before depth 1 was whole is
-- refusal 18
pub record SearchAnswer : Type 0 where
  pub is_stopped : Bool
  pub completed : Completed
  pub memory : Memory

abbrev pub decided : ℤ → Bool
decided r = le_z r lost || le_z won r

unfoldable pub on_outcome : {A : Type 0} → Outcome → (Memory → A) → (ℤ → List ℕ → Memory → A) → A
on_outcome (stopped s) f g = f s
on_outcome (found r l s) f g = g r l s

module _ (G : Game) (n : Allowance) where
  -- k depths are left. The variation of one depth is where the next begins; the root has no previous move
  unfoldable pub deepen : ℕ → G.Pos → Completed → Memory → SearchAnswer
  deepen zero p w s = record { is_stopped = false; completed = w; memory = s }
  deepen (suc k) p w s =
      on_outcome (search G n (suc w.depth) p lowest highest (w.pv ++ (no_move ∷ [])) no_move (begin s))
      (λ s'. record { is_stopped = true; completed = w; memory = s' })
      (λ r pv s'. let w' = one_deeper w r pv s'.tally in
      when decided r then (λ _. record { is_stopped = false; completed = w'; memory = s' }) else λ _. deepen k p w' s')

  unfoldable pub analyze : ℕ → G.Pos → Memory → SearchAnswer
  analyze limit p s = deepen limit p nothing_yet s
