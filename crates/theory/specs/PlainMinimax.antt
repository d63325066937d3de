-- Plain minimax: a leaf's value is its evaluation, any other position's the greatest of its moves' values as the other side sees them.
use Rattle.std.specs.Prelude.{List, [], ◌∷◌, ℕ, zero, suc, ℤ, pos, negsuc, neg_ℤ}
use Rattle.base.specs.Branch.{when◌then◌else◌}
use Rattle.base.specs.Integers.{max_z}
use Rattle.theory.specs.Game.{Game}

-- the edges of the root's window: -2^60 - 1 and 2^60 + 1
abbrev pub lowest : ℤ
lowest = negsuc 1152921504606846976

abbrev pub highest : ℤ
highest = pos 1152921504606846977

-- the best over a list; the lowest where there is none
unfoldable pub best : (ℕ → ℤ) → List ℕ → ℤ
best f [] = lowest
best f (m ∷ ms) = max_z (f m) (best f ms)

module _ (G : Game) where
  unfoldable pub plain : ℕ → G.Pos → ℤ
  plain zero p = G.value p
  plain (suc d) p = when G.over p then (λ _. G.value p) else λ _. best (λ m. neg_ℤ (plain d (G.play p m))) (G.moves p)

  -- what move m promises: the value one ply lower, negated
  abbrev pub promises : ℕ → G.Pos → ℕ → ℤ
  promises d p m = neg_ℤ (plain d (G.play p m))
