-- A variation, played from a position up to its depth, or to the game's end if sooner; and what is claimed of an answer.
use Rattle.std.specs.Prelude.{◌≡◌, Bool, true, false, not, cond, ◌&&◌, List, [], ◌∷◌, ◌⊎◌, ℕ, zero, suc, ◌≤◌, T, ℤ, neg_ℤ, length}
use Rattle.base.specs.Branch.{when◌then◌else◌}
use Rattle.base.specs.Lists.{In}
use Rattle.theory.specs.Game.{Game}
use Rattle.theory.specs.PlainMinimax.{plain, promises}
use Rattle.theory.specs.Deepening.{Completed, decided}

pub record Playout (P : Type 0) : Type 0 where
  -- each move was accepted
  pub accepted : Bool
  -- the position reached
  pub end : P
  -- an odd number of moves were played: the other side is to move
  pub odd : Bool

module _ (G : Game) where
  -- a variation that is too short for its depth is accepted only if the game is over by then
  unfoldable pub play_out : ℕ → G.Pos → List ℕ → Playout G.Pos
  play_out zero p pv = record { accepted = true; end = p; odd = false }
  play_out (suc d) p [] = record { accepted = G.over p; end = p; odd = false }
  play_out (suc d) p (m ∷ pv) =
      when G.over p then (λ _. record { accepted = true; end = p; odd = false }) else
      λ _. let w = play_out d (G.play p m) pv in
      record { accepted = G.accepts p m && w.accepted; end = w.end; odd = not w.odd }

  -- the value at its end, as the side that is to move at its start sees it
  unfoldable pub ends_on : ℕ → G.Pos → List ℕ → ℤ
  ends_on d p pv = let w = play_out d p pv in cond w.odd (neg_ℤ (G.value w.end)) (G.value w.end)

  -- the variation begins with a move of the list, and plain minimax to d after it, negated, is r
  abbrev pub FirstAttains : ℕ → G.Pos → List ℕ → ℤ → Type 0
  FirstAttains d p [] r = ⊥
  FirstAttains d p (m ∷ pv) r = In m (G.moves p) × (promises G d p m ≡ r)

  -- the claim on a search to a limit of n + 1, which came to w
  pub record AttainsMinimax (n : ℕ) (p : G.Pos) (w : Completed) : Type 0 where
    pub score_is : w.score ≡ plain G (suc n) p
    pub some_depth : 1 ≤ w.depth
    pub no_deeper : w.depth ≤ suc n
    -- the limit is reached, or the score ended the search sooner
    pub deep : (w.depth ≡ suc n) ⊎ T (decided w.score)
    -- one for each completed depth
    pub stats_each : length w.stats ≡ w.depth
    pub first : T (not (G.over p)) → FirstAttains n p w.pv w.score
    pub accepted : T (play_out w.depth p w.pv).accepted
    pub ends : w.score ≡ ends_on w.depth p w.pv
