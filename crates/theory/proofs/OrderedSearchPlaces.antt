-- A variation has as many places as its depth, and no depth is over the limit: a search keeps the length of the variation that it is
-- given, for every game, with the table on or off.
use mathlib.Core.Path.{◌≡◌, refl, ap}
use mathlib.Core.List.{List, [], ◌∷◌, ◌++◌}
use Prim.Native.Nat.{ℕ, zero, suc, ◌+◌, ◌≤◌}
use native.Mathlib.Omega.{arith}
use lib.IntN.{ℤ, neg_ℤ}
use lib.ListN.{length, replicate, length-append, length-replicate}
use lib.Signed.{le_z, lt_z}
use Rattle.base.proofs.Branch.{if_ind}
use Rattle.rules.specs.Play.{no_move}
use Rattle.theory.specs.Game.{Game}
use Rattle.theory.specs.PlainMinimax.{lowest, highest}
use Rattle.theory.specs.Memory.{Memory, begin, enter}
use Rattle.theory.specs.OrderedSearch.{Allowance, Outcome, Probed, known, missed, probe, on_probe, set_first, candidates, Search}
use Rattle.theory.specs.OrderedSearch.{over_moves, search}
use Rattle.theory.specs.Deepening.{Completed, nothing_yet, one_deeper, SearchAnswer, decided, deepen, analyze}
use Rattle.theory.proofs.OrderedSearch.{Gives, gives_found, gives_next, gives_entering}
use Rattle.theory.proofs.Deepening.{on_outcome_gives}

abbrev pub Places : ℕ → ℤ → List ℕ → Memory → Type 0
Places d r pv s = length pv ≡ d

gives_on_probe : (P : ℤ → List ℕ → Memory → Type 0) (x : Probed) (f : ℤ → ℕ → Memory → Outcome)
    (k : List ℕ → Memory → Outcome) → ((v : ℤ) (m : ℕ) (s : Memory) → Gives P (f v m s)) →
    ((ms : List ℕ) (s : Memory) → Gives P (k ms s)) → Gives P (on_probe x f k)
unfolding on_probe
gives_on_probe P (known v m s) f k h i = h v m s
gives_on_probe P (missed ms s) f k h i = i ms s

set_first_places : (m : ℕ) (pv : List ℕ) → length (set_first m pv) ≡ length pv
unfolding set_first
set_first_places m [] = refl
set_first_places m (x ∷ pv) = refl

module _ (G : Game) where
  -- a search to depth d gives a variation of d places, if it is given one
  abbrev pub Keeps : ℕ → Search G → Type 0
  Keeps d below =
      (p : G.Pos) (a b : ℤ) (pv : List ℕ) (prev : ℕ) (s : Memory) → length pv ≡ d → Gives (Places d) (below p a b pv prev s)

  module _ (d : ℕ) (below : Search G) (keeps : Keeps d below) (p : G.Pos) (b : ℤ) (prev : ℕ) where
    over_moves_places : (ms : List ℕ) (a : ℤ) (pv low : List ℕ) (s : Memory) → length pv ≡ suc d → length low ≡ d →
        Gives (Places (suc d)) (over_moves G below p b prev ms a pv low s)
    unfolding over_moves
    over_moves_places [] a pv low s h k = gives_found (Places (suc d)) a pv s h
    over_moves_places (m ∷ ms) a pv low s h k =
        gives_next (Places d) (Places (suc d)) _ _ (keeps (G.play p m) (neg_ℤ b) (neg_ℤ a) low m s k)
        (λ r low' s' k'. if_ind (Gives (Places (suc d))) (lt_z a (neg_ℤ r)) _ _
        (λ _. if_ind (Gives (Places (suc d))) (le_z b (neg_ℤ r)) _ _
        (λ _. gives_found (Places (suc d)) _ (m ∷ low') _ (ap suc k'))
        (λ _. over_moves_places ms (neg_ℤ r) (m ∷ low') low' s' (ap suc k') k'))
        (λ _. over_moves_places ms a pv low' s' h k'))

  pub search_places : (n : Allowance) (d : ℕ) → Keeps d (search G n d)
  unfolding search
  search_places n zero p a b pv prev s h = gives_entering (Places zero) n s _ (gives_found (Places zero) _ pv _ h)
  search_places n (suc d) p a b pv prev s h = gives_entering (Places (suc d)) n s _ (if_ind (Gives (Places (suc d))) (G.over p) _ _
      (λ _. gives_found (Places (suc d)) _ pv _ h)
      (λ _. gives_on_probe (Places (suc d)) (probe (enter s) (G.key p) (suc d) a b) _ _
      (λ v m s₂. gives_found (Places (suc d)) v (set_first m pv) s₂ (omega (arith, set_first_places m pv)))
      (λ first s₂. gives_next (Places (suc d)) (Places (suc d)) _ _
      (over_moves_places d (search G n d) (search_places n d) p b prev (candidates G first s₂ p prev pv) a pv (replicate d no_move) s₂ h
      (length-replicate d no_move))
      (λ r line' s₃ k. gives_found (Places (suc d)) r line' _ k))))

  -- a variation for its depth, which is within the limit
  record Filled (limit : ℕ) (x : SearchAnswer) : Type 0 where
    places : length x.completed.pv ≡ x.completed.depth
    no_deeper : x.completed.depth ≤ limit

  deepen_filled : (n : Allowance) (limit k : ℕ) (p : G.Pos) (w : Completed) (s : Memory) → k + w.depth ≤ limit →
      length w.pv ≡ w.depth → Filled limit (deepen G n k p w s)
  unfolding deepen
  deepen_filled n limit zero p w s h e = record { places = e; no_deeper = omega arith }
  deepen_filled n limit (suc k) p w s h e = on_outcome_gives (Places (suc w.depth)) (Filled limit) _ _ _
      (search_places n (suc w.depth) p lowest highest (w.pv ++ (no_move ∷ [])) no_move (begin s)
      (omega (arith, length-append w.pv (no_move ∷ []))))
      (λ _. record { places = e; no_deeper = omega arith })
      (λ r pv s' e'. if_ind (Filled limit) (decided r) _ _ (λ _. record { places = e'; no_deeper = omega arith })
      (λ _. deepen_filled n limit k p (one_deeper w r pv s'.tally) s' (omega arith) e'))

  module _ (n : Allowance) (limit : ℕ) (p : G.Pos) (s : Memory) where
    analyze_filled : Filled limit (analyze G n limit p s)
    unfolding analyze
    analyze_filled = deepen_filled n limit limit p nothing_yet s (omega arith) refl

    -- the answer's variation has as many places as its last completed depth
    pub analyze_places : length (analyze G n limit p s).completed.pv ≡ (analyze G n limit p s).completed.depth
    analyze_places = analyze_filled.places

    pub analyze_no_deeper : (analyze G n limit p s).completed.depth ≤ limit
    analyze_no_deeper = analyze_filled.no_deeper
