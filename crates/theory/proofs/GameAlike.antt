-- Two games that look alike at related positions are searched alike: a search sees a game only through its fields.
use mathlib.Core.Path.{◌≡◌, refl, ap, ◌∙◌}
use mathlib.Core.Bool.{Bool, true, false, not}
use mathlib.Core.List.{List, [], ◌∷◌, ◌++◌}
use mathlib.Core.Logic.{◌⊎◌, inl, inr}
use Prim.Native.Nat.{ℕ, zero, suc}
use lib.Dec.{T}
use lib.ListN.{replicate}
use lib.IntN.{ℤ, neg_ℤ}
use lib.Signed.{le_z, lt_z}
use Rattle.base.specs.Branch.{when◌then◌else◌}
use Rattle.base.specs.Lists.{In}
use Rattle.base.proofs.Branch.{if_both}
use Rattle.rules.specs.Play.{no_move}
use Rattle.theory.specs.Game.{Game}
use Rattle.theory.specs.PlainMinimax.{lowest, highest, best, plain, promises}
use Rattle.theory.specs.Memory.{Memory, begin, leaf, cut, hints}
use Rattle.theory.specs.OrderedSearch.{Allowance, Outcome, found, unless_stopped, entering, probe, on_probe, set_first, with_stored}
use Rattle.theory.specs.OrderedSearch.{fresh, candidates, Search, over_moves, search}
use Rattle.theory.specs.Deepening.{Completed, nothing_yet, one_deeper, decided, on_outcome, deepen, analyze}
use Rattle.theory.proofs.PlainMinimaxBest.{best_agree}
use Rattle.theory.proofs.OrderedSearchCandidates.{candidates_accepted}

-- related positions show the same, and an accepted or listed move of an unfinished one leads to related positions
pub record Alike (G H : Game) : Type 1 where
  pub R : G.Pos → H.Pos → Type 0
  pub same_turn : (p : G.Pos) (q : H.Pos) → R p q → G.turn p ≡ H.turn q
  pub same_over : (p : G.Pos) (q : H.Pos) → R p q → G.over p ≡ H.over q
  pub same_moves : (p : G.Pos) (q : H.Pos) → R p q → G.moves p ≡ H.moves q
  pub same_accepts : (p : G.Pos) (q : H.Pos) → R p q → (m : ℕ) → G.accepts p m ≡ H.accepts q m
  pub same_value : (p : G.Pos) (q : H.Pos) → R p q → G.value p ≡ H.value q
  pub same_key : (p : G.Pos) (q : H.Pos) → R p q → G.key p ≡ H.key q
  pub same_play : (p : G.Pos) (q : H.Pos) → R p q → T (not (G.over p)) → (m : ℕ) → T (G.accepts p m) ⊎ In m (G.moves p) →
      R (G.play p m) (H.play q m)

if_same : {A : Type 0} (c c' : Bool) → c ≡ c' → (x y x' y' : Unit {0} → A) → (T c → x tt ≡ x' tt) →
    (T (not c) → y tt ≡ y' tt) → (when c then x else y) ≡ (when c' then x' else y')
if_same {A} c c' e x y x' y' f g = if_both (λ (a b : A). a ≡ b) c x y x' y' f g ∙ ap (λ (z : Bool). when z then x' else y') e

entering_same : (n : Allowance) (s : Memory) (k k' : Memory → Outcome) → ((s₁ : Memory) → k s₁ ≡ k' s₁) →
    entering n s k ≡ entering n s k'
entering_same n s k k' e = λ i. entering n s (λ s₁. e s₁ i)

module _ (G H : Game) (A : Alike G H) where
  -- plain minimax gives the same value
  pub alike_plain : (d : ℕ) (p : G.Pos) (q : H.Pos) → A.R p q → plain G d p ≡ plain H d q
  unfolding plain
  alike_plain zero p q h = A.same_value p q h
  alike_plain (suc d) p q h = if_same (G.over p) (H.over q) (A.same_over p q h) _ _ _ _ (λ _. A.same_value p q h)
      (λ t. best_agree (promises G d p) (promises H d q) (G.moves p) (λ m i. ap neg_ℤ
      (alike_plain d (G.play p m) (H.play q m) (A.same_play p q h t m (inr i))))
      ∙ ap (best (promises H d q)) (A.same_moves p q h))

  alike_candidates : (first : List ℕ) (s : Memory) (p : G.Pos) (q : H.Pos) → A.R p q → (prev : ℕ) (pv : List ℕ) →
      candidates G first s p prev pv ≡ candidates H first s q prev pv
  unfolding candidates
  alike_candidates first s p q h prev pv =
      λ i. fresh (λ m. A.same_accepts p q h m i) [] (first ++ (hints (A.same_turn p q h i) s prev pv ++ A.same_moves p q h i))

  module _ (gs : Search G) (hs : Search H) (below : (p : G.Pos) (q : H.Pos) → A.R p q →
      (a b : ℤ) (pv : List ℕ) (m : ℕ) (s : Memory) → gs p a b pv m s ≡ hs q a b pv m s) (p : G.Pos) (q : H.Pos) (h : A.R p q)
      (t : T (not (G.over p))) (b : ℤ) (prev : ℕ) where
    alike_moves : (ms : List ℕ) → ((m : ℕ) → In m ms → T (G.accepts p m)) → (a : ℤ) (pv low : List ℕ) (s : Memory) →
        over_moves G gs p b prev ms a pv low s ≡ over_moves H hs q b prev ms a pv low s
    unfolding over_moves
    alike_moves [] ok a pv low s = refl
    alike_moves (m ∷ ms) ok a pv low s =
        λ i. unless_stopped (below (G.play p m) (H.play q m) (A.same_play p q h t m (inl (ok m (inl refl)))) (neg_ℤ b) (neg_ℤ a) low m
        s i) (λ r low' s'.
        when lt_z a (neg_ℤ r)
        then (λ _. when le_z b (neg_ℤ r)
        then (λ _. found (neg_ℤ r) (m ∷ low') (cut (A.same_turn p q h i) s' prev m))
        else λ _. alike_moves ms (λ x j. ok x (inr j)) (neg_ℤ r) (m ∷ low') low' s' i)
        else λ _. alike_moves ms (λ x j. ok x (inr j)) a pv low' s' i)

  -- the search gives the same outcome, to every depth, from every memory, with the table on or off
  pub alike_search : (n : Allowance) (d : ℕ) (p : G.Pos) (q : H.Pos) → A.R p q →
      (a b : ℤ) (pv : List ℕ) (prev : ℕ) (s : Memory) → search G n d p a b pv prev s ≡ search H n d q a b pv prev s
  unfolding search
  alike_search n zero p q h a b pv prev s = λ i. entering n s (λ s₁. found (A.same_value p q h i) pv (leaf s₁))
  alike_search n (suc d) p q h a b pv prev s = entering_same n s _ _ (λ s₁. if_same (G.over p) (H.over q) (A.same_over p q h) _ _ _ _
      (λ _ j. found (A.same_value p q h j) pv (leaf s₁))
      (λ t j. on_probe (probe s₁ (A.same_key p q h j) (suc d) a b)
      (λ v m s₂. found v (set_first m pv) s₂)
      (λ first s₂. unless_stopped
      ((alike_moves (search G n d) (search H n d) (alike_search n d) p q h t b prev (candidates G first s₂ p prev pv)
      (candidates_accepted G first s₂ p prev pv) a pv (replicate d no_move) s₂
      ∙ ap (λ (ms : List ℕ). over_moves H (search H n d) q b prev ms a pv (replicate d no_move) s₂)
      (alike_candidates first s₂ p q h prev pv)) j)
      (λ r line' s₃. found r line' (with_stored s₃ (A.same_key p q h j) (suc d) a b r line')))))

  alike_deepen : (n : Allowance) (k : ℕ) (p : G.Pos) (q : H.Pos) → A.R p q → (w : Completed) (s : Memory) →
      deepen G n k p w s ≡ deepen H n k q w s
  unfolding deepen
  alike_deepen n zero p q h w s = refl
  alike_deepen n (suc k) p q h w s =
      λ i. on_outcome (alike_search n (suc w.depth) p q h lowest highest (w.pv ++ (no_move ∷ [])) no_move (begin s) i)
      (λ s'. record { is_stopped = true; completed = w; memory = s' })
      (λ r pv s'. let w' = one_deeper w r pv s'.tally in
      when decided r then (λ _. record { is_stopped = false; completed = w'; memory = s' }) else λ _. alike_deepen n k p q h w' s' i)

  -- the answers are equal, memory and all
  pub alike_analyze : (n : Allowance) (limit : ℕ) (p : G.Pos) (q : H.Pos) → A.R p q → (s : Memory) →
      analyze G n limit p s ≡ analyze H n limit q s
  unfolding analyze
  alike_analyze n limit p q h s = alike_deepen n limit p q h nothing_yet s
