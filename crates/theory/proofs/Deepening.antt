-- The search depth after depth, table off: the answer is plain minimax's to the limit, since a won or lost game stays so at every greater
-- depth.
use mathlib.Core.Path.{◌≡◌, refl, sym, ap, ◌∙◌, subst}
use mathlib.Core.Bool.{not}
use mathlib.Core.List.{List, [], ◌∷◌, ◌++◌}
use mathlib.Core.Logic.{◌⊎◌, inl, inr}
use Prim.Native.Nat.{ℕ, zero, suc, ◌+◌, ◌≤◌}
use native.Mathlib.Omega.{arith}
use lib.Dec.{T}
use lib.IntN.{ℤ, neg_ℤ, neg_ℤ-neg_ℤ}
use lib.ListN.{length, length-append}
use lib.Signed.{le_z, ◌≤ℤ◌, le_z_yes}
use Rattle.base.proofs.Bool.{or→}
use Rattle.base.proofs.Branch.{if_ind}
use Rattle.base.proofs.Integers.{zarith}
use Rattle.rules.specs.Evaluation.{won, lost}
use Rattle.rules.specs.Play.{no_move}
use Rattle.theory.specs.Game.{Game}
use Rattle.theory.specs.PlainMinimax.{plain}
use Rattle.theory.specs.Memory.{Tally, Memory, begin}
use Rattle.theory.specs.OrderedSearch.{Allowance, Outcome, stopped, found}
use Rattle.theory.specs.Deepening.{Completed, nothing_yet, one_deeper, SearchAnswer, decided, on_outcome, deepen, analyze}
use Rattle.theory.specs.Variation.{FirstAttains, AttainsMinimax}
use Rattle.theory.proofs.PlainMinimax.{Lawful, plain_range, stays_won_to, stays_lost_to}
use Rattle.theory.proofs.Memory.{Off, off_begin}
use Rattle.theory.proofs.Variation.{Led, Leads, line_ends}
use Rattle.theory.proofs.OrderedSearch.{Gives, Exact, search_is_minimax}

pub on_outcome_gives : (P : ℤ → List ℕ → Memory → Type 0) (Q : SearchAnswer → Type 0) (o : Outcome)
    (f : Memory → SearchAnswer) (g : ℤ → List ℕ → Memory → SearchAnswer) →
    Gives P o → ((s : Memory) → Q (f s)) → ((r : ℤ) (pv : List ℕ) (s : Memory) → P r pv s → Q (g r pv s)) →
    Q (on_outcome o f g)
unfolding on_outcome Gives
on_outcome_gives P Q (stopped s) f g h i j = i s
on_outcome_gives P Q (found r pv s) f g h i j = j r pv s h

-- a score of 2^60 or beyond is won or lost
decided_is : (r v : ℤ) → r ≡ v → lost ≤ℤ v → v ≤ℤ won → T (decided r) → (r ≡ won) ⊎ (r ≡ lost)
decided_is r v e h k t =
    elim (or→ (le_z r lost) (le_z won r) t) [
      | inl u ↦ inr (omega (zarith, le_z_yes {a = r} {b = lost} u))
      | inr u ↦ inl (omega (zarith, le_z_yes {a = won} {b = r} u))
    ]

one_more_each : (w : Completed) → length w.stats ≡ w.depth → (r : ℤ) (pv : List ℕ) (t : Tally) →
    length (one_deeper w r pv t).stats ≡ suc w.depth
one_more_each w e r pv t = simp length-append (omega arith)

module _ (G : Game) (L : Lawful G) (limit : ℕ) (p : G.Pos) (g : L.Good p) where
  -- one completed depth, after w
  module _ (w : Completed) (le : w.depth ≤ limit) (each : length w.stats ≡ w.depth) (r : ℤ) (pv : List ℕ) (t : Tally)
      (score : r ≡ plain G (suc w.depth) p) (leads : Leads G (suc w.depth) p pv r) where
    begins : (x : ℤ) → r ≡ x → ((q : G.Pos) → L.Good q → plain G w.depth q ≡ neg_ℤ x → plain G limit q ≡ neg_ℤ x)
        → (l : List ℕ) → T (not (G.over p)) → Led G (Leads G w.depth) w.depth p l r → FirstAttains G limit p l r
    begins x e f [] o h = h
    begins x e f (m ∷ l) o h = (
      h.0,
      ap neg_ℤ (f (G.play p m) (L.good_play p g o m h.0) (sym (neg_ℤ-neg_ℤ (plain G w.depth (G.play p m)))
          ∙ ap neg_ℤ (h.1 ∙ e))) ∙ neg_ℤ-neg_ℤ x ∙ sym e,
    )

    -- it is right for the limit if its score x is the value there too, and -x stays the value after a move
    right : (suc w.depth ≡ suc limit) ⊎ T (decided r) → (x : ℤ) → r ≡ x →
        (plain G (suc w.depth) p ≡ x → plain G (suc limit) p ≡ x) → ((q : G.Pos) → L.Good q →
        plain G w.depth q ≡ neg_ℤ x → plain G limit q ≡ neg_ℤ x) → AttainsMinimax G limit p (one_deeper w r pv t)
    right deep x e f h = let z = line_ends G L (suc w.depth) p g pv r leads in record {
      score_is = e ∙ sym (f (sym score ∙ e));
      some_depth = omega arith;
      no_deeper = omega arith;
      deep = deep;
      stats_each = one_more_each w each r pv t;
      first = λ o. begins x e h pv o (leads.1 o);
      accepted = z.0;
      ends = z.1;
    }

    right_at_limit : limit ≡ w.depth → AttainsMinimax G limit p (one_deeper w r pv t)
    right_at_limit e =
        right (inl (omega arith)) r refl (λ h. subst (λ (d : ℕ). plain G (suc d) p ≡ r) (sym e) h)
        (λ q _ h. subst (λ (d : ℕ). plain G d q ≡ neg_ℤ r) (sym e) h)

    -- k depths sooner
    right_if_decided : (k : ℕ) → limit ≡ k + w.depth → T (decided r) → AttainsMinimax G limit p (one_deeper w r pv t)
    right_if_decided k e u =
        let v = plain_range G L (suc w.depth) p g in
        elim (decided_is r (plain G (suc w.depth) p) score v.0 v.1 u) [
          | inl x ↦ right (inr u) won x (stays_won_to G L k (suc w.depth) (suc limit) p g (omega arith))
              (λ q h. stays_lost_to G L k w.depth limit q h e)
          | inr x ↦ right (inr u) lost x (stays_lost_to G L k (suc w.depth) (suc limit) p g (omega arith))
              (λ q h. stays_won_to G L k w.depth limit q h e)
        ]

  abbrev RightUnlessStopped : SearchAnswer → Type 0
  RightUnlessStopped x = T (not x.is_stopped) → AttainsMinimax G limit p x.completed

  module _ (n : Allowance) where
    deepen_step : (k : ℕ) (w : Completed) → limit ≡ k + w.depth → length w.stats ≡ w.depth → (s : Memory) → Off s →
        ((r : ℤ) (pv : List ℕ) (s' : Memory) → Exact G L (suc w.depth) p r pv s' →
        RightUnlessStopped (deepen G n k p (one_deeper w r pv s'.tally) s')) → RightUnlessStopped (deepen G n (suc k) p w s)
    unfolding deepen
    deepen_step k w e each s o next =
        on_outcome_gives (Exact G L (suc w.depth) p) RightUnlessStopped _ _ _
        (search_is_minimax G L n (suc w.depth) p g (w.pv ++ (no_move ∷ [])) no_move (begin s) (off_begin s o)) (λ _ t. absurd t)
        (λ r pv s' h. if_ind RightUnlessStopped (decided r) _ _ (λ t _. right_if_decided w (omega arith) each r pv s'.tally h.0
        h.1 k e t) (λ _. next r pv s' h))

    deepen_right : (k : ℕ) (w : Completed) → limit ≡ k + w.depth → length w.stats ≡ w.depth →
        (r : ℤ) (pv : List ℕ) (t : Tally) (s : Memory) → Exact G L (suc w.depth) p r pv s →
        RightUnlessStopped (deepen G n k p (one_deeper w r pv t) s)
    unfolding deepen
    deepen_right zero w e each r pv t s h = λ _. right_at_limit w (omega arith) each r pv t h.0 h.1 (omega arith)
    deepen_right (suc k) w e each r pv t s h = let each' = one_more_each w each r pv t in
        deepen_step k (one_deeper w r pv t) (omega arith) each' s h.2
        (λ r' line' s' h'. deepen_right k (one_deeper w r pv t) (omega arith) each' r' line' s'.tally s' h')

-- the whole claim on a search: with the table off, any response tables, any allowance and any limit of 1 or more, an answer that is not
-- marked as stopped is right
pub analyze_right : (G : Game) (L : Lawful G) (n : Allowance) (k : ℕ) (p : G.Pos) → L.Good p → (s : Memory) → Off s →
    T (not (analyze G n (suc k) p s).is_stopped) → AttainsMinimax G k p (analyze G n (suc k) p s).completed
unfolding analyze
analyze_right G L n k p g s o =
    deepen_step G L k p g n k nothing_yet (omega arith) refl s o (λ r pv s' h. deepen_right G L k p g n k nothing_yet (omega arith) refl r
    pv s'.tally s' h)
