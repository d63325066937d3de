-- The allowance: a search that may enter n positions is the unlimited one if that one enters no more, and else stops with n counted, at
-- what the unlimited one answers for the last depth that n positions reach. Both take the same steps up to the position that is one too
-- many.
use mathlib.Core.Path.{◌≡◌, refl, sym, ap, ◌∙◌, subst}
use mathlib.Core.Bool.{Bool, true, false, not, ◌&&◌}
use mathlib.Core.List.{List, [], ◌∷◌, ◌++◌}
use mathlib.Core.Logic.{◌⊎◌, inl, inr}
use Prim.Native.Nat.{ℕ, zero, suc, ◌+◌, ◌≤◌, ◌<◌}
use native.Mathlib.Omega.{arith}
use lib.Dec.{T, eqb, ltb, eqb→eq, ltb→lt, lt→ltb, nltb→le, T_not}
use lib.ListN.{replicate}
use lib.IntN.{ℤ, neg_ℤ}
use lib.Signed.{le_z, lt_z}
use Rattle.base.specs.Branch.{when◌then◌else◌}
use Rattle.base.proofs.ListsAgree.{same_by}
use Rattle.base.proofs.Bool.{and→, →and, is}
use Rattle.base.proofs.Branch.{if_ind, if_both}
use Rattle.rules.specs.Play.{no_move}
use Rattle.theory.specs.Game.{Game}
use Rattle.theory.specs.PlainMinimax.{lowest, highest}
use Rattle.theory.specs.Memory.{Memory, begin, enter, leaf, cut}
use Rattle.theory.specs.OrderedSearch.{Allowance, unlimited, at_most, Outcome, stopped, found, unless_stopped, entering, Probed}
use Rattle.theory.specs.OrderedSearch.{known, missed, probe, on_probe, set_first, with_stored, candidates, Search, over_moves}
use Rattle.theory.specs.OrderedSearch.{search}
use Rattle.theory.specs.Deepening.{Completed, nothing_yet, one_deeper, SearchAnswer, decided, on_outcome, deepen, analyze}
use Rattle.theory.specs.Variation.{AttainsMinimax}
use Rattle.theory.specs.Allowance.{StopsAtAllowance, LimitedBeside}
use Rattle.theory.proofs.PlainMinimax.{Lawful}
use Rattle.theory.proofs.Memory.{Leaves, count_enter, count_begin, count_leaf, count_cut, count_probe, count_told, Off}
use Rattle.theory.proofs.Deepening.{analyze_right}

pub lt_or : (n a : ℕ) → (n < a) ⊎ (a ≤ n)
lt_or n a = elim (is (ltb n a)) [ inl t ↦ inl (ltb→lt n a t) | inr t ↦ inr (nltb→le n a t) ]

module _ (n : ℕ) where
  -- ---- one search: the unlimited one, from the memory s, finds r, variation and s'; the limited one has the outcome o
  record Kept (s : Memory) (r : ℤ) (pv : List ℕ) (s' : Memory) (o : Outcome) : Type 0 where
    grows : s.count ≤ s'.count
    same : s'.count ≤ n → o ≡ found r pv s'
    stops : s.count ≤ n → n < s'.count → (z : Memory) × (o ≡ stopped z) × (z.count ≡ n)

  unfoldable Agree : Memory → Outcome → Outcome → Type 0
  Agree s (stopped z) o = ⊥
  Agree s (found r pv s') o = Kept s r pv s' o

  agree_found : (s : Memory) (r : ℤ) (pv : List ℕ) (s' : Memory) → s'.count ≡ s.count → Agree s (found r pv s') (found r pv s')
  unfolding Agree
  agree_found s r pv s' e = record { grows = omega arith; same = λ _. refl; stops = λ h k. absurd (omega arith) }

  agree_from : (s s' : Memory) (u o : Outcome) → s'.count ≡ s.count → Agree s' u o → Agree s u o
  unfolding Agree
  agree_from s s' (stopped z) o e w = w
  agree_from s s' (found r pv z) o e w =
      record { grows = omega (arith, w.grows); same = w.same; stops = λ i j. w.stops (omega arith) j }

  agree_probe : (s : Memory) (x : Probed) (fu fo : ℤ → ℕ → Memory → Outcome) (ku ko : List ℕ → Memory → Outcome) →
      Leaves (λ z. z.count ≡ s.count) x →
      ((v : ℤ) (m : ℕ) (s' : Memory) → Agree s' (fu v m s') (fo v m s')) →
      ((ms : List ℕ) (s' : Memory) → Agree s' (ku ms s') (ko ms s')) → Agree s (on_probe x fu ku) (on_probe x fo ko)
  unfolding on_probe
  agree_probe s (known v m s') fu fo ku ko e f k = agree_from s s' _ _ e (f v m s')
  agree_probe s (missed ms s') fu fo ku ko e f k = agree_from s s' _ _ e (k ms s')

  agree_next : (s : Memory) (u o : Outcome) (ku ko : ℤ → List ℕ → Memory → Outcome) → Agree s u o →
      ((r : ℤ) (pv : List ℕ) (s' : Memory) → Agree s' (ku r pv s') (ko r pv s')) →
      Agree s (unless_stopped u ku) (unless_stopped o ko)
  unfolding Agree unless_stopped
  agree_next s (stopped z) o ku ko h f = absurd h
  agree_next s (found r pv s') o ku ko h f = next (ku r pv s') (f r pv s')
    where
      at : o ≡ found r pv s' → unless_stopped o ko ≡ ko r pv s'
      at e = ap (λ (x : Outcome). unless_stopped x ko) e

      next : (v : Outcome) → Agree s' v (ko r pv s') → Agree s v (unless_stopped o ko)
      next (stopped z) w = w
      next (found r₂ line₂ s₂) w = record {
        grows = omega (arith, h.grows, w.grows);
        same = λ k. at (h.same (omega (arith, w.grows))) ∙ w.same k;
        stops = λ i j. elim (lt_or n s'.count) [
          | inl q ↦ let z = h.stops i q in (z.0, ap (λ (x : Outcome). unless_stopped x ko) z.1, z.2)
          | inr q ↦ let z = w.stops q j in (z.0, at (h.same q) ∙ z.1, z.2)
        ];
      }

  -- where the unlimited search enters a position, the limited one does so too, or stops before it
  agree_entering : (s : Memory) (ku ko : Memory → Outcome) → ((s' : Memory) → Agree s' (ku s') (ko s')) →
      Agree s (entering unlimited s ku) (entering (at_most n) s ko)
  unfolding entering when◌then◌else◌ Agree
  agree_entering s ku ko f = if_ind (Agree s (ku (enter s))) (ltb s.count n) _ _
      (λ t. both (ku (enter s)) (ltb→lt s.count n t) (f (enter s)))
      (λ t. no_more (ku (enter s)) (ko (enter s)) (nltb→le s.count n t) (f (enter s)))
    where
      both : (v : Outcome) → s.count < n → Agree (enter s) v (ko (enter s)) → Agree s v (ko (enter s))
      both (stopped z) h w = w
      both (found r pv s') h w =
          record {
            grows = omega (arith, w.grows, count_enter s);
            same = w.same;
            stops = λ i j. w.stops (omega (arith, count_enter s)) j;
          }

      no_more : (v o : Outcome) → n ≤ s.count → Agree (enter s) v o → Agree s v (stopped s)
      no_more (stopped z) o h w = w
      no_more (found r pv s') o h w =
          record {
            grows = omega (arith, w.grows, count_enter s);
            same = λ k. absurd (omega (arith, w.grows, count_enter s));
            stops = λ i j. (s, refl, omega arith);
          }

  -- ---- depth after depth. y stopped with n counted, after fewer than k depths from w on; `upto j` is the unlimited search's answer to j
  -- depths
  record SpentAt (k : ℕ) (w : Completed) (upto : ℕ → SearchAnswer) (y : SearchAnswer) : Type 0 where
    marked : T y.is_stopped
    counted : y.memory.count ≡ n
    depths : ℕ
    fewer : depths < k
    depth_is : y.completed.depth ≡ depths + w.depth
    whole_is : y.completed ≡ (upto depths).completed
    fits : (upto depths).memory.count ≤ n
    next_too_many : n < (upto (suc depths)).memory.count

  -- the unlimited answer x and the limited one y, to k depths more, from w and s
  record Beside (k : ℕ) (w : Completed) (s : Memory) (upto : ℕ → SearchAnswer) (x y : SearchAnswer) : Type 0 where
    x_grows : s.count ≤ x.memory.count
    x_whole : T (not x.is_stopped)
    y_same : x.memory.count ≤ n → y ≡ x
    y_stops : s.count ≤ n → n < x.memory.count → SpentAt k w upto y

  beside_whole : (k : ℕ) (w w' : Completed) (s : Memory) (upto : ℕ → SearchAnswer) → let x : SearchAnswer =
      record { is_stopped = false; completed = w'; memory = s } in Beside k w s upto x x
  beside_whole k w w' s upto = record { x_grows = omega arith; x_whole = tt; y_same = λ _. refl; y_stops = λ h k. absurd (omega arith) }

  -- the depth after w came to w', and k depths more are as said
  beside_suc : (k : ℕ) (w w' : Completed) (s : Memory) (upto' upto : ℕ → SearchAnswer) (x y : SearchAnswer) →
      w'.depth ≡ suc w.depth → ((j : ℕ) → upto' j ≡ upto (suc j)) → Beside k w' s upto' x y → Beside (suc k) w s upto x y
  beside_suc k w w' s upto' upto x y e same h = record {
    x_grows = h.x_grows;
    x_whole = h.x_whole;
    y_same = h.y_same;
    y_stops = λ i j. let z = h.y_stops i j in record {
      marked = z.marked;
      counted = z.counted;
      depths = suc z.depths;
      fewer = omega (arith, z.fewer);
      depth_is = omega (arith, z.depth_is);
      whole_is = z.whole_is ∙ ap (λ (a : SearchAnswer). a.completed) (same z.depths);
      fits = subst (λ (a : SearchAnswer). a.memory.count ≤ n) (same z.depths) z.fits;
      next_too_many = subst (λ (a : SearchAnswer). n < a.memory.count) (same (suc z.depths)) z.next_too_many;
    };
  }

  module _ (G : Game) where
    module _ (bu bo : Search G) (below : (p : G.Pos) (a b : ℤ) (pv : List ℕ) (m : ℕ) (s : Memory) →
        Agree s (bu p a b pv m s) (bo p a b pv m s)) (p : G.Pos) (b : ℤ) (prev : ℕ) where
      agree_moves : (ms : List ℕ) (a : ℤ) (pv low : List ℕ) (s : Memory) →
          Agree s (over_moves G bu p b prev ms a pv low s) (over_moves G bo p b prev ms a pv low s)
      unfolding over_moves
      agree_moves [] a pv low s = agree_found s a pv s refl
      agree_moves (m ∷ ms) a pv low s = agree_next s _ _ _ _ (below (G.play p m) (neg_ℤ b) (neg_ℤ a) low m s)
          (λ r low' s'. if_both (Agree s') (lt_z a (neg_ℤ r)) _ _ _ _
          (λ _. if_both (Agree s') (le_z b (neg_ℤ r)) _ _ _ _
          (λ _. agree_found s' (neg_ℤ r) (m ∷ low') (cut (G.turn p) s' prev m) (count_cut (G.turn p) s' prev m))
          (λ _. agree_moves ms (neg_ℤ r) (m ∷ low') low' s'))
          (λ _. agree_moves ms a pv low' s'))

    -- the unlimited search and the limited one, at every depth and window
    agree : (d : ℕ) (p : G.Pos) (a b : ℤ) (pv : List ℕ) (prev : ℕ) (s : Memory) →
        Agree s (search G unlimited d p a b pv prev s) (search G (at_most n) d p a b pv prev s)
    unfolding search
    agree zero p a b pv prev s = agree_entering s _ _ (λ s'. agree_found s' (G.value p) pv (leaf s') (count_leaf s'))
    agree (suc d) p a b pv prev s = agree_entering s _ _ (λ s₁. if_both (Agree s₁) (G.over p) _ _ _ _
        (λ _. agree_found s₁ (G.value p) pv (leaf s₁) (count_leaf s₁))
        (λ _. agree_probe s₁ (probe s₁ (G.key p) (suc d) a b) _ _ _ _ (count_probe s₁ (G.key p) (suc d) a b)
        (λ v m s₂. agree_found s₂ v (set_first m pv) s₂ refl)
        (λ first s₂. agree_next s₂ _ _ _ _
        (agree_moves (search G unlimited d) (search G (at_most n) d) (agree d) p b prev (candidates G first s₂ p prev pv) a pv
        (replicate d no_move) s₂)
        (λ r line' s₃. agree_found s₃ r line' (with_stored s₃ (G.key p) (suc d) a b r line')
        (count_told s₃ (G.key p) (suc d) a b r line')))))

    module _ (p : G.Pos) where
      -- what `deepen` does with the outcome of the next depth, if after it k depths are left
      abbrev next_depth : Allowance → ℕ → Completed → Outcome → SearchAnswer
      next_depth allowed k w o = on_outcome o
          (λ s'. record { is_stopped = true; completed = w; memory = s' })
          (λ r pv s'. let w' = one_deeper w r pv s'.tally in
          when decided r then (λ _. record { is_stopped = false; completed = w'; memory = s' }) else λ _. deepen G allowed k p w' s')

      beside_next : (k : ℕ) (w : Completed) (s : Memory) (upto : ℕ → SearchAnswer) (u o : Outcome) →
          record { is_stopped = false; completed = w; memory = s } ≡ upto 0 →
          ((j : ℕ) → next_depth unlimited j w u ≡ upto (suc j)) → Agree s u o →
          ((w' : Completed) (s' : Memory) → Beside k w' s' (λ j. deepen G unlimited j p w' s') (deepen G unlimited k p w' s')
          (deepen G (at_most n) k p w' s')) →
          Beside (suc k) w s upto (next_depth unlimited k w u) (next_depth (at_most n) k w o)
      unfolding Agree on_outcome deepen
      beside_next k w s upto (stopped z) o first later h f = absurd h
      beside_next k w s upto (found r pv s') o first later h f = record {
        x_grows = omega (arith, h.grows, deeper.x_grows);
        x_whole = deeper.x_whole;
        y_same = λ i. at (h.same (omega (arith, deeper.x_grows))) ∙ deeper.y_same i;
        y_stops = λ i j. elim (lt_or n s'.count) [
          | inl q ↦ here i q (h.stops i q)
          | inr q ↦ subst (SpentAt (suc k) w upto) (sym (at (h.same q))) (deeper.y_stops q j)
        ];
      }
        where
          w' : Completed
          w' = one_deeper w r pv s'.tally

          at : o ≡ found r pv s' → next_depth (at_most n) k w o ≡ next_depth (at_most n) k w (found r pv s')
          at e = ap (next_depth (at_most n) k w) e

          not_decided : T (not (decided r)) → (j : ℕ) → deepen G unlimited j p w' s' ≡ next_depth unlimited j w (found r pv s')
          not_decided t j =
              if_ind (λ (x : SearchAnswer). deepen G unlimited j p w' s' ≡ x) (decided r) _ _ (λ u. absurd (T_not (decided r) t u))
              (λ _. refl)

          deeper : Beside (suc k) w s' upto (next_depth unlimited k w (found r pv s')) (next_depth (at_most n) k w (found r pv s'))
          deeper = if_both (Beside (suc k) w s' upto) (decided r) _ _ _ _ (λ _. beside_whole (suc k) w w' s' upto)
              (λ t. beside_suc k w w' s' (λ j. deepen G unlimited j p w' s') upto _ _ refl (λ j. not_decided t j ∙ later j) (f w' s'))

          -- the next depth alone enters what it leaves counted
          alone : (next_depth unlimited 0 w (found r pv s')).memory.count ≡ s'.count
          alone = if_ind (λ (x : SearchAnswer). x.memory.count ≡ s'.count) (decided r) _ _ (λ _. refl) (λ _. refl)

          here : s.count ≤ n → n < s'.count → (z : Memory) × (o ≡ stopped z) × (z.count ≡ n) →
              SpentAt (suc k) w upto (next_depth (at_most n) k w o)
          here i q z = subst (λ (x : Outcome). SpentAt (suc k) w upto (next_depth (at_most n) k w x)) (sym z.1)
              (record {
                marked = tt;
                counted = z.2;
                depths = 0;
                fewer = omega arith;
                depth_is = omega arith;
                whole_is = ap (λ (a : SearchAnswer). a.completed) first;
                fits = omega (arith, ap (λ (a : SearchAnswer). a.memory.count) first);
                next_too_many = omega (arith, alone, ap (λ (a : SearchAnswer). a.memory.count) (later 0));
              })

      -- the two answers, k depths more
      beside : (k : ℕ) (w : Completed) (s : Memory) → Beside k w s (λ j. deepen G unlimited j p w s) (deepen G unlimited k p w s)
          (deepen G (at_most n) k p w s)
      unfolding deepen
      beside zero w s = beside_whole zero w w s _
      beside (suc k) w s = beside_next k w s (λ j. deepen G unlimited j p w s) _ _ refl (λ j. refl)
          (agree_from s (begin s) _ _ (count_begin s) (agree (suc w.depth) p lowest highest (w.pv ++ (no_move ∷ [])) no_move
          (begin s))) (beside k)

-- ---- the claim: with an allowance of n, and no more counted before the search
module _ (G : Game) (n limit : ℕ) (p : G.Pos) (s : Memory) where
  -- with the table on or off, for every game
  pub allowance_limits : s.count ≤ n → LimitedBeside G n limit p s
  unfolding analyze
  allowance_limits le = let h = beside n G p limit nothing_yet s in record {
    unlimited_whole = h.x_whole;
    enough = h.y_same;
    spent =
        λ i. let z = h.y_stops le i in let e : z.depths ≡ (analyze G (at_most n) limit p s).completed.depth = omega
        (arith, z.depth_is) in record {
          marked = z.marked;
          counted = z.counted;
          shallower = omega (arith, z.fewer, z.depth_is);
          whole_is = subst (λ (j : ℕ). (analyze G (at_most n) limit p s).completed ≡ (analyze G unlimited j p s).completed) e z.whole_is;
          fits = subst (λ (j : ℕ). (analyze G unlimited j p s).memory.count ≤ n) e z.fits;
          next_too_many = subst (λ (j : ℕ). n < (analyze G unlimited (suc j) p s).memory.count) e z.next_too_many;
        };
  }

  -- the mark means that the allowance is spent, and nothing else
  pub mark_means_spent : s.count ≤ n → T (analyze G (at_most n) limit p s).is_stopped →
      n < (analyze G unlimited limit p s).memory.count
  mark_means_spent le t = elim (lt_or n (analyze G unlimited limit p s).memory.count) [
    | inl h ↦ h
    | inr h ↦ absurd (T_not (analyze G unlimited limit p s).is_stopped (allowance_limits le).unlimited_whole
        (subst (λ (x : SearchAnswer). T x.is_stopped) ((allowance_limits le).enough h) t))
  ]

  -- and where it is spent, the answer is marked
  pub spent_means_mark : s.count ≤ n → n < (analyze G unlimited limit p s).memory.count →
      T (analyze G (at_most n) limit p s).is_stopped
  spent_means_mark le h = ((allowance_limits le).spent h).marked

-- ---- refusal 18: a search without a completed depth
-- a deeper search enters no less
depth_1_least : (G : Game) (p : G.Pos) (s : Memory) (k : ℕ) →
    (analyze G unlimited 1 p s).memory.count ≤ (analyze G unlimited (suc k) p s).memory.count
unfolding analyze deepen on_outcome
depth_1_least G p s k = least (search G unlimited 1 p lowest highest ([] ++ (no_move ∷ [])) no_move (begin s))
  where
    least : (o : Outcome) →
        (next_depth 0 G p unlimited 0 nothing_yet o).memory.count ≤ (next_depth 0 G p unlimited k nothing_yet o).memory.count
    least (stopped z) = omega arith
    least (found r pv z) = if_both (λ (x y : SearchAnswer). x.memory.count ≤ y.memory.count) (decided r) _ _ _ _ (λ _. omega arith)
        (λ _. (beside 0 G p k (one_deeper nothing_yet r pv z.tally) z).x_grows)

module _ (G : Game) (n limit : ℕ) (p : G.Pos) (s : Memory) (le : s.count ≤ n) where
  abbrev x : SearchAnswer
  x = analyze G (at_most n) limit p s

  -- stopped without a completed depth
  abbrev pub none_whole : Bool
  none_whole = x.is_stopped && eqb x.completed.depth 0

  module _ (t : T none_whole) where
    pub none_whole_marked : T x.is_stopped
    none_whole_marked = (and→ x.is_stopped _ t).0

    spent : StopsAtAllowance G n limit p s
    spent = (allowance_limits G n limit p s le).spent (mark_means_spent G n limit p s le none_whole_marked)

    no_depth : x.completed.depth ≡ 0
    no_depth = eqb→eq x.completed.depth 0 (and→ x.is_stopped _ t).1

    pub none_whole_counted : x.memory.count ≡ n
    none_whole_counted = spent.counted

    pub none_whole_nothing : x.completed ≡ nothing_yet
    unfolding analyze deepen
    none_whole_nothing = spent.whole_is ∙ ap (λ (j : ℕ). (analyze G unlimited j p s).completed) no_depth

    depth_1_more : n < (analyze G unlimited 1 p s).memory.count
    depth_1_more = subst (λ (j : ℕ). n < (analyze G unlimited (suc j) p s).memory.count) no_depth spent.next_too_many

  -- it is one whose allowance depth 1 alone exceeds
  pub none_whole_is : 1 ≤ limit → none_whole ≡ ltb n (analyze G unlimited 1 p s).memory.count
  none_whole_is h = same_by none_whole (ltb n (analyze G unlimited 1 p s).memory.count)
      (λ t. lt→ltb n _ (depth_1_more t)) (λ t. stops limit h (ltb→lt n _ t))
    where
      depth_0 : (d : ℕ) → n < (analyze G unlimited 1 p s).memory.count → (analyze G unlimited d p s).memory.count ≤ n →
          T (eqb d 0)
      depth_0 zero i f = tt
      depth_0 (suc j) i f = absurd (omega (arith, depth_1_least G p s j))

      stops : (k : ℕ) → 1 ≤ k → n < (analyze G unlimited 1 p s).memory.count →
          let y = analyze G (at_most n) k p s in T (y.is_stopped && eqb y.completed.depth 0)
      stops zero h i = absurd (omega arith)
      stops (suc k) h i =
          let z = (allowance_limits G n (suc k) p s le).spent (omega (arith, depth_1_least G p s k)) in
          →and (analyze G (at_most n) (suc k) p s).is_stopped _ z.marked (depth_0 _ i z.fits)

-- with the table off a stopped answer is right for its last completed depth
pub stopped_right : (G : Game) (L : Lawful G) (n limit : ℕ) (p : G.Pos) → L.Good p → (s : Memory) → Off s → s.count ≤ n →
    T (analyze G (at_most n) limit p s).is_stopped →
    (k : ℕ) → (analyze G (at_most n) limit p s).completed.depth ≡ suc k →
    AttainsMinimax G k p (analyze G (at_most n) limit p s).completed
stopped_right G L n limit p g s o le t k e =
    let z = (allowance_limits G n limit p s le).spent (mark_means_spent G n limit p s le t) in
    let same = subst (λ (j : ℕ). (analyze G (at_most n) limit p s).completed ≡ (analyze G unlimited j p s).completed) e z.whole_is in
    subst (AttainsMinimax G k p) (sym same) (analyze_right G L unlimited k p g s o (allowance_limits G n (suc k) p s le).unlimited_whole)
