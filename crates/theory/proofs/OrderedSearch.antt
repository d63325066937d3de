-- With the table off the ordered search finds plain minimax's value, as far as its window shows it, and a variation that attains it: the
-- lower edge bounds what was passed over, and the candidates are the listed moves.
use mathlib.Core.Path.{◌≡◌, refl, sym, ◌∙◌, subst}
use mathlib.Core.Bool.{not}
use mathlib.Core.List.{List, [], ◌∷◌}
use mathlib.Core.Logic.{inl, inr}
use Prim.Native.Nat.{ℕ, zero, suc}
use lib.Dec.{T, T_not}
use lib.ListN.{replicate}
use lib.IntN.{ℤ, neg_ℤ}
use lib.Signed.{le_z, lt_z, ◌≤ℤ◌, ◌<ℤ◌, le_z_yes, lt_z_yes, lt_z_no}
use Rattle.base.specs.Lists.{In}
use Rattle.base.proofs.Branch.{if_ind}
use Rattle.base.proofs.Integers.{hi, lo, zarith, ng, nle→, split, max_l, max_r, max_is}
use Rattle.rules.specs.Evaluation.{won, lost}
use Rattle.rules.specs.Play.{no_move}
use Rattle.theory.specs.Game.{Game}
use Rattle.theory.specs.PlainMinimax.{lowest, highest, best, plain, promises}
use Rattle.theory.specs.Memory.{Memory, enter, leaf}
use Rattle.theory.specs.OrderedSearch.{Allowance, has_room, Outcome, stopped, found, unless_stopped, entering, Probed, probe}
use Rattle.theory.specs.OrderedSearch.{on_probe, with_stored, candidates, Search, over_moves, search}
use Rattle.theory.proofs.PlainMinimaxBest.{best_same}
use Rattle.theory.proofs.OrderedSearchCandidates.{candidates_accepted, candidates_all}
use Rattle.theory.proofs.PlainMinimax.{Lawful, plain_over, plain_moves, plain_range}
use Rattle.theory.proofs.Memory.{Off, off_enter, off_leaf, off_cut, probe_off, told_off}
use Rattle.theory.proofs.Variation.{Led, Leads}

-- ---- r, found within the window from a to b, and the value v: below the upper edge r is no less than v, above the lower edge no more
abbrev pub Bounds : ℤ → ℤ → ℤ → ℤ → Type 0
Bounds a b r v = (r <ℤ b → v ≤ℤ r) × (a <ℤ r → r ≤ℤ v)

bounds_neg : (a b r v : ℤ) → Bounds (neg_ℤ b) (neg_ℤ a) r v → Bounds a b (neg_ℤ r) (neg_ℤ v)
bounds_neg a b r v h = (
  (λ k. omega (zarith, ng r, ng v, h.1 (omega (zarith, ng r, ng b)))),
  (λ k. omega (zarith, ng r, ng v, h.0 (omega (zarith, ng r, ng a)))),
)

bounds_refl : (a b r : ℤ) → Bounds a b r r
bounds_refl a b r = ((λ _. omega zarith), (λ _. omega zarith))

-- ---- what holds of a result, unless the search stopped
unfoldable pub Gives : (ℤ → List ℕ → Memory → Type 0) → Outcome → Type 0
Gives P (stopped s) = Unit {0}
Gives P (found r l s) = P r l s

pub gives_found : (P : ℤ → List ℕ → Memory → Type 0) (r : ℤ) (l : List ℕ) (s : Memory) → P r l s → Gives P (found r l s)
unfolding Gives
gives_found P r l s h = h

pub gives_next : (P Q : ℤ → List ℕ → Memory → Type 0) (o : Outcome) (k : ℤ → List ℕ → Memory → Outcome) →
    Gives P o → ((r : ℤ) (l : List ℕ) (s : Memory) → P r l s → Gives Q (k r l s)) → Gives Q (unless_stopped o k)
unfolding unless_stopped Gives
gives_next P Q (stopped s) k h f = tt
gives_next P Q (found r l s) k h f = f r l s h

gives_map : (P Q : ℤ → List ℕ → Memory → Type 0) (o : Outcome) → Gives P o →
    ((r : ℤ) (l : List ℕ) (s : Memory) → P r l s → Q r l s) → Gives Q o
unfolding Gives
gives_map P Q (stopped s) h f = tt
gives_map P Q (found r l s) h f = f r l s h

pub gives_entering : (P : ℤ → List ℕ → Memory → Type 0) (n : Allowance) (s : Memory) (k : Memory → Outcome) →
    Gives P (k (enter s)) → Gives P (entering n s k)
unfolding entering Gives
gives_entering P n s k h = if_ind (Gives P) (has_room n s.count) _ _ (λ _. h) (λ _. tt)

-- a table that is off has nothing to say
gives_probe : (P : ℤ → List ℕ → Memory → Type 0) (s : Memory) (key d : ℕ) (a b : ℤ) (f : ℤ → ℕ → Memory → Outcome)
    (k : List ℕ → Memory → Outcome) → Off s → Gives P (k [] s) → Gives P (on_probe (probe s key d a b) f k)
unfolding on_probe
gives_probe P s key d a b f k o h = subst (λ (x : Probed). Gives P (on_probe x f k)) (sym (probe_off s key d a b o)) h

module _ (G : Game) where
  -- what the search gives at a position: its value within the window, and inside the window a variation
  abbrev pub Found : ℕ → G.Pos → ℤ → ℤ → ℤ → List ℕ → Type 0
  Found d p a b r pv = Bounds a b r (plain G d p) × (a <ℤ r → r <ℤ b → Leads G d p pv r)

  -- over the moves left, from the lower edge a and the variation `old`
  record Left (d : ℕ) (p : G.Pos) (ms : List ℕ) (a b : ℤ) (old : List ℕ) (r : ℤ) (pv : List ℕ) : Type 0 where
    up : a ≤ℤ r
    most : r <ℤ b → best (promises G d p) ms ≤ℤ r
    least : a <ℤ r → r ≤ℤ best (promises G d p) ms
    kept : r ≤ℤ a → pv ≡ old
    led : a <ℤ r → r <ℤ b → Led G (Leads G d) d p pv r

  -- ---- one move more in front
  module _ (d : ℕ) (p : G.Pos) (m : ℕ) (ms : List ℕ) (a b : ℤ) (old : List ℕ) (r : ℤ) (low : List ℕ)
      (below : Found d (G.play p m) (neg_ℤ b) (neg_ℤ a) r low) where
    this : ℤ
    this = neg_ℤ (plain G d (G.play p m))

    rest : ℤ
    rest = best (promises G d p) ms

    bounds : Bounds a b (neg_ℤ r) this
    unfolding this
    bounds = bounds_neg a b r (plain G d (G.play p m)) below.0

    -- it reaches the upper edge
    left_cut : a <ℤ neg_ℤ r → b ≤ℤ neg_ℤ r → Left d p (m ∷ ms) a b old (neg_ℤ r) (m ∷ low)
    unfolding best this rest
    left_cut h k = record {
      up = omega zarith;
      most = λ u. absurd (omega zarith);
      least = λ u. omega (zarith, bounds.1 h, max_l this rest);
      kept = λ u. absurd (omega zarith);
      led = λ _ u. absurd (omega zarith);
    }

    -- it is no better
    left_not : a <ℤ b → neg_ℤ r ≤ℤ a → (r' : ℤ) (pv : List ℕ) → Left d p ms a b old r' pv →
        Left d p (m ∷ ms) a b old r' pv
    unfolding best this rest
    left_not h k r' pv w = record {
      up = w.up;
      most = λ u. max_is (λ z. z ≤ℤ r') this rest (omega (zarith, bounds.0 (omega zarith), w.up)) (w.most u);
      least = λ u. omega (zarith, w.least u, max_r this rest);
      kept = w.kept;
      led = w.led;
    }

    -- it is better
    left_better : a <ℤ neg_ℤ r → neg_ℤ r <ℤ b → In m (G.moves p) → (r' : ℤ) (pv : List ℕ) →
        Left d p ms (neg_ℤ r) b (m ∷ low) r' pv → Left d p (m ∷ ms) a b old r' pv
    unfolding best this rest
    left_better h k i r' pv w = record {
      up = omega (zarith, w.up);
      most = λ u. max_is (λ z. z ≤ℤ r') this rest (omega (zarith, bounds.0 k, w.up)) (w.most u);
      least =
          λ u. elim (split (neg_ℤ r) r') [
            | inl q ↦ omega (zarith, w.least q, max_r this rest)
            | inr q ↦ omega (zarith, bounds.1 h, max_l this rest)
          ];
      kept = λ u. absurd (omega (zarith, w.up));
      led = λ u v. elim (split (neg_ℤ r) r') [ inl q ↦ w.led q v | inr q ↦ here q ];
    }
      where
        here : r' ≤ℤ neg_ℤ r → Led G (Leads G d) d p pv r'
        here q =
            subst (λ (z : List ℕ). Led G (Leads G d) d p z r') (sym (w.kept q)) (
              i,
              omega (zarith, bounds.0 k, bounds.1 h, w.up),
              subst (λ (z : ℤ). Leads G d (G.play p m) low z) (omega (zarith, ng r, ng r', w.up))
                  (below.1 (omega (zarith, ng r, ng b)) (omega (zarith, ng r, ng a))),
            )

  over_found : (d : ℕ) (p : G.Pos) (a b : ℤ) (pv : List ℕ) → T (G.over p) → Found (suc d) p a b (G.value p) pv
  over_found d p a b pv t = (
    subst (λ (z : ℤ). Bounds a b (G.value p) z) (sym (plain_over G (suc d) p t)) (bounds_refl a b (G.value p)),
    (λ _ _. ((λ _. refl), (λ u. absurd (T_not (G.over p) u t)))),
  )

  open_found : (d : ℕ) (p : G.Pos) (a b : ℤ) (old : List ℕ) (r : ℤ) (pv : List ℕ) (ms : List ℕ) → T (not (G.over p)) →
      ((m : ℕ) → In m ms → In m (G.moves p)) → ((m : ℕ) → In m (G.moves p) → In m ms) → Left d p ms a b old r pv →
      Found (suc d) p a b r pv
  open_found d p a b old r pv ms t i j w = (
    subst (λ (z : ℤ). Bounds a b r z) (best_same (promises G d p) ms (G.moves p) i j ∙ sym (plain_moves G d p t)) (w.most, w.least),
    (λ u v. ((λ o. absurd (T_not (G.over p) t o)), (λ _. w.led u v))),
  )

  module _ (L : Lawful G) where
    -- with the table off all along
    abbrev pub FoundOff : ℕ → G.Pos → ℤ → ℤ → ℤ → List ℕ → Memory → Type 0
    FoundOff d p a b r pv s = Found d p a b r pv × Off s

    abbrev LeftOff : ℕ → G.Pos → List ℕ → ℤ → ℤ → List ℕ → ℤ → List ℕ → Memory → Type 0
    LeftOff d p ms a b old r pv s = Left d p ms a b old r pv × Off s

    -- a search to depth d finds the value at every good position, within every window that lies in the root's
    abbrev pub Finds : ℕ → Search G → Type 0
    Finds d below =
        (p : G.Pos) (a b : ℤ) (pv : List ℕ) (prev : ℕ) (s : Memory) → L.Good p → Off s → lowest ≤ℤ a → a <ℤ b →
        b ≤ℤ highest → Gives (FoundOff d p a b) (below p a b pv prev s)

    module _ (d : ℕ) (below : Search G) (finds : Finds d below) (p : G.Pos)
        (good : (m : ℕ) → In m (G.moves p) → L.Good (G.play p m)) (b : ℤ) (b_high : b ≤ℤ highest) (prev : ℕ) where
      moves_left : (ms : List ℕ) (a : ℤ) (pv low : List ℕ) (s : Memory) → Off s → lowest ≤ℤ a → a <ℤ b →
          ((m : ℕ) → In m ms → In m (G.moves p)) → Gives (LeftOff d p ms a b pv) (over_moves G below p b prev ms a pv low s)
      unfolding over_moves best hi lo
      moves_left [] a pv low s o ha hb inn =
          gives_found (LeftOff d p [] a b pv) _ _ _ (
            record {
              up = omega zarith;
              most = λ _. ha;
              least = λ k. absurd (omega zarith);
              kept = λ _. refl;
              led = λ k _. absurd (omega zarith);
            },
            o,
          )
      moves_left (m ∷ ms) a pv low s o ha hb inn =
          gives_next (FoundOff d (G.play p m) (neg_ℤ b) (neg_ℤ a)) (LeftOff d p (m ∷ ms) a b pv) _ _
          (finds (G.play p m) (neg_ℤ b) (neg_ℤ a) low m s (good m (inn m (inl refl))) o (omega (zarith, ng b))
          (omega (zarith, ng a, ng b)) (omega (zarith, ng a)))
          (λ r low' s' h. if_ind (Gives (LeftOff d p (m ∷ ms) a b pv)) (lt_z a (neg_ℤ r)) _ _
          (λ t. if_ind (Gives (LeftOff d p (m ∷ ms) a b pv)) (le_z b (neg_ℤ r)) _ _
          (λ u. gives_found (LeftOff d p (m ∷ ms) a b pv) _ _ _ (
            left_cut d p m ms a b pv r low' h.0 (lt_z_yes t) (le_z_yes u),
            off_cut (G.turn p) s' prev m h.1,
          ))
          (λ u. gives_map (LeftOff d p ms (neg_ℤ r) b (m ∷ low')) (LeftOff d p (m ∷ ms) a b pv) _
          (moves_left ms (neg_ℤ r) (m ∷ low') low' s' h.1 (omega (zarith, lt_z_yes {a = a} {b = neg_ℤ r} t)) (nle→ u)
          (λ x j. inn x (inr j)))
          (λ r' l' _ w. (left_better d p m ms a b pv r low' h.0 (lt_z_yes t) (nle→ u) (inn m (inl refl)) r' l' w.0, w.1))))
          (λ t. gives_map (LeftOff d p ms a b pv) (LeftOff d p (m ∷ ms) a b pv) _
          (moves_left ms a pv low' s' h.1 ha hb (λ x j. inn x (inr j)))
          (λ r' l' _ w. (left_not d p m ms a b pv r low' h.0 hb (lt_z_no t) r' l' w.0, w.1))))

    -- with any allowance, previous move, variation and response tables
    pub search_finds : (n : Allowance) (d : ℕ) → Finds d (search G n d)
    unfolding search plain
    search_finds n zero p a b pv prev s g o ha hb ht = gives_entering (FoundOff zero p a b) n s _
        (gives_found (FoundOff zero p a b) (G.value p) pv (leaf (enter s))
        ((bounds_refl a b (G.value p), λ _ _. refl), off_leaf (enter s) (off_enter s o)))
    search_finds n (suc d) p a b pv prev s g o ha hb ht =
        let s₁ = enter s in
        let ms = candidates G [] s₁ p prev pv in
        gives_entering (FoundOff (suc d) p a b) n s _ (if_ind (Gives (FoundOff (suc d) p a b)) (G.over p) _ _
        (λ t. gives_found (FoundOff (suc d) p a b) (G.value p) pv (leaf s₁) (over_found d p a b pv t, off_leaf s₁ (off_enter s o)))
        (λ t. gives_probe (FoundOff (suc d) p a b) s₁ (G.key p) (suc d) a b _ _ (off_enter s o)
        (gives_next (LeftOff d p ms a b pv) (FoundOff (suc d) p a b) _ _
        (moves_left d (search G n d) (search_finds n d) p (L.good_play p g t) b ht prev ms a pv (replicate d no_move) s₁ (off_enter s o)
        ha hb (listed t))
        (λ r line' s₃ w. gives_found (FoundOff (suc d) p a b) r line' (with_stored s₃ (G.key p) (suc d) a b r line') (
          open_found d p a b pv r line' ms t (listed t) (λ m i. candidates_all G [] s₁ p prev pv m ((L.listed p g t m).0 i) i) w.0,
          subst Off (sym (told_off s₃ (G.key p) (suc d) a b r line' w.1)) w.1,
        )))))
      where
        listed : T (not (G.over p)) → (m : ℕ) → In m (candidates G [] (enter s) p prev pv) → In m (G.moves p)
        listed t m i = (L.listed p g t m).1 (candidates_accepted G [] (enter s) p prev pv m i)

    -- the score is plain minimax's value, the variation leads to it, and the table is off still
    abbrev pub Exact : ℕ → G.Pos → ℤ → List ℕ → Memory → Type 0
    Exact d p r pv s = (r ≡ plain G d p) × Leads G d p pv r × Off s

    -- a score that a window wider than all values leaves is the value
    settled : (r v : ℤ) → lost ≤ℤ v → v ≤ℤ won → Bounds lowest highest r v → (r ≡ v) × (lowest <ℤ r) ×
        (r <ℤ highest)
    unfolding hi lo
    settled r v h k w = elim (split r highest) [ inl q ↦ low q | inr q ↦ absurd (omega (zarith, w.1 (omega zarith))) ]
      where
        low : r <ℤ highest → (r ≡ v) × (lowest <ℤ r) × (r <ℤ highest)
        low q = let x = w.0 q in let y = w.1 (omega (zarith, x)) in (omega (zarith, x, y), omega (zarith, x), q)

    -- the search is plain minimax: within the root's window it gives, unless it is stopped, the value itself and a variation that attains
    -- it
    pub search_is_minimax : (n : Allowance) (d : ℕ) (p : G.Pos) → L.Good p → (pv : List ℕ) (prev : ℕ) (s : Memory) → Off s →
        Gives (Exact d p) (search G n d p lowest highest pv prev s)
    unfolding hi lo
    search_is_minimax n d p g pv prev s o =
        gives_map (FoundOff d p lowest highest) (Exact d p) _ (search_finds n d p lowest highest pv prev s g o (omega zarith)
        (omega zarith) (omega zarith))
        (λ r l s' h. let v = plain_range G L d p g in let w = settled r (plain G d p) v.0 v.1 h.0.0 in
        (w.0, h.0.1 w.1 w.2, h.1))
