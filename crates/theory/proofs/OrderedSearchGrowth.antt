-- No count grows faster than the positions entered, and none is entered beyond the allowance: a position is entered before anything else is
-- counted for it, and each of the other counts rises for it at most once.
use Rattle.std.specs.Prelude.{Option, None, Some}
use mathlib.Core.Path.{◌≡◌, refl}
use mathlib.Core.List.{List, [], ◌∷◌}
use Prim.Native.Nat.{ℕ, zero, suc, ◌+◌, ◌≤◌}
use native.Mathlib.Omega.{arith}
use lib.Dec.{T, ltb→lt}
use lib.IntN.{ℤ, neg_ℤ}
use lib.ListN.{replicate}
use lib.Signed.{le_z, lt_z}
use Rattle.base.proofs.Branch.{if_ind}
use Rattle.rules.specs.declared.Player.{Player}
use Rattle.rules.specs.declared.Player.TheVariants.{X, O}
use Rattle.rules.specs.Play.{no_move}
use Rattle.theory.specs.Game.{Game}
use Rattle.theory.specs.Table.{Entry, look_up, suffices}
use Rattle.theory.specs.Memory.{Memory, enter, leaf, hit, answered, cut}
use Rattle.theory.specs.OrderedSearch.{Allowance, at_most, has_room, Outcome, stopped, found, unless_stopped, entering, Probed}
use Rattle.theory.specs.OrderedSearch.{known, missed, probed, probe, on_probe, set_first, with_stored, candidates, Search}
use Rattle.theory.specs.OrderedSearch.{over_moves, search}
use Rattle.theory.proofs.Memory.{Leaves, count_enter, count_leaf, count_cut, count_probe, count_told}

-- ---- what holds of the memory that is left, whether the search stopped or not
unfoldable pub Ends : (Memory → Type 0) → Outcome → Type 0
Ends P (stopped s) = P s
Ends P (found r l s) = P s

pub ends_found : (P : Memory → Type 0) (r : ℤ) (l : List ℕ) (s : Memory) → P s → Ends P (found r l s)
unfolding Ends
ends_found P r l s h = h

pub ends_map : (P Q : Memory → Type 0) (o : Outcome) → Ends P o → ((s : Memory) → P s → Q s) → Ends Q o
unfolding Ends
ends_map P Q (stopped s) h f = f s h
ends_map P Q (found r l s) h f = f s h

pub ends_next : (P Q : Memory → Type 0) (o : Outcome) (k : ℤ → List ℕ → Memory → Outcome) → Ends P o →
    ((s : Memory) → P s → Q s) → ((r : ℤ) (l : List ℕ) (s : Memory) → P s → Ends Q (k r l s)) → Ends Q (unless_stopped o k)
unfolding unless_stopped Ends
ends_next P Q (stopped s) k h f g = f s h
ends_next P Q (found r l s) k h f g = g r l s h

ends_entering : (P : Memory → Type 0) (n : Allowance) (s : Memory) (k : Memory → Outcome) → P s →
    (T (has_room n s.count) → Ends P (k (enter s))) → Ends P (entering n s k)
unfolding entering Ends
ends_entering P n s k h f = if_ind (Ends P) (has_room n s.count) _ _ f (λ _. h)

ends_probe : (P Q : Memory → Type 0) (x : Probed) (f : ℤ → ℕ → Memory → Outcome) (k : List ℕ → Memory → Outcome) →
    Leaves P x → ((v : ℤ) (m : ℕ) (s : Memory) → P s → Ends Q (f v m s)) →
    ((ms : List ℕ) (s : Memory) → P s → Ends Q (k ms s)) → Ends Q (on_probe x f k)
unfolding on_probe
ends_probe P Q (known v m s) f k h g i = g v m s h
ends_probe P Q (missed ms s) f k h g i = i ms s h

-- ---- from s to s' no count of the tally rises by more than the count of positions; the cuts by k more at most
pub record Grown (k : ℕ) (s s' : Memory) : Type 0 where
  pub count_up : s.count ≤ s'.count
  pub visited_up : s'.tally.visited + s.count ≤ s.tally.visited + s'.count
  pub terminal_up : s'.tally.terminal + s.count ≤ s.tally.terminal + s'.count
  pub hits_up : s'.tally.tt_hit + s.count ≤ s.tally.tt_hit + s'.count
  pub suffice_up : s'.tally.tt_suffice + s.count ≤ s.tally.tt_suffice + s'.count
  pub cuts_up : s'.tally.cuts + s.count ≤ s.tally.cuts + s'.count + k

pub grown_refl : {k : ℕ} {s : Memory} → Grown k s s
grown_refl =
    record {
      count_up = omega arith;
      visited_up = omega arith;
      terminal_up = omega arith;
      hits_up = omega arith;
      suffice_up = omega arith;
      cuts_up = omega arith;
    }

pub grown_trans : {k : ℕ} {s t u : Memory} → Grown 0 s t → Grown k t u → Grown k s u
grown_trans g h =
    record {
      count_up = omega arith;
      visited_up = omega arith;
      terminal_up = omega arith;
      hits_up = omega arith;
      suffice_up = omega arith;
      cuts_up = omega arith;
    }

-- room for one cut more
grown_room : {s t : Memory} → Grown 0 s t → Grown 1 s t
grown_room g =
    record {
      count_up = g.count_up;
      visited_up = g.visited_up;
      terminal_up = g.terminal_up;
      hits_up = g.hits_up;
      suffice_up = g.suffice_up;
      cuts_up = omega arith;
    }

grown_cut : (w : Player) (s t : Memory) (prev m : ℕ) → Grown 0 s t → Grown 1 s (cut w t prev m)
unfolding cut
grown_cut X s t prev m g =
    record {
      count_up = g.count_up;
      visited_up = g.visited_up;
      terminal_up = g.terminal_up;
      hits_up = g.hits_up;
      suffice_up = g.suffice_up;
      cuts_up = omega arith;
    }
grown_cut O s t prev m g =
    record {
      count_up = g.count_up;
      visited_up = g.visited_up;
      terminal_up = g.terminal_up;
      hits_up = g.hits_up;
      suffice_up = g.suffice_up;
      cuts_up = omega arith;
    }

grown_told : (k : ℕ) (s t : Memory) (key d : ℕ) (a b r : ℤ) (pv : List ℕ) → Grown k s t →
    Grown k s (with_stored t key d a b r pv)
unfolding with_stored
grown_told k s t key d a b r pv g =
    record {
      count_up = g.count_up;
      visited_up = g.visited_up;
      terminal_up = g.terminal_up;
      hits_up = g.hits_up;
      suffice_up = g.suffice_up;
      cuts_up = g.cuts_up;
    }

-- ---- from s to s' one position was entered, which has not been cut
record Entered (s s' : Memory) : Type 0 where
  count_one : s'.count ≡ suc s.count
  visited_one : s'.tally.visited ≤ suc s.tally.visited
  terminal_one : s'.tally.terminal ≤ suc s.tally.terminal
  hits_one : s'.tally.tt_hit ≤ suc s.tally.tt_hit
  suffice_one : s'.tally.tt_suffice ≤ suc s.tally.tt_suffice
  cuts_none : s'.tally.cuts ≤ s.tally.cuts

entered : (s : Memory) → Entered s (enter s)
unfolding enter
entered s =
    record {
      count_one = refl;
      visited_one = omega arith;
      terminal_one = omega arith;
      hits_one = omega arith;
      suffice_one = omega arith;
      cuts_none = omega arith;
    }

entered_leaf : (s : Memory) → Entered s (leaf (enter s))
unfolding enter leaf
entered_leaf s =
    record {
      count_one = refl;
      visited_one = omega arith;
      terminal_one = omega arith;
      hits_one = omega arith;
      suffice_one = omega arith;
      cuts_none = omega arith;
    }

entered_hit : (s : Memory) → Entered s (hit (enter s))
unfolding enter hit
entered_hit s =
    record {
      count_one = refl;
      visited_one = omega arith;
      terminal_one = omega arith;
      hits_one = omega arith;
      suffice_one = omega arith;
      cuts_none = omega arith;
    }

entered_answered : (s : Memory) → Entered s (answered (hit (enter s)))
unfolding enter hit answered
entered_answered s =
    record {
      count_one = refl;
      visited_one = omega arith;
      terminal_one = omega arith;
      hits_one = omega arith;
      suffice_one = omega arith;
      cuts_none = omega arith;
    }

entered_probed : (s : Memory) (d : ℕ) (a b : ℤ) (e : Option Entry) → Leaves (Entered s) (probed (enter s) d a b e)
unfolding probed
entered_probed s d a b None = entered s
entered_probed s d a b (Some e) = if_ind (Leaves (Entered s)) (suffices e d a b) _ _ (λ _. entered_answered s) (λ _. entered_hit s)

entered_probe : (s : Memory) (key d : ℕ) (a b : ℤ) → Leaves (Entered s) (probe (enter s) key d a b)
entered_probe s key d a b = entered_probed s d a b (look_up (enter s).table key)

-- which pays for a cut
entered_grown : {s t u : Memory} → Entered s t → Grown 1 t u → Grown 0 s u
entered_grown e g =
    record {
      count_up = omega arith;
      visited_up = omega arith;
      terminal_up = omega arith;
      hits_up = omega arith;
      suffice_up = omega arith;
      cuts_up = omega arith;
    }

grown_entered : {s t : Memory} → Entered s t → Grown 0 s t
grown_entered e = entered_grown e grown_refl

module _ (G : Game) where
  module _ (below : Search G) (grows : (p : G.Pos) (a b : ℤ) (pv : List ℕ) (prev : ℕ) (s : Memory) →
      Ends (Grown 0 s) (below p a b pv prev s)) (p : G.Pos) (b : ℤ) (prev : ℕ) where
    moves_grow : (ms : List ℕ) (a : ℤ) (pv low : List ℕ) (s : Memory) → Ends (Grown 1 s) (over_moves G below p b prev ms a pv low s)
    unfolding over_moves
    moves_grow [] a pv low s = ends_found (Grown 1 s) a pv s grown_refl
    moves_grow (m ∷ ms) a pv low s =
        ends_next (Grown 0 s) (Grown 1 s) _ _ (grows (G.play p m) (neg_ℤ b) (neg_ℤ a) low m s) (λ _ g. grown_room g)
        (λ r low' s' g. if_ind (Ends (Grown 1 s)) (lt_z a (neg_ℤ r)) _ _
        (λ _. if_ind (Ends (Grown 1 s)) (le_z b (neg_ℤ r)) _ _
        (λ _. ends_found (Grown 1 s) (neg_ℤ r) (m ∷ low') (cut (G.turn p) s' prev m) (grown_cut (G.turn p) s s' prev m g))
        (λ _. ends_map (Grown 1 s') (Grown 1 s) _ (moves_grow ms (neg_ℤ r) (m ∷ low') low' s') (λ _ h. grown_trans g h)))
        (λ _. ends_map (Grown 1 s') (Grown 1 s) _ (moves_grow ms a pv low' s') (λ _ h. grown_trans g h)))

  -- for every game, with any allowance, with the table on or off
  pub search_grows : (n : Allowance) (d : ℕ) (p : G.Pos) (a b : ℤ) (pv : List ℕ) (prev : ℕ) (s : Memory) →
      Ends (Grown 0 s) (search G n d p a b pv prev s)
  unfolding search
  search_grows n zero p a b pv prev s =
      ends_entering (Grown 0 s) n s _ grown_refl (λ _. ends_found (Grown 0 s) (G.value p) pv (leaf (enter s))
      (grown_entered (entered_leaf s)))
  search_grows n (suc d) p a b pv prev s = ends_entering (Grown 0 s) n s _ grown_refl
      (λ _. if_ind (Ends (Grown 0 s)) (G.over p) _ _
      (λ _. ends_found (Grown 0 s) (G.value p) pv (leaf (enter s)) (grown_entered (entered_leaf s)))
      (λ _. ends_probe (Entered s) (Grown 0 s) (probe (enter s) (G.key p) (suc d) a b) _ _ (entered_probe s (G.key p) (suc d) a b)
      (λ v m s₂ e. ends_found (Grown 0 s) v (set_first m pv) s₂ (grown_entered e))
      (λ first s₂ e. ends_next (Grown 1 s₂) (Grown 0 s) _ _
      (moves_grow (search G n d) (search_grows n d) p b prev (candidates G first s₂ p prev pv) a pv (replicate d no_move) s₂)
      (λ _ g. entered_grown e g)
      (λ r line' s₃ g. ends_found (Grown 0 s) r line' (with_stored s₃ (G.key p) (suc d) a b r line')
      (grown_told 0 s s₃ (G.key p) (suc d) a b r line' (entered_grown e g))))))

  -- ---- within an allowance of n the count stays
  module _ (n : ℕ) where
    abbrev Allowed : Memory → Type 0
    Allowed s = s.count ≤ n

    module _ (below : Search G) (allowed : (p : G.Pos) (a b : ℤ) (pv : List ℕ) (prev : ℕ) (s : Memory) → Allowed s →
        Ends Allowed (below p a b pv prev s)) (p : G.Pos) (b : ℤ) (prev : ℕ) where
      moves_allowed : (ms : List ℕ) (a : ℤ) (pv low : List ℕ) (s : Memory) → Allowed s →
          Ends Allowed (over_moves G below p b prev ms a pv low s)
      unfolding over_moves
      moves_allowed [] a pv low s h = ends_found Allowed a pv s h
      moves_allowed (m ∷ ms) a pv low s h =
          ends_next Allowed Allowed _ _ (allowed (G.play p m) (neg_ℤ b) (neg_ℤ a) low m s h) (λ _ k. k)
          (λ r low' s' k. if_ind (Ends Allowed) (lt_z a (neg_ℤ r)) _ _
          (λ _. if_ind (Ends Allowed) (le_z b (neg_ℤ r)) _ _
          (λ _. ends_found Allowed (neg_ℤ r) (m ∷ low') (cut (G.turn p) s' prev m) (omega (arith, count_cut (G.turn p) s' prev m)))
          (λ _. moves_allowed ms (neg_ℤ r) (m ∷ low') low' s' k))
          (λ _. moves_allowed ms a pv low' s' k))

    pub search_allowed : (d : ℕ) (p : G.Pos) (a b : ℤ) (pv : List ℕ) (prev : ℕ) (s : Memory) → s.count ≤ n →
        Ends (λ z. z.count ≤ n) (search G (at_most n) d p a b pv prev s)
    unfolding search
    search_allowed zero p a b pv prev s h = ends_entering Allowed (at_most n) s _ h
        (λ t. ends_found Allowed (G.value p) pv (leaf (enter s)) (omega
        (arith, ltb→lt s.count n t, count_enter s, count_leaf (enter s))))
    search_allowed (suc d) p a b pv prev s h = ends_entering Allowed (at_most n) s _ h
        (λ t. if_ind (Ends Allowed) (G.over p) _ _
        (λ _. ends_found Allowed (G.value p) pv (leaf (enter s)) (omega
        (arith, ltb→lt s.count n t, count_enter s, count_leaf (enter s))))
        (λ _. ends_probe (λ z. z.count ≡ (enter s).count) Allowed (probe (enter s) (G.key p) (suc d) a b) _ _
        (count_probe (enter s) (G.key p) (suc d) a b)
        (λ v m s₂ e. ends_found Allowed v (set_first m pv) s₂ (omega (arith, ltb→lt s.count n t, count_enter s)))
        (λ first s₂ e. ends_next Allowed Allowed _ _
        (moves_allowed (search G (at_most n) d) (search_allowed d) p b prev (candidates G first s₂ p prev pv) a pv (replicate d no_move)
        s₂ (omega (arith, ltb→lt s.count n t, count_enter s)))
        (λ _ k. k)
        (λ r line' s₃ k. ends_found Allowed r line' (with_stored s₃ (G.key p) (suc d) a b r line')
        (omega (arith, count_told s₃ (G.key p) (suc d) a b r line'))))))
