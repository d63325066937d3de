-- The arms of the search and of one turn over the moves, as equations: each test that a definition makes, answered, leaves that test's arm.
use Rattle.std.specs.Prelude.{Option, None, Some}
use mathlib.Core.Path.{◌≡◌, refl, sym, ap, ◌∙◌}
use mathlib.Core.Bool.{Bool, true, false, ◌||◌, true≢false, false≢true}
use mathlib.Core.List.{List, [], ◌∷◌, ◌++◌}
use Prim.Native.Nat.{ℕ, zero, suc, ◌-◌, ◌<◌}
use native.Mathlib.Omega.{arith}
use lib.Dec.{eqb, eqb→eq}
use lib.IntN.{ℤ, neg_ℤ}
use lib.ListN.{replicate}
use lib.Signed.{le_z, lt_z}
use Rattle.base.specs.Branch.{when◌then◌else◌}
use Rattle.base.specs.Lists.{elem}
use Rattle.base.proofs.ListsAgree.{false_by}
use Rattle.base.proofs.Branch.{if_ind}
use Rattle.rules.specs.Play.{no_move}
use Rattle.theory.specs.Game.{Game}
use Rattle.theory.specs.Table.{Entry, look_up, suffices}
use Rattle.theory.specs.Memory.{Memory, enter, leaf, hit, answered, cut, some_move, hints}
use Rattle.theory.specs.OrderedSearch.{Allowance, has_room, Outcome, stopped, found, unless_stopped, entering, Probed, probed}
use Rattle.theory.specs.OrderedSearch.{probe, on_probe, with_stored, set_first, fresh, candidates, Search, over_moves, search}

-- ---- a position that is not searched further
pub search_stopped : (G : Game) (n : Allowance) (d : ℕ) (p : G.Pos) (a b : ℤ) (pv : List ℕ) (prev : ℕ) (s : Memory) →
    has_room n s.count ≡ false → search G n d p a b pv prev s ≡ stopped s
unfolding search entering when◌then◌else◌
search_stopped G n zero p a b pv prev s e = rw e
search_stopped G n (suc d) p a b pv prev s e = rw e

pub search_leaf_zero : (G : Game) (n : Allowance) (d : ℕ) (p : G.Pos) (a b : ℤ) (pv : List ℕ) (prev : ℕ) (s : Memory) →
    has_room n s.count ≡ true → d ≡ 0 → search G n d p a b pv prev s ≡ found (G.value p) pv (leaf (enter s))
unfolding search entering when◌then◌else◌
search_leaf_zero G n zero p a b pv prev s e z = rw e
search_leaf_zero G n (suc d) p a b pv prev s e z = absurd (omega arith)

pub search_leaf_over : (G : Game) (n : Allowance) (d : ℕ) (p : G.Pos) (a b : ℤ) (pv : List ℕ) (prev : ℕ) (s : Memory) →
    has_room n s.count ≡ true → G.over p ≡ true → search G n d p a b pv prev s ≡ found (G.value p) pv (leaf (enter s))
unfolding search entering when◌then◌else◌
search_leaf_over G n zero p a b pv prev s e o = rw e
search_leaf_over G n (suc d) p a b pv prev s e o = rw (e, o)

-- ---- one that is: the table is asked
module _ (G : Game) (n : Allowance) (p : G.Pos) (a b : ℤ) (pv : List ℕ) (prev : ℕ) where
  -- the moves are searched to a lower depth, those that the table names first, and it is told what is found
  abbrev searched : ℕ → ℕ → List ℕ → Memory → Outcome
  searched lower d first s =
      unless_stopped (over_moves G (search G n lower) p b prev (candidates G first s p prev pv) a pv (replicate lower no_move) s)
      (λ r line' s₃. found r line' (with_stored s₃ (G.key p) d a b r line'))

  -- what the table says to the question is acted on
  abbrev acted : ℕ → ℕ → Probed → Outcome
  acted lower d x = on_probe x (λ v m s₂. found v (set_first m pv) s₂) (searched lower d)

  search_asks : (d : ℕ) (s : Memory) → has_room n s.count ≡ true → 0 < d → G.over p ≡ false →
      search G n d p a b pv prev s ≡ acted (d - 1) d (probe (enter s) (G.key p) d a b)
  unfolding search entering when◌then◌else◌
  search_asks zero s e h o = absurd (omega arith)
  search_asks (suc d) s e h o =
      let same : d ≡ suc d - 1 = omega arith in
      rw (e, o) (ap (λ (lower : ℕ). acted lower (suc d) (probe (enter s) (G.key p) (suc d) a b)) same)

module _ (G : Game) (n : Allowance) (d : ℕ) (p : G.Pos) (a b : ℤ) (pv : List ℕ) (prev : ℕ) (s : Memory)
    (more : has_room n s.count ≡ true) (deep : 0 < d) (Going_on : G.over p ≡ false) where
  asked : (x : Option Entry) → look_up s.table (G.key p) ≡ x → search G n d p a b pv prev s
      ≡ acted G n p a b pv prev (d - 1) d (probed (enter s) d a b x)
  unfolding enter
  asked x l =
      search_asks G n p a b pv prev d s more deep Going_on
      ∙ ap (λ (y : Option Entry). acted G n p a b pv prev (d - 1) d (probed (enter s) d a b y)) l

  -- its entry suffices
  pub search_known : (e : Entry) → look_up s.table (G.key p) ≡ Some e → suffices e d a b ≡ true →
      search G n d p a b pv prev s ≡ found e.value (set_first e.move pv) (answered (hit (enter s)))
  unfolding probed on_probe when◌then◌else◌
  search_known e l t = asked (Some e) l ∙ rw t

  -- it has none
  pub search_none : look_up s.table (G.key p) ≡ None → search G n d p a b pv prev s
      ≡ unless_stopped (over_moves G (search G n (d - 1)) p b prev (candidates G [] (enter s) p prev pv) a pv (replicate (d - 1) no_move)
      (enter s)) (λ r line' s₃. found r line' (with_stored s₃ (G.key p) d a b r line'))
  unfolding probed on_probe
  search_none l = asked None l

  -- its entry does not suffice: its move is tried first
  pub search_some : (e : Entry) → look_up s.table (G.key p) ≡ Some e → suffices e d a b ≡ false →
      search G n d p a b pv prev s
      ≡ unless_stopped (over_moves G (search G n (d - 1)) p b prev (candidates G (e.move ∷ []) (hit (enter s)) p prev pv) a pv
      (replicate (d - 1) no_move) (hit (enter s))) (λ r line' s₃. found r line' (with_stored s₃ (G.key p) d a b r line'))
  unfolding probed on_probe when◌then◌else◌
  search_some e l t = asked (Some e) l ∙ rw t

-- ---- the moves that are tried
-- one turn of `fresh` from each of two lists seen: ok is whether the move is accepted, c and c' whether it was seen, w and w' what is left
-- if it was, x and x' what is left if it was not
turn_same : (ok c c' : Bool) (m : ℕ) (w w' x x' : List ℕ) → (ok ≡ true → c ≡ c') → w ≡ w' → x ≡ x' →
    (ok ≡ false → w ≡ x') → (ok ≡ false → x ≡ w') →
    (when c then (λ _. w) else λ _. when ok then (λ _. m ∷ x) else λ _. x) ≡
    (when c' then (λ _. w') else λ _. when ok then (λ _. m ∷ x') else λ _. x')
unfolding when◌then◌else◌
turn_same true true true m w w' x x' e p q y z = p
turn_same true true false m w w' x x' e p q y z = absurd (true≢false (e refl))
turn_same true false true m w w' x x' e p q y z = absurd (false≢true (e refl))
turn_same true false false m w w' x x' e p q y z = ap (λ (l : List ℕ). m ∷ l) q
turn_same false true true m w w' x x' e p q y z = p
turn_same false true false m w w' x x' e p q y z = y refl
turn_same false false true m w w' x x' e p q y z = z refl
turn_same false false false m w w' x x' e p q y z = q

module _ (ok : ℕ → Bool) where
  -- what is accepted is not what is not
  other_move : (m k : ℕ) → ok m ≡ false → ok k ≡ true → eqb k m ≡ false
  other_move m k f t = false_by (eqb k m) (λ u. true≢false (sym t ∙ ap ok (eqb→eq k m u) ∙ f))

  -- lists seen that agree on what is accepted leave the same
  pub fresh_seen : (seen seen' ms : List ℕ) → ((k : ℕ) → ok k ≡ true → elem k seen ≡ elem k seen') →
      fresh ok seen ms ≡ fresh ok seen' ms
  unfolding fresh elem
  fresh_seen seen seen' [] h = refl
  fresh_seen seen seen' (m ∷ ms) h = turn_same (ok m) (elem m seen) (elem m seen') m _ _ _ _ (h m)
      (fresh_seen seen seen' ms h)
      (fresh_seen (m ∷ seen) (m ∷ seen') ms (λ k t. ap (λ (c : Bool). eqb k m || c) (h k t)))
      (λ f. fresh_seen seen (m ∷ seen') ms (λ k t. h k t ∙ ap (λ (c : Bool). c || elem k seen') (sym (other_move m k f t))))
      (λ f. fresh_seen (m ∷ seen) seen' ms (λ k t. ap (λ (c : Bool). c || elem k seen) (other_move m k f t) ∙ h k t))

  -- a move that is not accepted, in front, is passed over
  fresh_passes : (m : ℕ) (ms : List ℕ) → ok m ≡ false → fresh ok [] (m ∷ ms) ≡ fresh ok [] ms
  unfolding fresh elem when◌then◌else◌
  fresh_passes m ms f = rw f (fresh_seen (m ∷ []) [] ms (λ k t. ap (λ (c : Bool). c || false) (other_move m k f t)))

-- an entry without a move names none
pub candidates_some : (G : Game) (s : Memory) (p : G.Pos) (prev : ℕ) (pv : List ℕ) (m : ℕ) → G.accepts p no_move ≡ false →
    candidates G (m ∷ []) s p prev pv ≡ candidates G (some_move m) s p prev pv
unfolding some_move candidates
candidates_some G s p prev pv m f = if_ind (λ l. candidates G (m ∷ []) s p prev pv ≡ candidates G l s p prev pv) (eqb m no_move) _ _
    (λ t. fresh_passes (G.accepts p) m (hints (G.turn p) s prev pv ++ G.moves p) (ap (G.accepts p) (eqb→eq m no_move t) ∙ f))
    (λ _. refl)

-- ---- one turn over the moves: m is searched below
module _ (G : Game) (below : Search G) (p : G.Pos) (b : ℤ) (prev m : ℕ) (ms : List ℕ) (a : ℤ) (pv low : List ℕ) (s : Memory)
  where
    pub over_stopped : (s' : Memory) → below (G.play p m) (neg_ℤ b) (neg_ℤ a) low m s ≡ stopped s' →
        over_moves G below p b prev (m ∷ ms) a pv low s ≡ stopped s'
    unfolding over_moves unless_stopped
    over_stopped s' e = rw e

    module _ (r : ℤ) (low' : List ℕ) (s' : Memory) (e : below (G.play p m) (neg_ℤ b) (neg_ℤ a) low m s ≡ found r low' s') where
      -- it is no better
      pub over_not : lt_z a (neg_ℤ r) ≡ false → over_moves G below p b prev (m ∷ ms) a pv low s
          ≡ over_moves G below p b prev ms a pv low' s'
      unfolding over_moves unless_stopped when◌then◌else◌
      over_not t = rw (e, t)

      -- it is better
      pub over_better : lt_z a (neg_ℤ r) ≡ true → le_z b (neg_ℤ r) ≡ false → over_moves G below p b prev (m ∷ ms) a pv low s
          ≡ over_moves G below p b prev ms (neg_ℤ r) (m ∷ low') low' s'
      unfolding over_moves unless_stopped when◌then◌else◌
      over_better t u = rw (e, t, u)

      -- it reaches the upper edge
      pub over_cut : lt_z a (neg_ℤ r) ≡ true → le_z b (neg_ℤ r) ≡ true → over_moves G below p b prev (m ∷ ms) a pv low s
          ≡ found (neg_ℤ r) (m ∷ low') (cut (G.turn p) s' prev m)
      unfolding over_moves unless_stopped when◌then◌else◌
      over_cut t u = rw (e, t, u)

-- no move is left
pub over_none : (G : Game) (below : Search G) (p : G.Pos) (b : ℤ) (prev : ℕ) (a : ℤ) (pv low : List ℕ) (s : Memory) →
    over_moves G below p b prev [] a pv low s ≡ found a pv s
unfolding over_moves
over_none G below p b prev a pv low s = refl
