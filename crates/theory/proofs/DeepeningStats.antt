-- For every game: a depth's visited are just the positions that it enters, and the stats stand in the order of their depths.
use Rattle.std.specs.Prelude.{Option, None, Some}
use mathlib.Core.Path.{◌≡◌, refl, sym, ap, ◌∙◌}
use mathlib.Core.Bool.{not}
use mathlib.Core.List.{List, [], ◌∷◌, ◌++◌}
use mathlib.Core.Logic.{inl, inr}
use Prim.Native.Nat.{ℕ, zero, suc, ◌+◌, ◌≤◌, ◌<◌}
use native.Mathlib.Omega.{arith}
use lib.Dec.{T}
use lib.IntN.{ℤ, neg_ℤ}
use lib.ListN.{length, get_or, replicate, length-append, get_or-append}
use lib.Seq.{get_or_at}
use lib.Signed.{le_z, lt_z}
use Rattle.base.specs.Lists.{total}
use Rattle.base.proofs.Branch.{if_ind}
use Rattle.rules.specs.declared.Player.{Player}
use Rattle.rules.specs.declared.Player.TheVariants.{X, O}
use Rattle.rules.specs.Play.{no_move}
use Rattle.theory.specs.Game.{Game}
use Rattle.theory.specs.PlainMinimax.{lowest, highest}
use Rattle.theory.specs.Table.{Entry, look_up, suffices}
use Rattle.theory.specs.Memory.{Tally, Memory, begin, enter, leaf, hit, answered, cut}
use Rattle.theory.specs.OrderedSearch.{Allowance, Outcome, stopped, found, Probed, known, missed, probed, probe, on_probe}
use Rattle.theory.specs.OrderedSearch.{set_first, with_stored, candidates, Search, over_moves, search}
use Rattle.theory.specs.Deepening.{Stats, visited_in, Completed, nothing_yet, one_deeper, SearchAnswer, decided, deepen, analyze}
use Rattle.theory.specs.Reported.{no_stats}
use Rattle.theory.proofs.Memory.{Leaves}
use Rattle.theory.proofs.OrderedSearch.{Gives, gives_found, gives_next, gives_entering}
use Rattle.theory.proofs.Deepening.{on_outcome_gives}
use Rattle.theory.proofs.Allowance.{lt_or}

-- ---- from s to s' the depth's visited rise as the count does
abbrev Even : Memory → Memory → Type 0
Even s s' = s'.tally.visited + s.count ≡ s.tally.visited + s'.count

abbrev Evenly : Memory → ℤ → List ℕ → Memory → Type 0
Evenly s r pv s' = Even s s'

even_trans : (s t u : Memory) → Even s t → Even t u → Even s u
even_trans s t u h k = omega arith

even_leaf : (s : Memory) → Even s (leaf (enter s))
unfolding enter leaf
even_leaf s = omega arith

even_probed : (s : Memory) (d : ℕ) (a b : ℤ) (e : Option Entry) → Leaves (Even s) (probed (enter s) d a b e)
unfolding probed enter hit answered
even_probed s d a b None = omega arith
even_probed s d a b (Some e) = if_ind (Leaves (Even s)) (suffices e d a b) _ _ (λ _. omega arith) (λ _. omega arith)

even_cut : (s t : Memory) (w : Player) (prev m : ℕ) → Even s t → Even s (cut w t prev m)
unfolding cut
even_cut s t X prev m h = h
even_cut s t O prev m h = h

even_stored : (s t : Memory) (key d : ℕ) (a b r : ℤ) (pv : List ℕ) → Even s t → Even s (with_stored t key d a b r pv)
unfolding with_stored
even_stored s t key d a b r pv h = h

gives_from : (s t : Memory) (o : Outcome) → Even s t → Gives (Evenly t) o → Gives (Evenly s) o
unfolding Gives
gives_from s t (stopped z) h k = k
gives_from s t (found r pv z) h k = even_trans s t z h k

gives_probe : (s : Memory) (x : Probed) (f : ℤ → ℕ → Memory → Outcome) (k : List ℕ → Memory → Outcome) →
    Leaves (Even s) x → ((v : ℤ) (m : ℕ) (t : Memory) → Even s t → Gives (Evenly s) (f v m t)) →
    ((ms : List ℕ) (t : Memory) → Even s t → Gives (Evenly s) (k ms t)) → Gives (Evenly s) (on_probe x f k)
unfolding on_probe
gives_probe s (known v m t) f k h i j = i v m t h
gives_probe s (missed ms t) f k h i j = j ms t h

module _ (G : Game) where
  module _ (below : Search G)
      (even : (p : G.Pos) (a b : ℤ) (pv : List ℕ) (prev : ℕ) (s : Memory) → Gives (Evenly s) (below p a b pv prev s))
      (p : G.Pos) (b : ℤ) (prev : ℕ) where
    moves_even : (ms : List ℕ) (a : ℤ) (pv low : List ℕ) (s : Memory) → Gives (Evenly s) (over_moves G below p b prev ms a pv low s)
    unfolding over_moves
    moves_even [] a pv low s = gives_found (Evenly s) a pv s refl
    moves_even (m ∷ ms) a pv low s = gives_next (Evenly s) (Evenly s) _ _ (even (G.play p m) (neg_ℤ b) (neg_ℤ a) low m s)
        (λ r low' t h. if_ind (Gives (Evenly s)) (lt_z a (neg_ℤ r)) _ _
        (λ _. if_ind (Gives (Evenly s)) (le_z b (neg_ℤ r)) _ _
        (λ _. gives_found (Evenly s) (neg_ℤ r) (m ∷ low') (cut (G.turn p) t prev m) (even_cut s t (G.turn p) prev m h))
        (λ _. gives_from s t _ h (moves_even ms (neg_ℤ r) (m ∷ low') low' t)))
        (λ _. gives_from s t _ h (moves_even ms a pv low' t)))

  search_even : (n : Allowance) (d : ℕ) (p : G.Pos) (a b : ℤ) (pv : List ℕ) (prev : ℕ) (s : Memory) →
      Gives (Evenly s) (search G n d p a b pv prev s)
  unfolding search
  search_even n zero p a b pv prev s =
      gives_entering (Evenly s) n s _ (gives_found (Evenly s) _ pv (leaf (enter s)) (even_leaf s))
  search_even n (suc d) p a b pv prev s = gives_entering (Evenly s) n s _ (if_ind (Gives (Evenly s)) (G.over p) _ _
      (λ _. gives_found (Evenly s) _ pv (leaf (enter s)) (even_leaf s))
      (λ _. gives_probe s (probe (enter s) (G.key p) (suc d) a b) _ _
      (even_probed s (suc d) a b (look_up (enter s).table (G.key p)))
      (λ v m t h. gives_found (Evenly s) v (set_first m pv) t h)
      (λ first t h. gives_next (Evenly s) (Evenly s) _ _
      (gives_from s t _ h
      (moves_even (search G n d) (search_even n d) p b prev (candidates G first t p prev pv) a pv (replicate d no_move) t))
      (λ r pv' u k. gives_found (Evenly s) r pv' _ (even_stored s u (G.key p) (suc d) a b r pv' k)))))

-- ---- the completed depths: what each has visited
visited_more : (ss : List Stats) (x : Stats) → visited_in (ss ++ (x ∷ [])) ≡ visited_in ss + x.tally.visited
unfolding total
visited_more [] x = omega arith
visited_more (s ∷ ss) x = omega (arith, visited_more ss x)

pub record StatsInOrder (w : Completed) : Type 0 where
  pub each : length w.stats ≡ w.depth
  pub each_depth : (i : ℕ) → i < w.depth → (get_or w.stats i no_stats).depth ≡ suc i
  pub last_score : (i : ℕ) → w.depth ≡ suc i → (get_or w.stats i no_stats).score ≡ w.score

in_order_deeper : (w : Completed) (r : ℤ) (pv : List ℕ) (t : Tally) → StatsInOrder w → StatsInOrder (one_deeper w r pv t)
in_order_deeper w r pv t h = record {
  each = omega (arith, length-append w.stats (x ∷ []), h.each);
  each_depth = λ i k. elim (lt_or i w.depth) [
    | inl l ↦ ap (λ (y : Stats). y.depth) (get_or-append w.stats (x ∷ []) no_stats i (omega (arith, h.each)))
        ∙ h.each_depth i l
    | inr l ↦ ap (λ (y : Stats). y.depth) (at_last i (omega arith)) ∙ ap suc (omega arith)
  ];
  last_score = λ i e. ap (λ (y : Stats). y.score) (at_last i (omega arith));
}
  where
    x : Stats
    x = record { depth = suc w.depth; score = r; tally = t }

    at_last : (i : ℕ) → w.depth ≡ i → get_or (w.stats ++ (x ∷ [])) i no_stats ≡ x
    at_last i e = get_or_at w.stats x [] no_stats i (h.each ∙ e)

-- unless stopped, all positions entered are some completed depth's
pub record StatsAddUp (x : SearchAnswer) : Type 0 where
  pub in_order : StatsInOrder x.completed
  pub all_visited : T (not x.is_stopped) → visited_in x.completed.stats ≡ x.memory.count

module _ (G : Game) (n : Allowance) (p : G.Pos) where
  deepen_adds_up : (k : ℕ) (w : Completed) (s : Memory) → StatsInOrder w → visited_in w.stats ≡ s.count →
      StatsAddUp (deepen G n k p w s)
  unfolding deepen begin
  deepen_adds_up zero w s h e = record { in_order = h; all_visited = λ _. e }
  deepen_adds_up (suc k) w s h e = on_outcome_gives (Evenly (begin s)) StatsAddUp _ _ _
      (search_even G n (suc w.depth) p lowest highest (w.pv ++ (no_move ∷ [])) no_move (begin s))
      (λ _. record { in_order = h; all_visited = λ t. absurd t })
      (λ r pv s' even. let o = in_order_deeper w r pv s'.tally h in
      let last : Stats = record { depth = suc w.depth; score = r; tally = s'.tally } in
      let v : visited_in (one_deeper w r pv s'.tally).stats ≡ s'.count = omega (arith, visited_more w.stats last, even) in
      if_ind StatsAddUp (decided r) _ _ (λ _. record { in_order = o; all_visited = λ _. v })
      (λ _. deepen_adds_up k (one_deeper w r pv s'.tally) s' o v))

  pub analyze_adds_up : (limit : ℕ) (s : Memory) → s.count ≡ 0 → StatsAddUp (analyze G n limit p s)
  unfolding analyze total
  analyze_adds_up limit s e = deepen_adds_up limit nothing_yet s
      (record { each = refl; each_depth = λ i h. absurd (omega arith); last_score = λ i h. absurd (omega arith) }) (sym e)

-- ---- with empty places after them
none_get_or : (k i : ℕ) → get_or (replicate k no_stats) i no_stats ≡ no_stats
none_get_or zero i = refl
none_get_or (suc k) zero = refl
none_get_or (suc k) (suc i) = none_get_or k i

pub filled_after : (ss : List Stats) (k i : ℕ) → length ss ≤ i → get_or (ss ++ replicate k no_stats) i no_stats ≡ no_stats
filled_after [] k i h = none_get_or k i
filled_after (s ∷ ss) k zero h = absurd (omega arith)
filled_after (s ∷ ss) k (suc i) h = filled_after ss k i (omega arith)

pub none_visited : (k : ℕ) → visited_in (replicate k no_stats) ≡ 0
unfolding total
none_visited zero = refl
none_visited (suc k) = omega (arith, none_visited k)

pub filled_visited : (ss : List Stats) (k : ℕ) → visited_in (ss ++ replicate k no_stats) ≡ visited_in ss
unfolding total
filled_visited [] k = none_visited k
filled_visited (s ∷ ss) k = omega (arith, filled_visited ss k)
