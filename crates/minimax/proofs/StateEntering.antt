-- Entering a position: each way on from there is an arm of the definition, and each count is paid for by the position entered.
use Rattle.std.specs.Prelude.{Option, None, Some, option_map}
use mathlib.Core.Path.{◌≡◌, refl, sym, ap, ap₂, ◌∙◌, subst}
use mathlib.Core.Bool.{Bool, true, false, not, ◌||◌, true≢false}
use mathlib.Core.List.{List, []}
use Prim.Native.Nat.{ℕ, suc, ◌+◌, ◌-◌, ◌≤◌, ◌<◌}
use native.Mathlib.Omega.{arith}
use lib.Dec.{eqb}
use lib.IntN.{ℤ}
use lib.ListN.{set, replicate}
use borrow.Author.Tests.{lt-ltb, le-ltb, eqb-true, eqb-false}
use Rattle.rules.specs.Position.{unfinished}
use Rattle.rules.specs.Play.{no_move}
use Rattle.rules.specs.Evaluation.{evaluate}
use Rattle.theory.specs.Table.{Entry as Meant, look_up, suffices}
use Rattle.theory.specs.Memory.{Memory, enter, leaf, hit, answered}
use Rattle.theory.specs.OrderedSearch.{at_most, has_room, Outcome, found, unless_stopped, with_stored, candidates, over_moves}
use Rattle.theory.specs.OrderedSearch.{search}
use Rattle.theory.proofs.OrderedSearchArms.{search_stopped, search_leaf_zero, search_leaf_over, search_known, search_none, search_some}
use Rattle.boards.specs.declared.moves.Move.{Move}
use Rattle.game.specs.Meaning.{position_of}
use Rattle.table.specs.declared.Entry.{Entry}
use Rattle.table.specs.Entries.{entry_means}
use Rattle.minimax.specs.declared.search.SearchState.{SearchState}
use Rattle.minimax.specs.declared.search.Pv.{Pv}
use Rattle.minimax.specs.declared.search.Node.{Node}
use Rattle.minimax.specs.State.{node_scoring, memory_of, pv_of, node_game, node_outcome, over_left, over_all, outcome_of}
use Rattle.minimax.specs.State.{then_stored, NodeFits, Counted, Ready, NodeGives}
use Rattle.order.specs.Order.{listed}
use Rattle.minimax.proofs.StatePv.{set_first_place, set_first_drop, empty_places}

-- ---- counts: from s to m a position is entered, and k entries of the table are met
pub record Paid (k : ℕ) (s : SearchState) (m : Memory) : Type 0 where
  pub count_is : m.count ≡ suc s.count
  pub visited_is : m.tally.visited ≡ suc s.stats.visited
  pub terminal_is : m.tally.terminal ≡ s.stats.terminal
  pub cuts_is : m.tally.cuts ≡ s.stats.cuts
  pub hits_is : m.tally.tt_hit ≡ s.stats.tt_hit + k
  pub suffice_is : m.tally.tt_suffice ≡ s.stats.tt_suffice

module _ (s t : SearchState) (e : memory_of t [] ≡ enter (memory_of s [])) where
  pub entered_paid : Paid 0 s (memory_of t [])
  unfolding enter
  entered_paid =
      subst (Paid 0 s) (sym e)
      (record { count_is = refl; visited_is = refl; terminal_is = refl; cuts_is = refl; hits_is = omega arith; suffice_is = refl })

  pub hit_paid : (u : SearchState) → memory_of u [] ≡ hit (memory_of t []) → Paid 1 s (memory_of u [])
  unfolding enter hit
  hit_paid u f =
      subst (Paid 1 s) (sym (f ∙ ap hit e))
      (record { count_is = refl; visited_is = refl; terminal_is = refl; cuts_is = refl; hits_is = omega arith; suffice_is = refl })

paid_ready : (a : Node) (s t : SearchState) (k : ℕ) → k ≤ 1 → Counted a s → s.count < a.allowance → 0 < a.depth →
    Paid k s (memory_of t []) → Ready a t
paid_ready a s t k few counted more deep h = record {
  deep = deep;
  counted = record {
    within = omega (arith, h.count_is);
    visited_within = omega (arith, h.count_is, h.visited_is, counted.visited_within);
    terminal_within = omega (arith, h.count_is, h.terminal_is, counted.terminal_within);
    cuts_within = omega (arith, h.count_is, h.cuts_is, counted.cuts_within);
    hits_within = omega (arith, h.count_is, h.hits_is, counted.hits_within);
    suffice_within = omega (arith, h.count_is, h.suffice_is, counted.suffice_within);
  };
  room = omega (arith, h.count_is, h.cuts_is, counted.cuts_within);
}

-- ---- what is given at once
more_is : (a : Node) (s : SearchState) → s.count < a.allowance → has_room (at_most a.allowance) s.count ≡ true
more_is a s more = lt-ltb s.count a.allowance more

module _ (a : Node) (s : SearchState) (l : Pv) (words : List ℕ) where
  -- no position more may be entered
  pub stop_gives : a.allowance ≤ s.count → NodeGives a l None s l words (node_outcome a s l words)
  unfolding node_outcome
  stop_gives h = record { same = sym (search_stopped _ _ _ _ _ _ _ _ _ (le-ltb s.count a.allowance h)); places = refl }

  module _ (more : s.count < a.allowance) where
    leaf_is : (z : (eqb a.depth 0 || not (unfinished (position_of a.game))) ≡ true) →
        node_outcome a s l words ≡ found (evaluate (node_scoring a) (position_of a.game)) (pv_of l a.depth)
        (leaf (enter (memory_of s words)))
    unfolding node_outcome
    leaf_is = go (eqb a.depth 0) refl
      where
        go : (x : Bool) → eqb a.depth 0 ≡ x → (x || not (unfinished (position_of a.game))) ≡ true →
            search (node_game a) (at_most a.allowance) a.depth a.game a.alpha a.beta (pv_of l a.depth) a.prev.bits
            (memory_of s words) ≡ found (evaluate (node_scoring a) (position_of a.game)) (pv_of l a.depth)
            (leaf (enter (memory_of s words)))
        go true x z = search_leaf_zero _ _ _ _ _ _ _ _ _ (more_is a s more) (eqb-true a.depth 0 x)
        go false x z = search_leaf_over _ _ _ _ _ _ _ _ _ (more_is a s more) z

    -- a leaf
    pub leaf_gives : (s₁ : SearchState) → ((ws : List ℕ) → memory_of s₁ ws ≡ enter (memory_of s ws)) →
        (s₂ : SearchState) → ((ws : List ℕ) → memory_of s₂ ws ≡ leaf (memory_of s₁ ws))
        → (eqb a.depth 0 || not (unfinished (position_of a.game))) ≡ true
        → (z : ℤ) → z ≡ evaluate (node_scoring a) (position_of a.game) → NodeGives a l (Some z) s₂ l words (node_outcome a s l words)
    leaf_gives s₁ entered s₂ w t z q = record {
      same = ap₂ (λ (v : ℤ) (m : Memory). found v (pv_of l a.depth) m) q (w words ∙ ap leaf (entered words)) ∙ sym (leaf_is t);
      places = refl;
    }

-- ---- a position that may be entered, and the state after it is counted
pub record Begun : Type 0 where
  pub a : Node
  pub s : SearchState
  pub l : Pv
  pub words : List ℕ
  pub asked : NodeFits a
  pub counted : Counted a s
  pub more : s.count < a.allowance
  pub s₁ : SearchState
  pub entered : (ws : List ℕ) → memory_of s₁ ws ≡ enter (memory_of s ws)

-- it is no leaf, and the table is asked
pub record Looked (c : Begun) : Type 0 where
  pub x : Bool
  pub told_leaf : x ≡ (eqb c.a.depth 0 || not (unfinished (position_of c.a.game)))
  pub no_leaf : x ≡ false
  pub held : Option Entry
  pub key : ℕ
  pub key_is : key ≡ (node_game c.a).key c.a.game
  pub looked : option_map entry_means held ≡ look_up c.words key

-- the table has an entry
pub record Knows {c : Begun} (k : Looked c) : Type 0 where
  pub entry : Entry
  pub is_held : k.held ≡ Some entry
  pub s₂ : SearchState
  pub was_hit : (ws : List ℕ) → memory_of s₂ ws ≡ hit (memory_of c.s₁ ws)
  pub b : Bool
  pub told_suffices : b ≡ suffices (entry_means entry) c.a.depth c.a.alpha c.a.beta

-- what is left to search, with the table's move, from the state t
pub record Goes (c : Begun) (first : Option Move) (t : SearchState) : Type 0 where
  pub ready : Ready c.a t
  pub same : then_stored c.a (over_all c.a first t c.l c.words) ≡ node_outcome c.a c.s c.l c.words

-- ---- each count has room
pub may_leaf : (a : Node) (s s₁ : SearchState) → NodeFits a → Counted a s → s.count < a.allowance →
    memory_of s₁ [] ≡ enter (memory_of s []) → s₁.stats.terminal < 1000000000
may_leaf a s s₁ asked counted more e =
    omega (arith, (entered_paid s s₁ e).terminal_is, counted.terminal_within, more, asked.allowed)

module _ (c : Begun) where
  paid : Paid 0 c.s (memory_of c.s₁ [])
  paid = entered_paid c.s c.s₁ (c.entered [])

  pub may_hit : c.s₁.stats.tt_hit < 1000000000
  may_hit = omega (arith, paid.hits_is, c.counted.hits_within, c.more, c.asked.allowed)

  pub may_suffice : c.s₁.stats.tt_suffice < 1000000000
  may_suffice = omega (arith, paid.suffice_is, c.counted.suffice_within, c.more, c.asked.allowed)

-- ---- the table is asked
module _ {c : Begun} (k : Looked c) where
  abbrev a : Node
  a = c.a

  not_leaf : (eqb a.depth 0 ≡ false) × (not (unfinished (position_of a.game)) ≡ false)
  not_leaf = neither (eqb a.depth 0) _ (sym k.told_leaf ∙ k.no_leaf)
    where
      neither : (b c : Bool) → (b || c) ≡ false → (b ≡ false) × (c ≡ false)
      neither true c q = absurd (true≢false q)
      neither false c q = (refl, q)

  pub deep_enough : 0 < a.depth
  deep_enough = let n = eqb-false a.depth 0 not_leaf.0 in omega arith

  look_up_is : (o : Option Meant) → option_map entry_means k.held ≡ o → look_up c.words ((node_game a).key a.game) ≡ o
  look_up_is o q = ap (look_up c.words) (sym k.key_is) ∙ sym k.looked ∙ q

  -- over all moves, from the memory m
  abbrev from_memory : List ℕ → Memory → Outcome
  from_memory ms m = unless_stopped
      (over_moves (node_game a) (search (node_game a) (at_most a.allowance) (a.depth - 1)) a.game a.beta a.prev.bits ms
      a.alpha (pv_of c.l a.depth) (replicate (a.depth - 1) no_move) m)
      (λ r pv m'. found r pv (with_stored m' ((node_game a).key a.game) a.depth a.alpha a.beta r pv))

  abbrev tried : List ℕ → Memory → List ℕ
  tried first m = candidates (node_game a) first m a.game a.prev.bits (pv_of c.l a.depth)

  over_same : (first : Option Move) (s₂ : SearchState) (m : Memory) → memory_of s₂ c.words ≡ m →
      then_stored a (over_all a first s₂ c.l c.words) ≡ from_memory (tried (listed first) m) m
  unfolding then_stored over_all over_left
  over_same first s₂ m q = λ i. unless_stopped
      (over_moves (node_game a) (search (node_game a) (at_most a.allowance) (a.depth - 1)) a.game a.beta a.prev.bits
      (tried (listed first) (q i)) a.alpha (pv_of c.l a.depth)
      (sym (empty_places (a.depth - 1) 81 (omega (arith, c.asked.deep))) i) (q i))
      (λ r pv m'. found r pv (with_stored m' ((node_game a).key a.game) a.depth a.alpha a.beta r pv))

  -- it knows nothing
  pub none_goes : k.held ≡ None → Goes c None c.s₁
  unfolding node_outcome
  none_goes h = record {
    ready = paid_ready a c.s c.s₁ 0 (omega arith) c.counted c.more deep_enough (paid c);
    same =
        over_same None c.s₁ _ (c.entered c.words)
        ∙ sym (search_none _ _ _ _ _ _ _ _ _ (more_is a c.s c.more) deep_enough not_leaf.1
        (look_up_is None (ap (option_map entry_means) h)));
  }

module _ {c : Begun} {k : Looked c} (e : Knows k) where
  abbrev met : List ℕ → Memory
  met words = hit (enter (memory_of c.s words))

  met_is : (words : List ℕ) → memory_of e.s₂ words ≡ met words
  met_is words = e.was_hit words ∙ ap hit (c.entered words)

  -- what it knows suffices
  pub known_gives : e.b ≡ true → (s₃ : SearchState) → ((ws : List ℕ) → memory_of s₃ ws ≡ answered (memory_of e.s₂ ws))
      → (z : ℤ) → z ≡ e.entry.value → NodeGives c.a c.l (Some z) s₃ (record { moves = set c.l.moves 0 e.entry.pv }) c.words
      (node_outcome c.a c.s c.l c.words)
  unfolding node_outcome
  known_gives t s₃ w z q = record {
    same = (λ i. found (q i) (set_first_place c.l.moves e.entry.pv c.a.depth i) ((w c.words ∙ ap answered (met_is c.words)) i))
        ∙ sym (search_known _ _ _ _ _ _ _ _ _ (more_is c.a c.s c.more) (deep_enough k) (not_leaf k).1 (entry_means e.entry)
        (look_up_is k _ (ap (option_map entry_means) e.is_held)) (sym e.told_suffices ∙ t));
    places = set_first_drop c.l.moves e.entry.pv c.a.depth (deep_enough k);
  }

  -- it does not
  pub some_goes : e.b ≡ false → Goes c (Some e.entry.pv) e.s₂
  unfolding node_outcome
  some_goes t = record {
    ready =
        paid_ready c.a c.s e.s₂ 1 (omega arith) c.counted c.more (deep_enough k)
        (hit_paid c.s c.s₁ (c.entered []) e.s₂ (e.was_hit []));
    same = over_same k (Some e.entry.pv) e.s₂ _ (met_is c.words)
        ∙ sym (search_some _ _ _ _ _ _ _ _ _ (more_is c.a c.s c.more) (deep_enough k) (not_leaf k).1 (entry_means e.entry)
        (look_up_is k _ (ap (option_map entry_means) e.is_held)) (sym e.told_suffices ∙ t));
  }

-- ---- searched over its moves, and the table told
module _ {c : Begun} {first : Option Move} {t : SearchState} (h : Goes c first t) {s : SearchState} {pv : Pv} {words₁ : List ℕ} where
  -- what was found is stored
  pub goes_gives : {z : ℤ} → NodeGives c.a c.l (Some z) s pv words₁ (over_all c.a first t c.l c.words) → {y : ℤ} → y ≡ z →
      {words₂ : List ℕ} →
      ((u : SearchState) → outcome_of c.a (Some y) u pv words₂ ≡ then_stored c.a (outcome_of c.a (Some y) u pv words₁))
      → NodeGives c.a c.l (Some y) s pv words₂ (node_outcome c.a c.s c.l c.words)
  goes_gives g q w = record {
    same = w s ∙ ap (then_stored c.a) (ap (λ (x : ℤ). outcome_of c.a (Some x) s pv words₁) q ∙ g.same) ∙ h.same;
    places = g.places;
  }

  -- nothing, where the search was stopped
  pub goes_stops : NodeGives c.a c.l None s pv words₁ (over_all c.a first t c.l c.words) → {f : Option ℤ} → f ≡ None →
      NodeGives c.a c.l f s pv words₁ (node_outcome c.a c.s c.l c.words)
  unfolding then_stored unless_stopped
  goes_stops g q = record {
    same = ap (λ (x : Option ℤ). outcome_of c.a x s pv words₁) q ∙ ap (then_stored c.a) g.same ∙ h.same;
    places = g.places;
  }

-- the same, of another name for the move and the state
pub goes_on : {c : Begun} {first first' : Option Move} {t t' : SearchState} → first ≡ first' → t ≡ t' → Goes c first' t' →
    Goes c first t
goes_on {c} {first} {first'} {t} {t'} p q g =
    subst (λ (x : Option Move). Goes c x t) (sym p) (subst (λ (y : SearchState). Goes c first' y) (sym q) g)
