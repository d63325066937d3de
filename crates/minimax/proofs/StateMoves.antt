-- One turn of the loop over a position's moves: what is left, searched from where it stands, is what there was to search at first.
use Rattle.std.specs.Prelude.{Option, None, Some}
use mathlib.Core.Path.{◌≡◌, refl, sym, ap, ◌∙◌, subst}
use mathlib.Core.Bool.{Bool, true, false}
use mathlib.Core.List.{List, ◌∷◌}
use Prim.Native.Nat.{ℕ, ◌+◌, ◌-◌, ◌*◌, ◌≤◌, ◌<◌}
use native.Mathlib.Omega.{arith}
use lib.Dec.{T}
use lib.IntN.{ℤ, neg_ℤ}
use lib.ListN.{length, drop}
use lib.Signed.{le_z, lt_z, ◌≤ℤ◌}
use Rattle.base.proofs.Bool.{is}
use Rattle.base.proofs.Integers.{hi, lo, zarith}
use mathlib.Core.Logic.{inl, inr}
use Rattle.rules.specs.Position.{unfinished}
use Rattle.rules.specs.Play.{board_of}
use Rattle.rules.specs.Evaluation.{accepted_weights, Scoring, evaluate}
use Rattle.rules.proofs.Evaluation.{value_inside, finished_within}
use Rattle.rules.specs.Position.{Position}
use Rattle.theory.specs.PlainMinimax.{lowest, highest}
use Rattle.theory.specs.Memory.{Memory, cut}
use Rattle.theory.specs.OrderedSearch.{at_most, Outcome, found, candidates, over_moves, search}
use Rattle.theory.proofs.OrderedSearch.{Gives as Finds}
use Rattle.theory.proofs.OrderedSearchArms.{over_stopped, over_not, over_better, over_cut, over_none}
use Rattle.theory.proofs.OrderedSearchGrowth.{Ends, Grown, grown_refl, grown_trans, search_grows, search_allowed}
use Rattle.theory.proofs.OrderedSearchRange.{search_range}
use Rattle.boards.specs.declared.moves.Move.{Move}
use Rattle.game.specs.declared.Game.{Game}
use Rattle.game.specs.Meaning.{position_of}
use Rattle.game.specs.After.{game_after}
use Rattle.evaluation.proofs.ValuesAfter.{carried}
use Rattle.order.specs.declared.MoveOrder.{MoveOrder}
use Rattle.order.specs.declared.NextMove.{NextMove}
use Rattle.minimax.specs.declared.search.SearchState.{SearchState}
use Rattle.minimax.specs.declared.search.Pv.{Pv}
use Rattle.minimax.specs.declared.search.Node.{Node}
use Rattle.order.specs.Order.{listed, order_left, NextOf}
use Rattle.order.proofs.OrderSteps.{next_ends, next_goes}
use Rattle.minimax.specs.State.{node_scoring, memory_of, pv_of, empty_pv, node_game, outcome_of, node_outcome, over_left, over_all}
use Rattle.minimax.specs.State.{values_below, Within, NodeFits, Counted, Ready, NodeGives}
use Rattle.minimax.proofs.StateScores.{neg_within}

-- ---- every value is within the root's window
pub value_within : (sc : Scoring) → T (accepted_weights sc.weights) → (p : Position) →
    (lowest ≤ℤ evaluate sc p) × (evaluate sc p ≤ℤ highest)
unfolding hi lo
value_within sc a p = elim (is (unfinished p)) [
  | inl t ↦ let h = value_inside sc a p t in (omega (zarith, h.0), omega (zarith, h.1))
  | inr t ↦ let h = finished_within sc p t in (omega (zarith, h.0), omega (zarith, h.1))
]

-- ---- what is found, told by its parts
pub by_parts : {a : Node} {l : Pv} {o : Outcome} {z : ℤ} {s : SearchState} {pv : Pv} {ws : List ℕ} → NodeGives a l (Some z) s pv ws o
    → {y : ℤ} {t : SearchState} {k : Pv} {vs : List ℕ} → y ≡ z → t ≡ s → k ≡ pv → vs ≡ ws → NodeGives a l (Some y) t k vs o
by_parts {a} {pv = pv} g {y} {t} {k} {vs} ez es ek ew = record {
  same = (λ i. outcome_of a (Some (ez i)) (es i) (ek i) (ew i)) ∙ g.same;
  places = ap (λ (x : Pv). drop a.depth x.moves) ek ∙ g.places;
}

-- ---- where the loop stands
pub record Stand : Type 0 where
  pub words : List ℕ
  pub order : MoveOrder
  pub s : SearchState
  pub alpha : ℤ
  pub pv : Pv
  pub local : Pv

abbrev pub stand : List ℕ → MoveOrder → SearchState → ℤ → Pv → Pv → Stand
stand words order s alpha pv local = record { words = words; order = order; s = s; alpha = alpha; pv = pv; local = local }

-- what there is to search from there
abbrev pub left_from : Node → Stand → Outcome
left_from a x = over_left a (order_left a.game x.order) x.alpha x.pv x.local x.s x.words

-- at its beginning, with the table's move
pub record Begun : Type 0 where
  pub a : Node
  pub first : Option Move
  pub from : Stand
  pub three : length a.game.local_boards.rows ≡ 3
  pub asked : NodeFits a
  pub ready : Ready a from.s
  pub order_is : order_left a.game from.order ≡ candidates (node_game a) (listed first)
      (memory_of from.s from.words) a.game a.prev.bits (pv_of from.pv a.depth)
  pub alpha_is : from.alpha ≡ a.alpha
  pub local_is : from.local ≡ empty_pv

-- at a turn
pub record Turn (a : Node) (from at : Stand) : Type 0 where
  pub same : left_from a at ≡ left_from a from
  pub grown : Grown 0 (memory_of from.s from.words) (memory_of at.s at.words)
  pub allowed : at.s.count ≤ a.allowance
  pub score : Within at.alpha
  pub places : drop a.depth at.pv.moves ≡ drop a.depth from.pv.moves
  pub long : length at.words ≡ length from.words

pub record Held : Type 0 where
  pub begun : Begun
  pub at : Stand
  pub turn : Turn begun.a begun.from at

-- a move is met there, and asked about
pub record Met (h : Held) : Type 0 where
  pub child : NextMove
  pub after : MoveOrder
  pub under : Node
  pub next : NextOf h.begun.a.game h.at.order (Some child) after
  pub under_is : under ≡ record {
    game = child.game;
    depth = h.begun.a.depth - 1;
    alpha = neg_ℤ h.begun.a.beta;
    beta = neg_ℤ h.at.alpha;
    prev = child.m;
    draw_winner = h.begun.a.draw_winner;
    allowance = h.begun.a.allowance;
    values = values_below h.begun.a child;
  }

-- and this is found below it
pub record Brought {h : Held} (m : Met h) : Type 0 where
  pub score : ℤ
  pub s : SearchState
  pub pv : Pv
  pub words : List ℕ
  pub gives : NodeGives m.under h.at.local (Some score) s pv words (node_outcome m.under h.at.s h.at.local h.at.words)
  pub long : length words ≡ length h.at.words

-- and raises the lower edge
pub record Raised {h : Held} {m : Met h} (x : Brought m) : Type 0 where
  pub alpha : ℤ
  pub alpha_is : alpha ≡ neg_ℤ x.score
  pub better : lt_z h.at.alpha alpha ≡ true
  pub pv : Pv
  pub raises : (pv_of pv h.begun.a.depth ≡ m.child.m.bits ∷ pv_of x.pv (h.begun.a.depth - 1))
      × (drop h.begun.a.depth pv.moves ≡ drop h.begun.a.depth h.at.pv.moves)

-- what the loop is to give
abbrev pub Answers : Begun → Option ℤ → SearchState → Pv → List ℕ → Type 0
Answers b r s pv words = NodeGives b.a b.from.pv r s pv words (over_all b.a b.first b.from.s b.from.pv b.from.words)

module _ (b : Begun) where
  pub turn_first : Turn b.a b.from b.from
  turn_first = record {
    same = refl;
    grown = grown_refl;
    allowed = b.ready.counted.within;
    score = subst Within (sym b.alpha_is) b.asked.alpha_within;
    places = refl;
    long = refl;
  }

  -- what there is to search at the beginning is what there is over all moves
  whole_is : {r : Option ℤ} {s : SearchState} {pv : Pv} {words : List ℕ} → NodeGives b.a b.from.pv r s pv words (left_from b.a b.from)
      → Answers b r s pv words
  unfolding over_all
  whole_is g = record {
    same = g.same ∙ (λ i. over_left b.a (b.order_is i) (b.alpha_is i) b.from.pv (b.local_is i) b.from.s b.from.words);
    places = g.places;
  }

module _ (h : Held) where
  abbrev a : Node
  a = h.begun.a

  abbrev at : Stand
  at = h.at

  -- over a list of moves from there
  abbrev over : List ℕ → Outcome
  over ms = over_left a ms at.alpha at.pv at.local at.s at.words

  -- no move is left
  pub turn_done : {after : MoveOrder} → NextOf a.game at.order None after → Answers h.begun (Some at.alpha) at.s at.pv at.words
  unfolding over_left
  turn_done n = whole_is h.begun (record {
    same = sym (over_none _ _ _ _ _ _ _ _ _) ∙ sym (ap over (next_ends _ _ _ n).0) ∙ h.turn.same;
    places = h.turn.places;
  })

module _ {h : Held} (m : Met h) where
  pub under_asked : NodeFits m.under
  under_asked = subst NodeFits (sym m.under_is) (record {
    valued =
        carried (a h).values.weights (a h).game m.child.game m.child.m.bits (board_of m.child.m.bits)
        (a h).values.boards h.begun.three h.begun.asked.valued (next_goes _ _ _ m.child m.next).1 refl;
    weighted = h.begun.asked.weighted;
    deep = omega (arith, h.begun.asked.deep);
    alpha_within = neg_within (a h).beta h.begun.asked.beta_within;
    beta_within = neg_within (at h).alpha h.turn.score;
    allowed = h.begun.asked.allowed;
  })

  pub under_counted : Counted m.under (at h).s
  under_counted = let c = h.begun.ready.counted in let g = h.turn.grown in
      subst (λ (u : Node). Counted u (at h).s) (sym m.under_is) (record {
        within = h.turn.allowed;
        visited_within = omega (arith, g.visited_up, c.visited_within);
        terminal_within = omega (arith, g.terminal_up, c.terminal_within);
        cuts_within = omega (arith, g.cuts_up, c.cuts_within);
        hits_within = omega (arith, g.hits_up, c.hits_within);
        suffice_within = omega (arith, g.suffice_up, c.suffice_within);
      })

  depth_is : m.under.depth ≡ (a h).depth - 1
  depth_is = ap (λ (u : Node). u.depth) m.under_is

  -- the depth falls
  pub under_lower : 2 * m.under.depth + 1 < 2 * (a h).depth
  under_lower = omega (arith, depth_is, h.begun.ready.deep)

  abbrev rest : List ℕ
  rest = order_left (a h).game m.after

  left_is : over h (m.child.m.bits ∷ rest) ≡ left_from (a h) h.begun.from
  left_is = sym (ap (over h) (next_goes _ _ _ m.child m.next).0) ∙ h.turn.same

  -- the search of the game after the move
  abbrev below_after : Game → Outcome
  below_after g = search (node_game (a h)) (at_most (a h).allowance) ((a h).depth - 1) g (neg_ℤ (a h).beta) (neg_ℤ (at h).alpha)
      (pv_of (at h).local ((a h).depth - 1)) m.child.m.bits (memory_of (at h).s (at h).words)

  below_is : {r : Option ℤ} {s : SearchState} {pv : Pv} {words : List ℕ} →
      NodeGives m.under (at h).local r s pv words (node_outcome m.under (at h).s (at h).local (at h).words)
      → below_after (game_after (a h).game m.child.m.bits) ≡ outcome_of m.under r s pv words
  unfolding node_outcome
  below_is g =
      ap below_after (sym (next_goes _ _ _ m.child m.next).1)
      ∙ sym (ap (λ (u : Node). node_outcome u (at h).s (at h).local (at h).words) m.under_is) ∙ sym g.same

  pub order_shorter : length rest < length (order_left (a h).game (at h).order)
  order_shorter = rw (next_goes _ _ _ m.child m.next).0 (omega arith)

  -- the allowance is spent below
  pub turn_stopped : {s : SearchState} {local : Pv} {words : List ℕ} →
      NodeGives m.under (at h).local None s local words (node_outcome m.under (at h).s (at h).local (at h).words)
      → {f : Option ℤ} → f ≡ None → Answers h.begun f s (at h).pv words
  unfolding over_left
  turn_stopped {s} {words = words} g q = whole_is h.begun (record {
    same = ap (λ (x : Option ℤ). outcome_of (a h) x s (at h).pv words) q
        ∙ sym (over_stopped _ _ _ _ _ _ _ _ _ _ _ _ (below_is g)) ∙ left_is;
    places = h.turn.places;
  })

module _ {h : Held} {m : Met h} (x : Brought m) where
  abbrev s' : Memory
  s' = memory_of x.s x.words

  found_is : below_after m (game_after (a h).game m.child.m.bits) ≡ found x.score (pv_of x.pv ((a h).depth - 1)) s'
  found_is = below_is m x.gives ∙ ap (λ (d : ℕ). found x.score (pv_of x.pv d) s') (depth_is m)

  pub score_within : Within x.score
  unfolding Finds
  score_within =
      let low = neg_within (a h).beta h.begun.asked.beta_within in
      let high = neg_within (at h).alpha h.turn.score in
      let w = subst (Finds (λ z _ _. (lowest ≤ℤ z) × (z ≤ℤ highest))) found_is
      (search_range (node_game (a h)) (λ g. value_within (node_scoring (a h)) h.begun.asked.weighted (position_of g)) _ _ _ _ _ _ _ _
      low.low low.high high.low high.high) in
      record { low = w.0; high = w.1 }

  grown_on : Grown 0 (memory_of h.begun.from.s h.begun.from.words) s'
  unfolding Ends
  grown_on =
      grown_trans h.turn.grown (subst (Ends (Grown 0 (memory_of (at h).s (at h).words))) found_is (search_grows _ _ _ _ _ _ _ _ _))

  allowed_on : x.s.count ≤ (a h).allowance
  unfolding Ends
  allowed_on = subst (Ends (λ z. z.count ≤ (a h).allowance)) found_is (search_allowed _ _ _ _ _ _ _ _ _ h.turn.allowed)

  pub cut_room : x.s.stats.cuts < 1000000000
  cut_room = omega (arith, grown_on.cuts_up, h.begun.ready.room, allowed_on, h.begun.asked.allowed)

  -- the move is no better
  pub turn_not : {z : ℤ} → z ≡ neg_ℤ x.score → lt_z (at h).alpha z ≡ false
      → Turn (a h) h.begun.from (stand x.words m.after x.s (at h).alpha (at h).pv x.pv)
  unfolding over_left
  turn_not e t = record {
    same = sym (over_not _ _ _ _ _ _ _ _ _ _ _ _ _ _ found_is (ap (lt_z (at h).alpha) (sym e) ∙ t)) ∙ left_is m;
    grown = grown_on;
    allowed = allowed_on;
    score = h.turn.score;
    places = h.turn.places;
    long = x.long ∙ h.turn.long;
  }

module _ {h : Held} {m : Met h} {x : Brought m} (y : Raised x) where
  better_score : lt_z (at h).alpha (neg_ℤ x.score) ≡ true
  better_score = ap (lt_z (at h).alpha) (sym y.alpha_is) ∙ y.better

  reaches : (t : Bool) → le_z (a h).beta y.alpha ≡ t → le_z (a h).beta (neg_ℤ x.score) ≡ t
  reaches t e = ap (le_z (a h).beta) (sym y.alpha_is) ∙ e

  -- the move is better
  pub turn_better : le_z (a h).beta y.alpha ≡ false → Turn (a h) h.begun.from (stand x.words m.after x.s y.alpha y.pv x.pv)
  unfolding over_left
  turn_better t = record {
    same =
        (λ i. over_moves (node_game (a h)) (search (node_game (a h)) (at_most (a h).allowance) ((a h).depth - 1)) (a h).game (a h).beta
        (a h).prev.bits (rest m) (y.alpha_is i) (y.raises.0 i) (pv_of x.pv ((a h).depth - 1)) (s' x))
        ∙ sym (over_better _ _ _ _ _ _ _ _ _ _ _ _ _ _ (found_is x) better_score (reaches false t)) ∙ left_is m;
    grown = grown_on x;
    allowed = allowed_on x;
    score = subst Within (sym y.alpha_is) (neg_within x.score (score_within x));
    places = y.raises.1 ∙ h.turn.places;
    long = x.long ∙ h.turn.long;
  }

  -- it reaches the upper edge
  pub turn_cut : le_z (a h).beta y.alpha ≡ true → {s : SearchState} →
      ((ws : List ℕ) → memory_of s ws ≡ cut (a h).game.next_player (memory_of x.s ws) (a h).prev.bits m.child.m.bits)
      → Answers h.begun (Some y.alpha) s y.pv x.words
  unfolding over_left
  turn_cut t w = whole_is h.begun (record {
    same = (λ i. found (y.alpha_is i) (y.raises.0 i) (w x.words i))
        ∙ sym (over_cut _ _ _ _ _ _ _ _ _ _ _ _ _ _ (found_is x) better_score (reaches true t)) ∙ left_is m;
    places = y.raises.1 ∙ h.turn.places;
  })
