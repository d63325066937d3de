-- A position is entered, answered or searched over its moves, and each turn over the moves is one of the definition's.
use mathlib.Core.Path.{sym, ap, ◌∙◌}
use Prim.Native.Nat.{ℕ}
use native.Mathlib.Omega.{arith}
use mir.Syntax.{w64}
use mir.Val.{to_z}
use lib.IntN.{ℤ}
use lib.Signed.{le_z}
use Rattle.std.specs.Prelude.{Option}
use Rattle.boards.specs.declared.moves.Move.{Move}
use Rattle.minimax.specs.declared.search.SearchState.{SearchState}
use Rattle.base.proofs.Signed.{reads}
use Rattle.minimax.proofs.StateScores.{told, minus_fits, minus_reads}
use Rattle.minimax.proofs.StateSteps.{with_hit, was_hit, sufficed}
use Rattle.minimax.proofs.StateEntering.{Begun as Entering, Looked, Knows, Goes, may_hit, may_suffice}
use Rattle.minimax.proofs.StateEntering.{stop_gives, none_goes, known_gives, some_goes, goes_gives, goes_stops, goes_on}
use Rattle.minimax.proofs.StateMoves.{by_parts, stand, Held, Met, Brought, Raised, order_shorter}
use Rattle.minimax.proofs.StateMoves.{turn_done}
use Rattle.minimax.proofs.StateMoves.{under_asked, under_counted, under_lower, turn_stopped, score_within, cut_room, turn_not}
use Rattle.minimax.proofs.StateMoves.{turn_better, turn_cut}
use Rattle.minimax.proofs.search.+minimax_moves.Goals as goal
use Rattle.minimax.proofs.search.+minimax_moves.Goals.{minimax-After-enter, minimax-After-lookup, minimax-Joined-lookup}
use Rattle.minimax.proofs.search.+minimax_moves.Goals.{minimax-in_default, minimax-in-Some+else-suffices}
use Rattle.minimax.proofs.search.+minimax_moves.Goals.{moves-At-loop-child, moves-After-below-below, moves-Joined-is_leaf}
use Rattle.minimax.proofs.search.+minimax_moves.Goals.{moves-then-is_leaf+in_ok-score, moves-else-is_leaf+in_ok-score-2}

-- ---- the search of a position: no leaf, entered, and what the table has
abbrev entering : (t : ℕ) → minimax-After-enter t → Entering
entering t c = record {
  a = c.args.a;
  s = c.args.state.now;
  l = c.args.pv.now;
  words = c.args.words.now;
  asked = c.requires.0;
  counted = c.requires.1;
  more = c.if-state-a.false;
  s₁ = c.enter.new.self;
  entered = c.enter.ensures;
}

pub minimax-returns-then-state-a : goal.minimax-returns-then-state-a
minimax-returns-then-state-a t c = stop_gives c.args.a c.args.state.now c.args.pv.now c.args.words.now c.if-state-a.true

pub minimax-overflow_add-state : goal.minimax-overflow_add-state
minimax-overflow_add-state t c =
    let h = may_hit (entering t (goal.at.minimax-overflow_add-state t c).After-enter) in omega (arith, h)

pub minimax-overflow_add-state-then-suffices : goal.minimax-overflow_add-state-then-suffices
minimax-overflow_add-state-then-suffices t c =
    let h = may_suffice (entering t (goal.at.minimax-overflow_add-state-then-suffices t c).After-enter) in omega (arith, h)

-- it is no leaf, and the table is asked
abbrev looked : (t : ℕ) → minimax-After-lookup t → (e : Entering) × Looked e
looked t c = (
  record {
    a = c.args.a;
    s = c.args.state.now;
    l = c.args.pv.now;
    words = c.args.words.now;
    asked = c.requires.0;
    counted = c.requires.1;
    more = c.if-state-a.false;
    s₁ = c.enter.new.self;
    entered = c.enter.ensures;
  },
  record {
    x = c.is_leaf.result;
    told_leaf = c.is_leaf.ensures;
    no_leaf = c.if-is_leaf.false;
    held = c.lookup.result;
    key = c.zobrist.result;
    key_is = c.zobrist.ensures;
    looked = c.lookup.ensures;
  },
)

pub minimax-returns-then-suffices : goal.minimax-returns-then-suffices
minimax-returns-then-suffices t c =
    let x = looked t (goal.at.minimax-returns-then-suffices t c).After-lookup in
    let knows : Knows x.1 = record {
      entry = _;
      is_held = c.in-Some.is;
      s₂ = with_hit c.enter.new.self;
      was_hit = was_hit c.enter.new.self;
      b = c.suffices.result;
      told_suffices = c.suffices.ensures;
    } in
    known_gives knows c.if-suffices.true _ (sufficed (with_hit c.enter.new.self)) _ (told c.in-Some.e.value (omega arith))

-- what is left to search
abbrev Left : Type 0
Left = (e : Entering) × (first : Option Move) × (s : SearchState) × Goes e first s

abbrev left : (t : ℕ) → minimax-Joined-lookup t → Left
left t c =
    let e : Entering = record {
      a = c.args.a;
      s = c.args.state.now;
      l = c.args.pv.now;
      words = c.args.words.now;
      asked = c.requires.0;
      counted = c.requires.1;
      more = c.if-state-a.false;
      s₁ = c.enter.new.self;
      entered = c.enter.ensures;
    } in
    let k : Looked e = record {
      x = c.is_leaf.result;
      told_leaf = c.is_leaf.ensures;
      no_leaf = c.if-is_leaf.false;
      held = c.lookup.result;
      key = c.zobrist.result;
      key_is = c.zobrist.ensures;
      looked = c.lookup.ensures;
    } in (
      e,
      c.match-lookup.first,
      c.match-lookup.state,
      elim c.match-lookup.branch [
        | minimax-in_default w ↦ goes_on w.first-is w.state-is (none_goes k w.in_default.is)
        | minimax-in-Some+else-suffices w ↦ goes_on w.first-is w.state-is (some_goes {k = k} (record {
          entry = _;
          is_held = w.in-Some.is;
          s₂ = with_hit c.enter.new.self;
          was_hit = was_hit c.enter.new.self;
          b = w.suffices.result;
          told_suffices = w.suffices.ensures;
        }) w.if-suffices.false)
      ],
    )

pub minimax-moves-requires : goal.minimax-moves-requires
minimax-moves-requires t c =
    let x = left t (goal.at.minimax-moves-requires t c).Joined-lookup in (omega (arith, c.decreases), (c.requires.0, x.3.ready))

pub minimax-returns-in_err-score : goal.minimax-returns-in_err-score
minimax-returns-in_err-score t c =
    let x = left t (goal.at.minimax-returns-in_err-score t c).Joined-lookup in
    goes_stops x.3 c.in_err-score.ensures c.from_residual.ensures

pub minimax-returns : goal.minimax-returns
minimax-returns t c =
    let x = left t (goal.at.minimax-returns t c).Joined-lookup in
    goes_gives x.3 c.in_ok-score.ensures (told c.in_ok-score.score (omega arith)) c.store.ensures

-- ---- the search over its moves: where the loop begins and stands, the move that it meets, and what is found below that
abbrev held : (t : ℕ) → moves-At-loop-child t → Held
held t c = record {
  begun = record {
    a = c.args.a;
    first = c.args.first;
    from = stand c.args.words.now c.order-order.result c.args.state.now (reads c.args.a.alpha) c.args.pv.now c.empty-local.result;
    three = omega arith;
    asked = c.requires.0;
    ready = c.requires.1;
    order_is = c.order-order.ensures c.args.words.now;
    alpha_is = told c.args.a.alpha (omega arith);
    local_is = c.empty-local.ensures;
  };
  at = stand c.loop-child.words c.loop-child.order c.loop-child.state (to_z w64 c.loop-child.alpha-bits) c.loop-child.pv
      c.loop-child.local;
  turn = c.loop-child.invariant;
}

-- a move is met there
abbrev met : (t : ℕ) → moves-After-below-below t → (h : Held) × Met h
met t c =
    let h : Held = record {
      begun = record {
        a = c.args.a;
        first = c.args.first;
        from = stand c.args.words.now c.order-order.result c.args.state.now (reads c.args.a.alpha) c.args.pv.now c.empty-local.result;
        three = omega arith;
        asked = c.requires.0;
        ready = c.requires.1;
        order_is = c.order-order.ensures c.args.words.now;
        alpha_is = told c.args.a.alpha (omega arith);
        local_is = c.empty-local.ensures;
      };
      at = stand c.loop-child.words c.loop-child.order c.loop-child.state (to_z w64 c.loop-child.alpha-bits) c.loop-child.pv
          c.loop-child.local;
      turn = c.loop-child.invariant;
    } in
    let m : Met h = record {
      child = _;
      after = _;
      under = _;
      next = c.in-Some.ensures;
      under_is = c.below-below.ensures;
    } in
    (h, m)

pub moves-leaf-requires : goal.moves-leaf-requires
moves-leaf-requires t c =
    let m = (met t (goal.at.moves-leaf-requires t c).After-below-below).1 in
    (under_asked m, under_counted m, sym c.is_leaf.ensures ∙ c.if-is_leaf.true)

pub moves-minimax-requires : goal.moves-minimax-requires
moves-minimax-requires t c =
    let m = (met t (goal.at.moves-minimax-requires t c).After-below-below).1 in
    (omega (arith, under_lower m, c.decreases), (under_asked m, under_counted m))

-- stopped, at a leaf or by the search of the position
pub moves-returns-in_err-score : goal.moves-returns-in_err-score
moves-returns-in_err-score t c =
    let m = (met t (goal.at.moves-returns-in_err-score t c).After-below-below).1 in
    turn_stopped m (c.in_err-score.ensures c.loop-child.local c.loop-child.words) c.from_residual.ensures

pub moves-returns-in_err-score-2 : goal.moves-returns-in_err-score-2
moves-returns-in_err-score-2 t c =
    let m = (met t (goal.at.moves-returns-in_err-score-2 t c).After-below-below).1 in
    turn_stopped m c.in_err-score-2.ensures c.from_residual-in_err-score-2.ensures

-- ---- what is found below the move
abbrev Whole : Type 0
Whole = (h : Held) × (m : Met h) × Brought m

abbrev whole : (t : ℕ) → moves-Joined-is_leaf t → Whole
whole t c =
    let h : Held = record {
      begun = record {
        a = c.args.a;
        first = c.args.first;
        from = stand c.args.words.now c.order-order.result c.args.state.now (reads c.args.a.alpha) c.args.pv.now c.empty-local.result;
        three = omega arith;
        asked = c.requires.0;
        ready = c.requires.1;
        order_is = c.order-order.ensures c.args.words.now;
        alpha_is = told c.args.a.alpha (omega arith);
        local_is = c.empty-local.ensures;
      };
      at = stand c.loop-child.words c.loop-child.order c.loop-child.state (to_z w64 c.loop-child.alpha-bits) c.loop-child.pv
          c.loop-child.local;
      turn = c.loop-child.invariant;
    } in
    let m : Met h = record {
      child = _;
      after = _;
      under = _;
      next = c.in-Some.ensures;
      under_is = c.below-below.ensures;
    } in (
      h,
      m,
      record {
        score = to_z w64 c.if-is_leaf.score-bits;
        s = c.if-is_leaf.state;
        pv = c.if-is_leaf.local;
        words = c.if-is_leaf.words;
        gives = elim c.if-is_leaf.branch [
          | moves-then-is_leaf+in_ok-score w ↦ by_parts (w.in_ok-score.ensures c.loop-child.local c.loop-child.words)
              (w.score-is ∙ told w.in_ok-score.score (omega arith)) w.state-is w.local-is w.words-is
          | moves-else-is_leaf+in_ok-score-2 w ↦ by_parts w.in_ok-score-2.ensures
              (w.score-is ∙ told w.in_ok-score-2.score (omega arith)) w.state-is w.local-is w.words-is
        ];
        long = c.if-is_leaf.auto.words;
      },
    )

pub moves-overflow_sub-score : goal.moves-overflow_sub-score
moves-overflow_sub-score t c =
    let x = whole t (goal.at.moves-overflow_sub-score t c).Joined-is_leaf in minus_fits x.2.score (score_within x.2)

pub moves-overflow_sub-alpha : goal.moves-overflow_sub-alpha
moves-overflow_sub-alpha t c =
    let x = whole t (goal.at.moves-overflow_sub-alpha t c).Joined-is_leaf in minus_fits x.2.score (score_within x.2)

pub moves-cut-requires : goal.moves-cut-requires
moves-cut-requires t c =
    let x = whole t (goal.at.moves-cut-requires t c).Joined-is_leaf in
    cut_room x.2

pub moves-returns-then-alpha-a : goal.moves-returns-then-alpha-a
moves-returns-then-alpha-a t c =
    let x = whole t (goal.at.moves-returns-then-alpha-a t c).Joined-is_leaf in
    let y : Raised x.2 = record {
      alpha = _;
      alpha_is = minus_reads x.2.score (score_within x.2);
      better = c.if-score-alpha.true;
      pv = c.put.new.self;
      raises = c.put.ensures;
    } in
    turn_cut y (sym (ap (λ (z : ℤ). le_z z y.alpha) (told c.args.a.beta (omega arith))) ∙ c.if-alpha-a.true) c.cut.ensures

pub moves-loop-child-smaller-else-alpha-a : goal.moves-loop-child-smaller-else-alpha-a
moves-loop-child-smaller-else-alpha-a t c =
    let x = whole t (goal.at.moves-loop-child-smaller-else-alpha-a t c).Joined-is_leaf in
    order_shorter x.1

pub moves-loop-child-preserved-else-alpha-a : goal.moves-loop-child-preserved-else-alpha-a
moves-loop-child-preserved-else-alpha-a t c =
    let x = whole t (goal.at.moves-loop-child-preserved-else-alpha-a t c).Joined-is_leaf in
    let y : Raised x.2 = record {
      alpha = _;
      alpha_is = minus_reads x.2.score (score_within x.2);
      better = c.if-score-alpha.true;
      pv = c.put.new.self;
      raises = c.put.ensures;
    } in
    turn_better y (sym (ap (λ (z : ℤ). le_z z y.alpha) (told c.args.a.beta (omega arith))) ∙ c.if-alpha-a.false)

pub moves-loop-child-smaller : goal.moves-loop-child-smaller
moves-loop-child-smaller t c =
    let x = whole t (goal.at.moves-loop-child-smaller t c).Joined-is_leaf in
    order_shorter x.1

pub moves-loop-child-preserved : goal.moves-loop-child-preserved
moves-loop-child-preserved t c =
    let x = whole t (goal.at.moves-loop-child-preserved t c).Joined-is_leaf in
    turn_not x.2 (minus_reads x.2.score (score_within x.2)) c.if-score-alpha.false

pub moves-returns : goal.moves-returns
moves-returns t c = turn_done (held t (goal.at.moves-returns t c).At-loop-child) c.in_default.ensures
