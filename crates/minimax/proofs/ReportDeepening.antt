-- One depth after another: what is left to search, from where the loop stands, is what there was to search at first.
use mathlib.Core.Path.{◌≡◌, refl, sym, ap, ap₂, ◌∙◌, subst}
use mathlib.Core.Bool.{Bool, true, false}
use mathlib.Core.List.{List, [], ◌∷◌, ◌++◌}
use Prim.Native.Nat.{ℕ, suc, ◌+◌, ◌-◌, ◌≤◌, ◌<◌}
use Rattle.std.specs.Prelude.{Option, None, Some}
use Rattle.std.proofs.lemmas.List.{drop-map}
use lib.IntN.{ℤ}
use native.Mathlib.Omega.{arith}
use lib.Dec.{T}
use lib.ListN.{length, drop, replicate}
use Rattle.base.specs.Branch.{when◌then◌else◌}
use Rattle.base.proofs.Integers.{hi, lo, zarith}
use Rattle.rules.specs.Play.{no_move}
use Rattle.rules.specs.Evaluation.{accepted_weights}
use Rattle.theory.specs.Limits.{console}
use Rattle.theory.specs.PlainMinimax.{lowest, highest}
use Rattle.theory.specs.Memory.{Memory, begin, fresh_memory}
use Rattle.theory.specs.OrderedSearch.{at_most, Outcome, found, search}
use Rattle.theory.specs.Deepening.{Completed, nothing_yet, one_deeper, SearchAnswer, decided, on_outcome, deepen, analyze}
use Rattle.theory.proofs.OrderedSearchGrowth.{Ends, search_allowed}
use Rattle.game.specs.declared.Game.{Game}
use Rattle.minimax.specs.declared.Config.{Config}
use Rattle.minimax.specs.declared.Minimax.{Minimax}
use Rattle.minimax.specs.declared.CompletedDepths.{CompletedDepths}
use Rattle.minimax.specs.declared.search.SearchState.{SearchState}
use Rattle.game.specs.Meaning.{position_of}
use Rattle.evaluation.specs.declared.Values.{Values}
use Rattle.evaluation.specs.Values.{values_of}
use Rattle.minimax.specs.declared.search.Node.{Node}
use Rattle.minimax.specs.declared.search.Pv.{Pv}
use Rattle.minimax.specs.Structs.{structs}
use Rattle.minimax.specs.State.{memory_of, pv_of, outcome_of, node_outcome, NodeFits, Counted, NodeGives}
use Rattle.minimax.specs.Completed.{completed_of}
use Rattle.minimax.specs.Report.{tally_of, scoring_of, answer_of, byte_of, bytes_of, responses_of}
use Rattle.minimax.proofs.ReportPlaces.{take_next, rest_next}
use Rattle.minimax.proofs.ReportAnswers.{bytes_empty}

-- k depths more, after the completed ones, w
abbrev deepened : Game → Config → ℕ → Completed → Memory → SearchAnswer
deepened g c k w m = deepen (structs (scoring_of c)) (at_most c.allowance) k g w m

-- what is left to search from there on
abbrev left_from : Game → Config → Completed → Memory → SearchAnswer
left_from g c w m = deepened g c (c.max_depth - w.depth) w m

pub record Going (g : Game) (c : Config) (words₀ : List ℕ) (whole₀ : CompletedDepths) (s₀ : SearchState) (words : List ℕ)
    (whole : CompletedDepths) (s : SearchState) : Type 0 where
  pub same : left_from g c (completed_of whole) (memory_of s words) ≡ left_from g c (completed_of whole₀) (memory_of s₀ words₀)
  pub most : whole.depth ≤ c.max_depth
  pub allowed : s.count ≤ c.allowance
  pub long : length words ≡ length words₀

-- ---- the loop at its beginning
-- the values of the root's boards
abbrev root_values : Game → Config → Values
root_values g c = record { boards = values_of c.weights (position_of g); weights = c.weights }

pub record Begun : Type 0 where
  pub m : Minimax
  pub g : Game
  pub c : Config
  pub words : List ℕ
  pub limits : (c.max_depth ≤ console.deepest) × (c.allowance ≤ console.positions) × T (accepted_weights c.weights)
  pub values : Values
  pub values_are : values ≡ root_values g c
  pub whole : CompletedDepths
  pub s : SearchState
  pub none : completed_of whole ≡ nothing_yet
  pub fresh : (ws : List ℕ) → memory_of s ws ≡ fresh_memory (responses_of m.responses) ws

module _ (b : Begun) where
  abbrev Goes : List ℕ → CompletedDepths → SearchState → Type 0
  Goes words whole s = Going b.g b.c b.words b.whole b.s words whole s

  abbrev all_of_it : SearchAnswer
  all_of_it = answer_of b.m b.g b.c b.words

  pub going_first : Goes b.words b.whole b.s
  going_first =
      let d : b.whole.depth ≡ 0 = ap (λ (w : Completed). w.depth) b.none in
      let n : b.s.count ≡ 0 = ap (λ (x : Memory). x.count) (b.fresh []) in
      record { same = refl; most = omega arith; allowed = omega arith; long = refl }

  abbrev left_first : SearchAnswer
  left_first = left_from b.g b.c (completed_of b.whole) (memory_of b.s b.words)

  going_all : left_first ≡ all_of_it
  unfolding analyze
  going_all = let e : b.c.max_depth - 0 ≡ b.c.max_depth = omega arith in
      ap₂ (λ (w : Completed) (x : Memory). left_from b.g b.c w x) b.none (b.fresh b.words)
      ∙ ap (λ (k : ℕ). deepened b.g b.c k nothing_yet (fresh_memory (responses_of b.m.responses) b.words)) e

  -- the limit is reached
  pub going_done : {words : List ℕ} {whole : CompletedDepths} {s : SearchState} → Goes words whole s →
      b.c.max_depth ≤ whole.depth → record {
        is_stopped = false;
        completed = completed_of whole;
        memory = memory_of s words;
      } ≡ all_of_it
  unfolding deepen
  going_done {words} {whole} {s} going h = let e : 0 ≡ b.c.max_depth - whole.depth = omega arith in
      ap (λ (k : ℕ). deepened b.g b.c k (completed_of whole) (memory_of s words)) e ∙ going.same ∙ going_all

-- ---- one depth more
-- its root's node
abbrev root_node : Game → Config → CompletedDepths → Values → Node
root_node g c whole values = record {
  game = g;
  depth = whole.depth + 1;
  alpha = lowest;
  beta = highest;
  prev = record { bits = no_move };
  draw_winner = c.draw_winner;
  allowance = c.allowance;
  values = values;
}

-- where the loop stands, and what it asks of the search
pub record Turn : Type 0 where
  pub begun : Begun
  pub words : List ℕ
  pub whole : CompletedDepths
  pub s : SearchState
  pub going : Goes begun words whole s
  pub more : whole.depth < begun.c.max_depth
  pub root : Node
  pub root_is : root ≡ root_node begun.g begun.c whole begun.values
  pub t : SearchState
  pub begins : (ws : List ℕ) → memory_of t ws ≡ begin (memory_of s ws)

module _ (x : Turn) where
  abbrev g : Game
  g = x.begun.g

  abbrev c : Config
  c = x.begun.c

  abbrev whole : CompletedDepths
  whole = x.whole

  root_valued : x.root ≡ root_node g c whole (root_values g c)
  root_valued = x.root_is ∙ ap (root_node g c whole) x.begun.values_are

  pub root_asked : NodeFits x.root
  unfolding hi lo
  root_asked = subst NodeFits (sym root_valued) (record {
    valued = refl;
    weighted = x.begun.limits.2;
    deep = omega (arith, x.begun.limits.0, x.more);
    alpha_within = record { low = omega zarith; high = omega zarith };
    beta_within = record { low = omega zarith; high = omega zarith };
    allowed = x.begun.limits.1;
  })

  pub root_counted : Counted x.root x.t
  unfolding begin
  root_counted =
      let n : x.t.count ≡ x.s.count = ap (λ (y : Memory). y.count) (x.begins []) in
      let v : x.t.stats.visited ≡ 0 = ap (λ (y : Memory). y.tally.visited) (x.begins []) in
      let l : x.t.stats.terminal ≡ 0 = ap (λ (y : Memory). y.tally.terminal) (x.begins []) in
      let k : x.t.stats.cuts ≡ 0 = ap (λ (y : Memory). y.tally.cuts) (x.begins []) in
      let h : x.t.stats.tt_hit ≡ 0 = ap (λ (y : Memory). y.tally.tt_hit) (x.begins []) in
      let f : x.t.stats.tt_suffice ≡ 0 = ap (λ (y : Memory). y.tally.tt_suffice) (x.begins []) in
      let a : x.root.allowance ≡ c.allowance = ap (λ (y : Node). y.allowance) root_valued in
      record {
        within = omega (arith, x.going.allowed);
        visited_within = omega arith;
        terminal_within = omega arith;
        cuts_within = omega arith;
        hits_within = omega arith;
        suffice_within = omega arith;
      }

  -- the search of the root, to a depth and along a variation
  abbrev searched : ℕ → List ℕ → Memory → Outcome
  searched d pv m = search (structs (scoring_of c)) (at_most c.allowance) d g lowest highest pv no_move m

  abbrev searched_next : Outcome
  searched_next = searched (suc whole.depth) (pv_of whole.pv whole.depth ++ (no_move ∷ [])) (begin (memory_of x.s x.words))

  one : whole.depth + 1 ≡ suc whole.depth
  one = omega arith

  -- the variation is longer by an empty move
  line_longer : pv_of whole.pv (suc whole.depth) ≡ pv_of whole.pv whole.depth ++ (no_move ∷ [])
  line_longer = take_next whole.depth (bytes_of whole.pv.moves) (replicate (81 - (whole.depth + 1)) no_move) no_move
      (drop-map byte_of whole.depth whole.pv.moves ∙ ap bytes_of whole.pv_empty ∙ bytes_empty (81 - whole.depth)
      ∙ rest_next whole.depth no_move (omega (arith, x.begun.limits.0, x.more)))

  abbrev rest : ℕ
  rest = c.max_depth - (whole.depth + 1)

  abbrev next_depth : Outcome → SearchAnswer
  next_depth o = on_outcome o
      (λ y. record { is_stopped = true; completed = completed_of whole; memory = y })
      (λ z pv y. let w = one_deeper (completed_of whole) z pv y.tally in
      when decided z then (λ _. record { is_stopped = false; completed = w; memory = y }) else λ _. deepened g c rest w y)

  module _ {r : Option ℤ} {s : SearchState} {pv : Pv} {words : List ℕ}
      (gives : NodeGives x.root whole.pv r s pv words (node_outcome x.root x.t whole.pv x.words)) where
    outcome_is : searched_next ≡ outcome_of x.root r s pv words
    unfolding node_outcome
    outcome_is =
        (λ i. searched (suc whole.depth) (sym line_longer i) (sym (x.begins x.words) i))
        ∙ ap (λ (d : ℕ). searched d (pv_of whole.pv d) (memory_of x.t x.words)) (sym one)
        ∙ sym (ap (λ (y : Node). node_outcome y x.t whole.pv x.words) root_valued) ∙ sym gives.same

    next_is : next_depth (outcome_of x.root r s pv words) ≡ left_first x.begun
    unfolding deepen
    next_is =
        let e : suc rest ≡ c.max_depth - whole.depth = omega (arith, x.more) in
        ap next_depth (sym outcome_is) ∙ ap (λ (k : ℕ). deepened g c k (completed_of whole) (memory_of x.s x.words)) e
        ∙ x.going.same

  -- the allowance is spent
  pub going_stopped : {s : SearchState} {pv : Pv} {words : List ℕ} →
      NodeGives x.root whole.pv None s pv words (node_outcome x.root x.t whole.pv x.words) →
      record { is_stopped = true; completed = completed_of whole; memory = memory_of s words } ≡ all_of_it x.begun
  unfolding on_outcome
  going_stopped gives = next_is gives ∙ going_all x.begun

  module _ {score : ℤ} {s : SearchState} {pv : Pv} {words : List ℕ}
      (gives : NodeGives x.root whole.pv (Some score) s pv words (node_outcome x.root x.t whole.pv x.words))
      (long : length words ≡ length x.words) where
    depth_is : x.root.depth ≡ whole.depth + 1
    depth_is = ap (λ (y : Node). y.depth) root_valued

    pub line_kept : drop (whole.depth + 1) pv.moves ≡ drop (whole.depth + 1) whole.pv.moves
    line_kept = subst (λ (d : ℕ). drop d pv.moves ≡ drop d whole.pv.moves) depth_is gives.places

    found_is : outcome_of x.root (Some score) s pv words ≡ found score (pv_of pv (whole.depth + 1)) (memory_of s words)
    found_is = ap (λ (d : ℕ). found score (pv_of pv d) (memory_of s words)) depth_is

    allowed_on : s.count ≤ c.allowance
    unfolding Ends begin
    allowed_on =
        subst (Ends (λ y. y.count ≤ c.allowance)) (outcome_is gives ∙ found_is) (search_allowed _ _ _ _ _ _ _ _ _ x.going.allowed)

    module _ {z : ℤ} (z_is : z ≡ score) (whole' : CompletedDepths)
        (deeper : completed_of whole' ≡ one_deeper (completed_of whole) z (pv_of pv (whole.depth + 1)) (tally_of s.stats))
        {b : Bool} (b_is : b ≡ decided whole'.score) where
      deeper_is : completed_of whole' ≡ one_deeper (completed_of whole) score (pv_of pv (whole.depth + 1)) (tally_of s.stats)
      deeper_is = deeper ∙ ap (λ (y : ℤ). one_deeper (completed_of whole) y (pv_of pv (whole.depth + 1)) (tally_of s.stats)) z_is

      decided_is : {a : Bool} → b ≡ a → decided score ≡ a
      decided_is q = ap decided (sym (ap (λ (w : Completed). w.score) deeper_is)) ∙ sym b_is ∙ q

      -- the score ends the search
      pub going_decided : b ≡ true → record {
        is_stopped = false;
        completed = completed_of whole';
        memory = memory_of s words;
      } ≡ all_of_it x.begun
      unfolding on_outcome when◌then◌else◌
      going_decided q =
          ap (λ (w : Completed). record { is_stopped = false; completed = w; memory = memory_of s words }) deeper_is
          ∙ sym (ap next_depth found_is ∙ rw (decided_is q)) ∙ next_is gives ∙ going_all x.begun

      -- it does not
      pub going_on : b ≡ false → Goes x.begun words whole' s
      unfolding on_outcome when◌then◌else◌
      going_on q =
          let d : whole'.depth ≡ suc whole.depth = ap (λ (w : Completed). w.depth) deeper_is in
          let k : c.max_depth - whole'.depth ≡ rest = omega arith in
          record {
            same =
                (λ i. deepened g c (k i) (deeper_is i) (memory_of s words))
                ∙ sym (ap next_depth found_is ∙ rw (decided_is q)) ∙ next_is gives;
            most = omega (arith, x.more);
            allowed = allowed_on;
            long = long ∙ x.going.long;
          }
