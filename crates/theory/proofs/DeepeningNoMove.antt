-- A position that is not over, of which no move is accepted and the table has no entry: depth 1 finds the window's lower edge, which ends
-- the search.
use Rattle.std.specs.Prelude.{None}
use mathlib.Core.Path.{◌≡◌, ap, ◌∙◌}
use mathlib.Core.Bool.{false}
use mathlib.Core.List.{List, [], ◌∷◌}
use Prim.Native.Nat.{ℕ, zero, suc, ◌≤◌, ◌<◌}
use native.Mathlib.Omega.{arith}
use lib.Dec.{T}
use borrow.Author.Tests.{lt-ltb}
use Rattle.base.specs.Branch.{when◌then◌else◌}
use Rattle.base.proofs.Lists.{no_member}
use Rattle.rules.specs.Play.{no_move}
use Rattle.theory.specs.Game.{Game}
use Rattle.theory.specs.PlainMinimax.{lowest, highest}
use Rattle.theory.specs.Table.{look_up}
use Rattle.theory.specs.Memory.{Memory, begin, enter}
use Rattle.theory.specs.OrderedSearch.{at_most, Outcome, found, unless_stopped, with_stored, candidates, over_moves, search}
use Rattle.theory.specs.Deepening.{nothing_yet, one_deeper, SearchAnswer, on_outcome, deepen, analyze}
use Rattle.theory.proofs.Memory.{count_begin, count_enter, count_told}
use Rattle.theory.proofs.OrderedSearchCandidates.{candidates_accepted}
use Rattle.theory.proofs.OrderedSearchArms.{search_none, over_none}

module _ (G : Game) (n : ℕ) (p : G.Pos) (s : Memory) where
  -- the memory after it: one position more is entered
  abbrev pub no_move_leaves : Memory
  no_move_leaves = with_stored (enter (begin s)) (G.key p) 1 lowest highest lowest (no_move ∷ [])

  abbrev pub no_move_answer : SearchAnswer
  no_move_answer = record {
    is_stopped = false;
    completed = one_deeper nothing_yet lowest (no_move ∷ []) no_move_leaves.tally;
    memory = no_move_leaves;
  }

  pub no_move_counts : no_move_leaves.count ≡ suc s.count
  no_move_counts = count_told (enter (begin s)) (G.key p) 1 lowest highest lowest (no_move ∷ [])
      ∙ count_enter (begin s) ∙ ap suc (count_begin s)

  module _ (Going_on : G.over p ≡ false) (none_accepted : (m : ℕ) → T (G.accepts p m) → ⊥)
      (unknown : look_up s.table (G.key p) ≡ None) (room : s.count < n) where
    abbrev pv : List ℕ
    pv = no_move ∷ []

    none_tried : candidates G [] (enter (begin s)) p no_move pv ≡ []
    none_tried = no_member _ (λ x i. none_accepted x (candidates_accepted G [] (enter (begin s)) p no_move pv x i))

    depth_1 : search G (at_most n) 1 p lowest highest pv no_move (begin s) ≡ found lowest pv no_move_leaves
    unfolding unless_stopped begin
    depth_1 =
        let below = search G (at_most n) 0 in
        let s₁ = enter (begin s) in
        search_none G (at_most n) 1 p lowest highest pv no_move (begin s) (lt-ltb s.count n room) (omega arith) Going_on unknown
        ∙ ap (λ (ms : List ℕ). unless_stopped (over_moves G below p highest no_move ms lowest pv [] s₁)
        (λ r l z. found r l (with_stored z (G.key p) 1 lowest highest r l))) none_tried
        ∙ ap (λ (o : Outcome). unless_stopped o (λ r l z. found r l (with_stored z (G.key p) 1 lowest highest r l)))
        (over_none G below p highest no_move lowest pv [] s₁)

    pub no_move_is_lowest : (limit : ℕ) → 1 ≤ limit → analyze G (at_most n) limit p s ≡ no_move_answer
    unfolding analyze deepen on_outcome when◌then◌else◌
    no_move_is_lowest zero k = absurd (omega arith)
    no_move_is_lowest (suc limit) k = rw depth_1
