-- The table told of what was found, and the moves in their order.
use Rattle.std.specs.Prelude.{Option, None, Some}
use Rattle.std.specs.Option.{option_or}
use mathlib.Core.Path.{◌≡◌, refl, ap, ap₂, ◌∙◌}
use mathlib.Core.Bool.{Bool, true, false}
use mathlib.Core.List.{List, [], ◌∷◌, ◌++◌}
use Prim.Native.Nat.{ℕ}
use native.Mathlib.Omega.{arith}
use lib.Dec.{eqb}
use lib.IntN.{ℤ}
use lib.ListN.{get_or}
use Rattle.base.specs.Branch.{when◌then◌else◌}
use Rattle.rules.specs.Board.{other}
use Rattle.rules.specs.Play.{accepts, no_move}
use Rattle.rules.specs.Moves.{moves}
use Rattle.theory.specs.Table.{Entry as Meant, store, bound_of}
use Rattle.theory.specs.Memory.{some_move, hints, responses_to}
use Rattle.theory.specs.OrderedSearch.{found, unless_stopped, with_stored, fresh, candidates}
use Rattle.boards.specs.declared.moves.Move.{Move}
use Rattle.game.specs.Meaning.{position_of}
use Rattle.order.specs.declared.MoveOrder.{MoveOrder}
use Rattle.order.specs.Order.{listed, new_order, order_left}
use Rattle.order.proofs.OrderSteps.{new_order_means, order_new}
use Rattle.table.specs.declared.Entry.{Entry}
use Rattle.table.specs.Entries.{bound_number, entry_means}
use Rattle.minimax.specs.declared.search.SearchState.{SearchState}
use Rattle.minimax.specs.declared.search.Pv.{Pv}
use Rattle.minimax.specs.declared.search.Node.{Node}
use Rattle.minimax.specs.State.{memory_of, pv_of, node_game, outcome_of, then_stored}

-- ---- the table, told
pub told_found : (a : Node) (s : SearchState) (l : Pv) (z : ℤ) (words words' : List ℕ) (key : ℕ) (e : Entry)
    → key ≡ (node_game a).key a.game → words' ≡ store words key (entry_means e)
    → e.value ≡ z → e.depth ≡ a.depth → bound_number e.bound ≡ bound_of a.alpha a.beta z
    → e.pv.bits ≡ get_or (pv_of l a.depth) 0 no_move
    → outcome_of a (Some z) s l words' ≡ then_stored a (outcome_of a (Some z) s l words)
unfolding then_stored unless_stopped with_stored
told_found a s l z words words' key e k w v d b m =
    ap (λ (ws : List ℕ). found z (pv_of l a.depth) (memory_of s ws))
    (w ∙ ap₂ (λ (h : ℕ) (x : Meant). store words h x) k (λ i. record { value = v i; depth = d i; bound = b i; move = m i }))

-- ---- the moves in their order
pub empty_listed : (n : ℕ) → eqb n no_move ≡ true → [] ≡ some_move n
unfolding some_move when◌then◌else◌
empty_listed n e = rw e refl

pub move_listed : (n : ℕ) → eqb n no_move ≡ false → n ∷ [] ≡ some_move n
unfolding some_move when◌then◌else◌
move_listed n e = rw e refl

-- the response or the variation's move, of a response that may be empty
or_by : (n : ℕ) (v : Option Move) (b : Bool) (response : Option Move) → listed response ≡ (when b then (λ _. []) else λ _. n ∷ [])
    → listed (option_or response v) ≡ (when b then (λ _. listed v) else λ _. n ∷ [])
unfolding when◌then◌else◌
or_by n v true None e = refl
or_by n v true (Some m) e = absurd (let z : ◌≡◌ {A = ℕ} 0 1 = cc in omega arith)
or_by n v false None e = absurd (let z : ◌≡◌ {A = ℕ} 0 1 = cc in omega arith)
or_by n v false (Some m) e = e

module _ (a : Node) (s : SearchState) (words : List ℕ) (l : Pv) (response v : Option Move)
    (e : listed response ≡ some_move (get_or (responses_to (memory_of s words) (other a.game.next_player)) a.prev.bits no_move))
    (f : listed v ≡ some_move (get_or (pv_of l a.depth) 0 no_move)) where
  hinted : listed (option_or response v) ≡ hints a.game.next_player (memory_of s words) a.prev.bits (pv_of l a.depth)
  unfolding hints some_move
  hinted =
      let n = get_or (responses_to (memory_of s words) (other a.game.next_player)) a.prev.bits no_move in
      or_by n v (eqb n no_move) response e ∙ ap (λ (ms : List ℕ). when eqb n no_move then (λ _. ms) else λ _. n ∷ []) f

  -- what a move order has left at first are the candidates
  pub order_candidates : (first : Option Move) {second : Option Move} → second ≡ option_or response v → {w : MoveOrder}
      → w ≡ new_order a.game first second
      → order_left a.game w ≡ candidates (node_game a) (listed first) (memory_of s words) a.game a.prev.bits (pv_of l a.depth)
  unfolding candidates
  order_candidates first {second} q n =
      ap (order_left a.game) n ∙ order_new a.game (new_order a.game first second) _ (new_order_means a.game first second)
      ∙ ap (λ (hs : List ℕ). fresh (accepts (position_of a.game)) [] (listed first ++ (hs ++ moves (position_of a.game))))
      (ap listed q ∙ hinted)
