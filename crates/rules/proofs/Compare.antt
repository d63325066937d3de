-- Laws of what is counted of a position and of the Rust's comparison. A move fills an empty cell of an open board and opens none, so the
-- bound falls.
use Rattle.std.specs.Prelude.{Option, None, Some}
use mathlib.Core.Path.{◌≡◌, refl, sym, ap, subst}
use mathlib.Core.Bool.{Bool, true, false, cond}
use mathlib.Core.List.{List, [], ◌∷◌}
use mathlib.Core.Logic.{◌↔◌, inl, inr}
use Prim.Native.Nat.{ℕ, ◌+◌, ◌≤◌, ◌<◌}
use native.Mathlib.Omega.{arith}
use lib.Dec.{T, eqb→eq, eqb_refl}
use Rattle.base.specs.Lists.{all, count, In, total}
use Rattle.base.specs.Update.{update}
use Rattle.base.proofs.Bool.{and→, →and, ◌⇒◌, ⇒→, →⇒}
use Rattle.base.proofs.Lists.{all_each, each_all}
use Rattle.base.proofs.Update.{update_ind, update_at, update_ind₂}
use Rattle.rules.specs.declared.CellState.{CellState}
use Rattle.rules.specs.declared.CellState.TheVariants.{Empty, Played}
use Rattle.rules.specs.declared.GameState.{GameState}
use Rattle.rules.specs.declared.GameState.TheVariants.{InPlay, Drawn, Won}
use Rattle.rules.specs.Board.{same, blank, same_cell, same_state, in_play, nine}
use Rattle.rules.specs.Position.{same_next_board, Position, start, open_board, free_cell}
use Rattle.rules.specs.Play.{board_of, cell_of, accepts, after, tried}
use Rattle.rules.specs.Compare.{bound_depth, open_boards, equivalent}
use Rattle.rules.proofs.Board.{same_self, same→eq, in_nine, nine_in}
use Rattle.rules.proofs.Play.{Legal, accepts→, tried_accepted}
use Rattle.rules.proofs.Sound.{row, made}

-- ---- sums over a list
total_le : (f g : ℕ → ℕ) (xs : List ℕ) → ((i : ℕ) → f i ≤ g i) → total f xs ≤ total g xs
unfolding total
total_le f g [] h = omega arith
total_le f g (x ∷ xs) h = omega (arith, h x, total_le f g xs h)

-- one place less makes the sum less
total_lt : (f g : ℕ → ℕ) (b : ℕ) (xs : List ℕ) → In b xs → ((i : ℕ) → f i ≤ g i) → f b < g b →
    total f xs < total g xs
unfolding total
total_lt f g b [] k h d = absurd k
total_lt f g b (x ∷ xs) (inl e) h d = let d' = subst (λ (i : ℕ). f i < g i) e d in omega (arith, d', total_le f g xs h)
total_lt f g b (x ∷ xs) (inr k) h d = omega (arith, h x, total_lt f g b xs k h d)

count_keeps : (f : ℕ → Bool) (xs : List ℕ) → count f xs ≡ total (λ i. cond (f i) 1 0) xs
unfolding count total
count_keeps f [] = refl
count_keeps f (x ∷ xs) = ap (λ (n : ℕ). cond (f x) 1 0 + n) (count_keeps f xs)

-- ---- the empty cells of a board that is in play
empty_cells : GameState → (ℕ → CellState) → ℕ
empty_cells g r = cond (in_play g) (count (λ c. blank (r c)) nine) 0

module _ (p : Position) (b c : ℕ) (l : Legal p b c) where
  filled_le : (i : ℕ) → cond (blank (row p b c i)) 1 0 ≤ cond (free_cell p b i) 1 0
  filled_le i =
      update_ind (λ (s : CellState). cond (blank s) 1 0 ≤ cond (free_cell p b i) 1 0) (p.cells b) c (Played p.turn) i
      (λ _. omega arith) (omega arith)

  filled_lt : cond (blank (row p b c c)) 1 0 < cond (free_cell p b c) 1 0
  filled_lt =
      update_at (λ (s : CellState). cond (blank s) 1 0 < cond (free_cell p b c) 1 0) (p.cells b) c (Played p.turn)
      (one (free_cell p b c) l.empty)
    where
      one : (t : Bool) → T t → 0 < cond t 1 0
      one true t = omega arith
      one false t = absurd t

  row_lt : count (λ i. blank (row p b c i)) nine < count (free_cell p b) nine
  row_lt = omega (
    arith,
    count_keeps (λ i. blank (row p b c i)) nine,
    count_keeps (free_cell p b) nine,
    total_lt (λ i. cond (blank (row p b c i)) 1 0) (λ i. cond (free_cell p b i) 1 0) c nine (in_nine c l.cell) filled_le filled_lt,
  )

  board_lt : (g : GameState) → empty_cells g (row p b c) < empty_cells (p.states b) (p.cells b)
  unfolding empty_cells
  board_lt g = less (in_play g) (open_board p b) l.opened
    where
      less : (s t : Bool) → T t → cond s (count (λ i. blank (row p b c i)) nine) 0 < cond t (count (free_cell p b) nine) 0
      less true true u = row_lt
      less false true u = omega (arith, row_lt)
      less s false u = absurd u

  after_lowers_bound : bound_depth (after p b c) < bound_depth p
  unfolding bound_depth after empty_cells
  after_lowers_bound = total_lt _ (λ i. empty_cells (p.states i) (p.cells i)) b nine (in_nine b l.board)
      (λ i. update_ind₂ (λ (s : GameState) (r : ℕ → CellState). empty_cells s r ≤ empty_cells (p.states i) (p.cells i))
      p.states p.cells b (made p b c) (row p b c) i
      (λ e. subst (λ (x : ℕ). empty_cells (made p b c) (row p b c) ≤ empty_cells (p.states x) (p.cells x)) e
      (omega (arith, board_lt (made p b c)))) (omega arith))
      (update_at (λ (s : GameState). empty_cells s (update p.cells b (row p b c) b) < empty_cells (p.states b) (p.cells b))
      p.states b (made p b c)
      (update_at (λ (r : ℕ → CellState). empty_cells (made p b c) r < empty_cells (p.states b) (p.cells b)) p.cells b (row p b c)
      (board_lt (made p b c))))

-- every accepted move lowers the bound, at every position
pub play_lowers_bound : (p : Position) (m : ℕ) → T (accepts p m) → bound_depth (tried p m) < bound_depth p
play_lowers_bound p m t =
    subst (λ (q : Position). bound_depth q < bound_depth p) (sym (tried_accepted p m t))
    (after_lowers_bound p (board_of m) (cell_of m) (accepts→ p m t))

pub start_bound_depth : bound_depth start ≡ 81
unfolding bound_depth total count
start_bound_depth = refl

pub start_open_boards : open_boards start ≡ 9
unfolding open_boards count
start_open_boards = refl

-- ---- the comparison
same_due_self : (d : Option ℕ) → T (same_next_board d d)
same_due_self None = tt
same_due_self (Some b) = eqb_refl b

same_cell_self : (s : CellState) → T (same_cell s s)
same_cell_self Empty = tt
same_cell_self (Played w) = same_self w

pub same_state_self : (g : GameState) → T (same_state g g)
same_state_self InPlay = tt
same_state_self Drawn = tt
same_state_self (Won w) = same_self w

same_due→eq : (d e : Option ℕ) → T (same_next_board d e) → d ≡ e
same_due→eq None None t = refl
same_due→eq None (Some c) t = absurd t
same_due→eq (Some b) None t = absurd t
same_due→eq (Some b) (Some c) t = ap Some (eqb→eq b c t)

same_cell→eq : (s r : CellState) → T (same_cell s r) → s ≡ r
same_cell→eq Empty Empty t = refl
same_cell→eq Empty (Played v) t = absurd t
same_cell→eq (Played w) Empty t = absurd t
same_cell→eq (Played w) (Played v) t = ap Played (same→eq w v t)

same_state→eq : (g h : GameState) → T (same_state g h) → g ≡ h
same_state→eq InPlay InPlay t = refl
same_state→eq InPlay Drawn t = absurd t
same_state→eq InPlay (Won v) t = absurd t
same_state→eq Drawn InPlay t = absurd t
same_state→eq Drawn Drawn t = refl
same_state→eq Drawn (Won v) t = absurd t
same_state→eq (Won w) InPlay t = absurd t
same_state→eq (Won w) Drawn t = absurd t
same_state→eq (Won w) (Won v) t = ap Won (same→eq w v t)

-- what is compared: of the cells, those of the boards that are open in the first position
pub record Alike (p q : Position) : Type 0 where
  pub turns : p.turn ≡ q.turn
  pub dues : p.next_board ≡ q.next_board
  pub game : p.state ≡ q.state
  pub open_cells : (b c : ℕ) → b < 9 → c < 9 → T (open_board p b) → p.cells b c ≡ q.cells b c

module _ (p q : Position) where
  same_row : ℕ → Bool
  same_row b = all (λ c. same_cell (p.cells b c) (q.cells b c)) nine

  -- two positions are equivalent exactly if all of it is equal
  pub equivalent_is_alike : T (equivalent p q) ↔ Alike p q
  unfolding equivalent same_row
  equivalent_is_alike = (
    λ t.
        let r1 = and→ (same p.turn q.turn) _ t in
        let r2 = and→ (same_next_board p.next_board q.next_board) _ r1.1 in
        let r3 = and→ (same_state p.state q.state) _ r2.1 in
        let r4 = and→ (all (λ b. same_state (p.states b) (p.states b)) nine) _ r3.1 in
        record {
          turns = same→eq _ _ r1.0;
          dues = same_due→eq _ _ r2.0;
          game = same_state→eq _ _ r3.0;
          open_cells = λ b c h k o. same_cell→eq _ _ (all_each (λ c. same_cell (p.cells b c) (q.cells b c)) c nine
              (⇒→ (open_board p b) (same_row b) (all_each (λ b. open_board p b ⇒ same_row b) b nine r4.1 (in_nine b h)) o)
              (in_nine c k));
        },
    λ r.
        →and (same p.turn q.turn) _ (rw r.turns (same_self q.turn))
        (→and (same_next_board p.next_board q.next_board) _ (rw r.dues (same_due_self q.next_board))
        (→and (same_state p.state q.state) _ (rw r.game (same_state_self q.state))
        (→and (all (λ b. same_state (p.states b) (p.states b)) nine) _
        (each_all (λ b. same_state (p.states b) (p.states b)) nine (λ b _. same_state_self (p.states b)))
        (each_all (λ b. open_board p b ⇒ same_row b) nine (λ b i. →⇒ (open_board p b) (same_row b) (λ o.
        each_all (λ c. same_cell (p.cells b c) (q.cells b c)) nine (λ c j. rw (r.open_cells b c (nine_in b i) (nine_in c j) o)
        (same_cell_self (q.cells b c))))))))),
  )

-- every position is equivalent to itself
pub equivalent_self : (p : Position) → T (equivalent p p)
equivalent_self p = (equivalent_is_alike p p).1 (record { turns = refl; dues = refl; game = refl; open_cells = λ _ _ _ _ _. refl })

abbrev pub with_states : Position → (ℕ → GameState) → Position
with_states q gs = record { turn = q.turn; next_board = q.next_board; cells = q.cells; states = gs; state = q.state }

-- the states of the second position's boards do not matter: the Rust compares the first's with themselves
pub equivalent_skips_states : (p q : Position) (gs : ℕ → GameState) → equivalent p (with_states q gs) ≡ equivalent p q
unfolding equivalent
equivalent_skips_states p q gs = refl
