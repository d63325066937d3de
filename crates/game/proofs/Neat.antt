-- Play keeps a game neat, and a neat game is fixed by its position and its hash.
use Rattle.std.specs.Prelude.{Option}
use mathlib.Core.Path.{◌≡◌, refl, sym, ap, ap₂, ◌∙◌, subst}
use mathlib.Core.Bool.{Bool, true, false, ◌&&◌, ◌||◌, and-false}
use mathlib.Core.List.{List, [], ◌∷◌}
use mathlib.Core.Logic.{inl, inr}
use Prim.Native.Nat.{ℕ, zero, suc, ◌+◌, ◌*◌, ◌/◌, ◌%◌, ◌^◌, ◌≤◌, ◌<◌}
use native.Mathlib.Decide.{ℕ_discrete, dec_lt}
use native.Mathlib.Omega.{arith}
use lib.Bits.{bit_and, bit_or, or_lt, and_lt}
use lib.Dec.{T, eqb, eqb→eq, ltb, ltb→lt, lt→ltb, lit<}
use lib.ListN.{length, get_or, set, length-set}
use lib.Pow.{pow-lt, pow_pos}
use Rattle.base.specs.Bits.{bit, digits}
use Rattle.base.specs.Lists.{all}
use Rattle.base.proofs.Bool.{and→, →and, is}
use Rattle.base.proofs.Branch.{if_ind}
use Rattle.base.proofs.BitsOperations.{bit-bit_and, bit_nought}
use Rattle.base.proofs.Bits.{bit_ext, bit_ext_below, digits_lt, bit_digits, is_digits, unmarked}
use Rattle.rules.specs.declared.Player.{Player}
use Rattle.rules.specs.declared.Player.TheVariants.{X, O}
use Rattle.rules.specs.declared.CellState.{CellState}
use Rattle.rules.specs.declared.CellState.TheVariants.{Empty, Played}
use Rattle.rules.specs.declared.GameState.{GameState}
use Rattle.rules.specs.declared.GameState.TheVariants.{InPlay, Drawn, Won}
use Rattle.rules.specs.Board.{mine, blank, in_play, won_by, drawn}
use Rattle.rules.specs.Position.{Position}
use Rattle.rules.specs.Play.{board_of, cell_of, accepts, after}
use Rattle.rules.proofs.Play.{same_position, Legal, accepts→}
use Rattle.boards.specs.declared.local.Row.{Row}
use Rattle.boards.specs.declared.local.LocalBoards.{LocalBoards}
use Rattle.boards.specs.declared.states.GlobalStates.{GlobalStates}
use Rattle.boards.specs.Packed.{cell_of_bits, no_row, row_of, place, cell_at, state_of_bits, state_at}
use Rattle.boards.specs.Rows.{row_cell}
use Rattle.boards.specs.With.{row_with, with_cell, state_with, with_state}
use Rattle.boards.proofs.Packed.{cell_in, cell_past_board, cell_past_cell, state_in, state_past}
use Rattle.boards.proofs.With.{no_x}
use Rattle.game.specs.declared.Game.{Game}
use Rattle.game.specs.Meaning.{position_of}
use Rattle.game.specs.After.{after_move, game_after}
use Rattle.game.specs.Built.{new_game, recalculated}
use Rattle.game.specs.Neat.{neat_row, neat_next, neat, row_bits, state_bits, row_for, game_of}
use Rattle.game.proofs.Meaning.{game_accepted, game_refused}
use Rattle.game.proofs.MeaningRows.{place_cell}

-- ---- the parts of the test
pub record Neat (g : Game) : Type 0 where
  pub next : T (neat_next g.next_board)
  pub three : length g.local_boards.rows ≡ 3
  pub each : T (all neat_row g.local_boards.rows)
  pub xs : g.global_states.x < 2 ^ 9
  pub os : g.global_states.o < 2 ^ 9

module _ (g : Game) where
  pub neat→ : T (neat g) → Neat g
  unfolding neat
  neat→ t =
      let a = and→ (neat_next g.next_board) _ t in
      let b = and→ (eqb (length g.local_boards.rows) 3) _ a.1 in
      let c = and→ (all neat_row g.local_boards.rows) _ b.1 in
      let d = and→ (ltb g.global_states.x (2 ^ 9)) _ c.1 in
      record { next = a.0; three = eqb→eq _ 3 b.0; each = c.0; xs = ltb→lt _ _ d.0; os = ltb→lt _ _ d.1 }

  pub →neat : Neat g → T (neat g)
  unfolding neat
  →neat n =
      →and (neat_next g.next_board) _ n.next
      (→and (eqb (length g.local_boards.rows) 3) _ (rw n.three tt)
      (→and (all neat_row g.local_boards.rows) _ n.each
      (→and (ltb g.global_states.x (2 ^ 9)) _ (lt→ltb _ _ n.xs) (lt→ltb _ _ n.os))))

pub new_game_neat : T (neat new_game)
unfolding neat all
new_game_neat = tt

pub recalculated_neat : (g : Game) → T (neat g) → T (neat (recalculated g))
unfolding neat recalculated
recalculated_neat g t = t

-- ---- a row
record NeatRow (r : Row) : Type 0 where
  xs : r.x < 2 ^ 27
  os : r.o < 2 ^ 27
  apart : (k : ℕ) → (bit r.x k && bit r.o k) ≡ false

row→ : (r : Row) → T (neat_row r) → NeatRow r
row→ r t =
    let a = and→ (ltb r.x (2 ^ 27)) _ t in
    let b = and→ (ltb r.o (2 ^ 27)) _ a.1 in
    record {
      xs = ltb→lt _ _ a.0;
      os = ltb→lt _ _ b.0;
      apart = λ k. sym (bit-bit_and r.x r.o k)
          ∙ ap (λ (n : ℕ). bit n k) (eqb→eq _ 0 b.1) ∙ bit_nought k;
    }

→row : (r : Row) → NeatRow r → T (neat_row r)
→row r n =
    →and (ltb r.x (2 ^ 27)) _ (lt→ltb _ _ n.xs)
    (→and (ltb r.o (2 ^ 27)) _ (lt→ltb _ _ n.os)
    (rw (bit_ext (bit_and r.x r.o) 0 (λ k. bit-bit_and r.x r.o k ∙ n.apart k ∙ sym (bit_nought k))) tt))

none_o : (p q : Bool) → T (blank (cell_of_bits p q)) → q ≡ false
none_o false false t = refl
none_o false true t = absurd t
none_o true q t = absurd t

-- an empty place that is marked
module _ (r : Row) (k : ℕ) (h : k < 27) (n : NeatRow r) (t : T (blank (row_cell r k))) where
  marked_x : (j : ℕ) → Dec (j ≡ k) → (bit (bit_or r.x (2 ^ k)) j && bit r.o j) ≡ false
  marked_x j (yes e) = rw (e, none_o (bit r.x k) (bit r.o k) t) (and-false (bit (bit_or r.x (2 ^ k)) k))
  marked_x j (no e) = rw (unmarked r.x k j e) (n.apart j)

  marked_o : (j : ℕ) → Dec (j ≡ k) → (bit r.x j && bit (bit_or r.o (2 ^ k)) j) ≡ false
  marked_o j (yes e) = rw (e, no_x (bit r.x k) (bit r.o k) t)
  marked_o j (no e) = rw (unmarked r.o k j e) (n.apart j)

  row_with_neat : (w : Player) → NeatRow (row_with w r k)
  row_with_neat X = record { xs = or_lt 27 r.x (2 ^ k) n.xs (pow-lt h); os = n.os; apart = λ j. marked_x j (ℕ_discrete j k) }
  row_with_neat O = record { xs = n.xs; os = or_lt 27 r.o (2 ^ k) n.os (pow-lt h); apart = λ j. marked_o j (ℕ_discrete j k) }

all_set : (f : Row → Bool) (xs : List Row) (i : ℕ) (a : Row) → T (all f xs) → T (f a) → T (all f (set xs i a))
unfolding all
all_set f [] i a t u = tt
all_set f (x ∷ xs) zero a t u = →and (f a) _ u (and→ (f x) _ t).1
all_set f (x ∷ xs) (suc i) a t u = let r = and→ (f x) _ t in →and (f x) _ r.0 (all_set f xs i a r.1 u)

all_get : (f : Row → Bool) (xs : List Row) (i : ℕ) (d : Row) → T (all f xs) → T (f d) → T (f (get_or xs i d))
unfolding all
all_get f [] i d t u = u
all_get f (x ∷ xs) zero d t u = (and→ (f x) _ t).0
all_get f (x ∷ xs) (suc i) d t u = all_get f xs i d (and→ (f x) _ t).1 u

-- ---- play keeps it
module _ (s : GlobalStates) (b : ℕ) (h : b < 9) (x : s.x < 2 ^ 9) (o : s.o < 2 ^ 9) where
  state_with_neat : (g : GameState) → ((state_with s b g).x < 2 ^ 9) × ((state_with s b g).o < 2 ^ 9)
  state_with_neat InPlay = (x, o)
  state_with_neat Drawn = (or_lt 9 s.x (2 ^ b) x (pow-lt h), or_lt 9 s.o (2 ^ b) o (pow-lt h))
  state_with_neat (Won X) = (or_lt 9 s.x (2 ^ b) x (pow-lt h), o)
  state_with_neat (Won O) = (x, or_lt 9 s.o (2 ^ b) o (pow-lt h))

  pub with_state_neat : (g : GameState) → ((with_state s b g).x < 2 ^ 9) × ((with_state s b g).o < 2 ^ 9)
  unfolding with_state
  with_state_neat g =
      if_ind (λ (z : GlobalStates). (z.x < 2 ^ 9) × (z.o < 2 ^ 9)) (ltb b 9) _ _ (λ _. state_with_neat g) (λ _. (x, o))

module _ (l : LocalBoards) (b c : ℕ) (w : Player) (hb : b < 9) (hc : c < 9) (t : T (blank (cell_at l b c))) (n : length l.rows ≡ 3)
    (a : T (all neat_row l.rows)) where
  pub with_cell_neat : (length (with_cell l b c w).rows ≡ 3) × T (all neat_row (with_cell l b c w).rows)
  unfolding with_cell
  with_cell_neat = if_ind (λ (z : LocalBoards). (length z.rows ≡ 3) × T (all neat_row z.rows)) (ltb b 9 && ltb c 9) _ _
      (λ _. (
        length-set l.rows (b / 3) _ ∙ n,
        all_set neat_row l.rows (b / 3) _ a (→row _ (row_with_neat (row_of l b) (place b c) (omega arith)
            (row→ (row_of l b) (all_get neat_row l.rows (b / 3) no_row a tt)) (rw (cell_in l b c hb hc) at t) w)),
      ))
      (λ _. (n, a))

after_move_neat : (g : Game) (b c : ℕ) → Legal (position_of g) b c → Neat g → Neat (after_move g b c)
unfolding after_move after
after_move_neat g b c l n =
    let p = position_of g in
    let r = with_cell_neat g.local_boards b c g.next_player l.board l.cell l.empty n.three n.each in
    let s = with_state_neat g.global_states b l.board n.xs n.os ((after p b c).states b) in
    record {
      next = if_ind (λ (d : Option ℕ). T (neat_next d)) (in_play ((after p b c).states c)) _ _ (λ _. lt→ltb c 9 l.cell) (λ _. tt);
      three = r.0;
      each = r.1;
      xs = s.0;
      os = s.1;
    }

pub game_after_neat : (g : Game) (m : ℕ) → T (neat g) → T (neat (game_after g m))
game_after_neat g m t = elim (is (accepts (position_of g) m)) [
  | inl a ↦ subst (λ (h : Game). T (neat h)) (sym (game_accepted g m a))
      (→neat _ (after_move_neat g (board_of m) (cell_of m) (accepts→ (position_of g) m a) (neat→ g t)))
  | inr a ↦ subst (λ (h : Game). T (neat h)) (sym (game_refused g m a)) t
]

-- ---- a neat game is fixed by its position and its hash
one_x : (p q : Bool) → mine X (cell_of_bits p q) ≡ p
one_x true q = refl
one_x false true = refl
one_x false false = refl

one_o : (p q : Bool) → (p && q) ≡ false → mine O (cell_of_bits p q) ≡ q
one_o true true e = sym e
one_o true false e = refl
one_o false true e = refl
one_o false false e = refl

state_x : (p q : Bool) → (won_by X (state_of_bits p q) || drawn (state_of_bits p q)) ≡ p
state_x true true = refl
state_x true false = refl
state_x false true = refl
state_x false false = refl

state_o : (p q : Bool) → (won_by O (state_of_bits p q) || drawn (state_of_bits p q)) ≡ q
state_o true true = refl
state_o true false = refl
state_o false true = refl
state_o false false = refl

three_rows : (xs : List Row) → length xs ≡ 3 → xs ≡ get_or xs 0 no_row ∷ get_or xs 1 no_row ∷ get_or xs 2 no_row ∷ []
three_rows [] e = absurd (omega arith)
three_rows (a ∷ []) e = absurd (omega arith)
three_rows (a ∷ b ∷ []) e = absurd (omega arith)
three_rows (a ∷ b ∷ c ∷ []) e = refl
three_rows (a ∷ b ∷ c ∷ d ∷ xs) e = absurd (omega arith)

module _ (g : Game) (n : Neat g) where
  abbrev p : Position
  p = position_of g

  abbrev l : LocalBoards
  l = g.local_boards

  abbrev s : GlobalStates
  s = g.global_states

  abbrev row : ℕ → Row
  row r = get_or l.rows r no_row

  fixed_row : (r : ℕ) → r < 3 → row_for p r ≡ row r
  unfolding row_bits
  fixed_row r h =
      let q = row→ (row r) (all_get neat_row l.rows r no_row n.each tt) in
      let x : row_bits p X r
      ≡ (row r).x = sym (is_digits _ 27 (row r).x q.xs (λ k i. sym
      (ap (mine X) (place_cell l r k h i) ∙ one_x (bit (row r).x k) (bit (row r).o k)))) in
      let o : row_bits p O r
      ≡ (row r).o = sym (is_digits _ 27 (row r).o q.os (λ k i. sym
      (ap (mine O) (place_cell l r k h i) ∙ one_o (bit (row r).x k) (bit (row r).o k) (q.apart k)))) in
      λ i. record { x = x i; o = o i }

  fixed_rows : row_for p 0 ∷ row_for p 1 ∷ row_for p 2 ∷ [] ≡ l.rows
  fixed_rows =
      (λ i. fixed_row 0 (lit< tt) i ∷ fixed_row 1 (lit< tt) i ∷ fixed_row 2 (lit< tt) i ∷ [])
      ∙ sym (three_rows l.rows n.three)

  fixed_x : state_bits p X ≡ s.x
  unfolding state_bits
  fixed_x =
      sym (is_digits _ 9 s.x n.xs
      (λ b h. sym (ap (λ (z : GameState). won_by X z || drawn z) (state_in s b h) ∙ state_x (bit s.x b) (bit s.o b))))

  fixed_o : state_bits p O ≡ s.o
  unfolding state_bits
  fixed_o =
      sym (is_digits _ 9 s.o n.os
      (λ b h. sym (ap (λ (z : GameState). won_by O z || drawn z) (state_in s b h) ∙ state_o (bit s.x b) (bit s.o b))))

  fixed : game_of p g.hash ≡ g
  fixed = λ i. record {
    next_player = g.next_player;
    next_board = g.next_board;
    local_boards = record { rows = fixed_rows i };
    global_states = record { x = fixed_x i; o = fixed_o i };
    game_state = g.game_state;
    hash = g.hash;
  }

pub neat_is_fixed : (g : Game) → T (neat g) → game_of (position_of g) g.hash ≡ g
neat_is_fixed g t = fixed g (neat→ g t)

pub neat_same : (g h : Game) → T (neat g) → T (neat h) → position_of g ≡ position_of h → g.hash ≡ h.hash → g ≡ h
neat_same g h t u e f = sym (neat_is_fixed g t) ∙ ap₂ game_of e f ∙ neat_is_fixed h u

-- ---- the neat game that means a position
one_mine : (s : CellState) → (mine X s && mine O s) ≡ false
one_mine Empty = refl
one_mine (Played X) = refl
one_mine (Played O) = refl

module _ (p : Position) (h : ℕ) where
  row_for_neat : (r : ℕ) → T (neat_row (row_for p r))
  unfolding row_bits
  row_for_neat r =
      let f : Player → ℕ → Bool = λ w k. mine w (p.cells (3 * r + k / 9) (k % 9)) in
      let x = digits_lt (f X) 27 in
      let o = digits_lt (f O) 27 in
      →and (ltb (digits (f X) 27) (2 ^ 27)) _ (lt→ltb _ _ x)
      (→and (ltb (digits (f O) 27) (2 ^ 27)) _ (lt→ltb _ _ o)
      (rw (bit_ext_below 27 (bit_and (digits (f X) 27) (digits (f O) 27)) 0 (and_lt 27 _ _ x o) (pow_pos 27)
      (λ k i. bit-bit_and (digits (f X) 27) (digits (f O) 27) k ∙ ap₂ ◌&&◌ (bit_digits (f X) 27 k i) (bit_digits (f O) 27 k i)
      ∙ one_mine (p.cells (3 * r + k / 9) (k % 9)) ∙ sym (bit_nought k))) tt))

  -- if a due board is one of the nine
  pub game_of_neat : T (neat_next p.next_board) → T (neat (game_of p h))
  unfolding all state_bits
  game_of_neat d = →neat (game_of p h) (record {
    next = d;
    three = refl;
    each =
        →and (neat_row (row_for p 0)) _ (row_for_neat 0) (→and (neat_row (row_for p 1)) _ (row_for_neat 1)
        (→and (neat_row (row_for p 2)) _ (row_for_neat 2) tt));
    xs = digits_lt _ 9;
    os = digits_lt _ 9;
  })

-- a position whose boards and cells over 8 are open and empty
pub record Nine (p : Position) : Type 0 where
  pub board_past : (b c : ℕ) → 9 ≤ b → p.cells b c ≡ Empty
  pub cell_past : (b c : ℕ) → 9 ≤ c → p.cells b c ≡ Empty
  pub state_past : (b : ℕ) → 9 ≤ b → p.states b ≡ InPlay

whole_cell : (s : CellState) → cell_of_bits (mine X s) (mine O s) ≡ s
whole_cell Empty = refl
whole_cell (Played X) = refl
whole_cell (Played O) = refl

whole_state : (s : GameState) → state_of_bits (won_by X s || drawn s) (won_by O s || drawn s) ≡ s
whole_state InPlay = refl
whole_state Drawn = refl
whole_state (Won X) = refl
whole_state (Won O) = refl

module _ (p : Position) (h : ℕ) (n : Nine p) where
  abbrev boards : LocalBoards
  boards = (game_of p h).local_boards

  abbrev states : GlobalStates
  states = (game_of p h).global_states

  row_here : (r : ℕ) → r < 3 → get_or boards.rows r no_row ≡ row_for p r
  row_here zero i = refl
  row_here (suc zero) i = refl
  row_here (suc (suc zero)) i = refl
  row_here (suc (suc (suc r))) i = absurd (omega arith)

  digit : (w : Player) (b c : ℕ) → b < 9 → c < 9 → bit (row_bits p w (b / 3)) (place b c) ≡ mine w (p.cells b c)
  unfolding row_bits
  digit w b c i j =
      let x : 3 * (b / 3) + place b c / 9 ≡ b = omega arith in
      let y : place b c % 9 ≡ c = omega arith in
      bit_digits (λ k. mine w (p.cells (3 * (b / 3) + k / 9) (k % 9))) 27 (place b c) (omega arith)
      ∙ (λ z. mine w (p.cells (x z) (y z)))

  cell_again : (b c : ℕ) → Dec (b < 9) → Dec (c < 9) → cell_at boards b c ≡ p.cells b c
  cell_again b c (no q) k = cell_past_board boards b c (omega (arith, q)) ∙ sym (n.board_past b c (omega (arith, q)))
  cell_again b c (yes i) (no q) = cell_past_cell boards b c (omega (arith, q)) ∙ sym (n.cell_past b c (omega (arith, q)))
  cell_again b c (yes i) (yes j) =
      cell_in boards b c i j ∙ ap (λ (r : Row). row_cell r (place b c)) (row_here (b / 3) (omega arith))
      ∙ ap₂ cell_of_bits (digit X b c i j) (digit O b c i j) ∙ whole_cell (p.cells b c)

  state_again : (b : ℕ) → Dec (b < 9) → state_at states b ≡ p.states b
  unfolding state_bits
  state_again b (no q) = Rattle.boards.proofs.Packed.state_past states b (omega (arith, q)) ∙ sym (n.state_past b (omega (arith, q)))
  state_again b (yes i) =
      state_in states b i ∙ ap₂ state_of_bits (bit_digits _ 9 b i) (bit_digits _ 9 b i) ∙ whole_state (p.states b)

  pub game_of_means : position_of (game_of p h) ≡ p
  game_of_means = same_position (position_of (game_of p h)) p refl refl
      (λ b c. cell_again b c (dec_lt b 9) (dec_lt c 9)) (λ b. state_again b (dec_lt b 9)) refl

-- every game's position is such a one
pub position_nine : (g : Game) → Nine (position_of g)
position_nine g = record {
  board_past = λ b c h. cell_past_board g.local_boards b c h;
  cell_past = λ b c h. cell_past_cell g.local_boards b c h;
  state_past = λ b h. Rattle.boards.proofs.Packed.state_past g.global_states b h;
}
