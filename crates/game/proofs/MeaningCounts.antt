-- What is counted and compared of the cells of the open boards.
use mathlib.Core.Path.{◌≡◌, refl, sym, ap, ap₂, ◌∙◌}
use mathlib.Core.Bool.{Bool, true, false, not, cond, ◌&&◌, ◌||◌}
use mathlib.Core.List.{List, [], ◌∷◌, ◌++◌, map}
use mathlib.Core.Logic.{inl, inr}
use Prim.Native.Nat.{ℕ, zero, suc, ◌+◌, ◌*◌, ◌/◌, ◌%◌, ◌^◌, ◌≤◌, ◌<◌}
use native.Mathlib.Omega.{arith}
use lib.Count.{ones}
use lib.Dec.{T, lit<}
use lib.ListN.{length, get_or}
use lib.Ieee.Bits.{is_true}
use Rattle.base.specs.Branch.{when◌then◌else◌}
use Rattle.base.specs.Bits.{bit, digits}
use Rattle.base.specs.Lists.{all, filter, count, In, from, concat_map, total}
use Rattle.base.proofs.ListsAgree.{same_by}
use Rattle.base.proofs.Bool.{and→, →and, ◌⇒◌, ⇒→, →⇒}
use Rattle.base.proofs.BitsOperations.{bit_shr}
use Rattle.base.proofs.Lists.{all_each, each_all, in_from, from_in}
use Rattle.base.proofs.Bits.{digits_lt, bit_digits}
use Rattle.base.proofs.BitsOnes.{count_ones}
use Rattle.rules.specs.Board.{same, same_cell, same_state, nine}
use Rattle.rules.specs.Position.{same_next_board, Position, open_board, free_cell}
use Rattle.rules.specs.Play.{move_of, board_of, cell_of}
use Rattle.rules.specs.Moves.{places}
use Rattle.rules.specs.Compare.{bound_depth, open_boards, equivalent}
use Rattle.rules.proofs.Board.{in_nine, nine_in}
use Rattle.rules.proofs.Play.{board_of_move, cell_of_move}
use Rattle.rules.proofs.Compare.{same_state_self}
use Rattle.boards.specs.declared.local.LocalBoards.{LocalBoards}
use Rattle.boards.specs.Cursor.{moves_left}
use Rattle.boards.specs.Packed.{no_row, cell_at, place}
use Rattle.boards.specs.Rows.{row_cell, row_same, free_cells, same_cells}
use Rattle.boards.proofs.Cursor.{cursor_kept}
use Rattle.game.specs.declared.Game.{Game}
use Rattle.game.specs.Meaning.{position_of}
use Rattle.game.proofs.MeaningMoves.{free_cursor}
use Rattle.game.proofs.MeaningRows.{place_cell}

-- ---- how many of a list pass a test
pub length_kept : (f : ℕ → Bool) (xs : List ℕ) → length (filter f xs) ≡ count f xs
unfolding filter count when◌then◌else◌
length_kept f [] = refl
length_kept f (x ∷ xs) = go (f x) (length_kept f xs)
  where
    go : (b : Bool) → length (filter f xs) ≡ count f xs → length (when b then (λ _. x ∷ filter f xs) else λ _. filter f xs)
        ≡ cond b 1 0 + count f xs
    go true e = omega arith
    go false e = omega arith

count_at_most : (f : ℕ → Bool) (xs : List ℕ) → count f xs ≤ length xs
unfolding count
count_at_most f [] = omega arith
count_at_most f (x ∷ xs) = go (f x) (count_at_most f xs)
  where
    go : (b : Bool) → count f xs ≤ length xs → cond b 1 0 + count f xs ≤ length (x ∷ xs)
    go true h = omega arith
    go false h = omega arith

pub count_agrees : (f g : ℕ → Bool) (xs : List ℕ) → ((x : ℕ) → In x xs → f x ≡ g x) → count f xs ≡ count g xs
unfolding count
count_agrees f g [] h = refl
count_agrees f g (x ∷ xs) h = ap₂ (λ (b : Bool) (n : ℕ). cond b 1 0 + n) (h x (inl refl)) (count_agrees f g xs (λ y i. h y (inr i)))

count_join : (f : ℕ → Bool) (xs ys : List ℕ) → count f (xs ++ ys) ≡ count f xs + count f ys
unfolding count
count_join f [] ys = omega arith
count_join f (x ∷ xs) ys = omega (arith, count_join f xs ys)

count_each : (f : ℕ → Bool) (g : ℕ → List ℕ) (xs : List ℕ) → count f (concat_map g xs) ≡ total (λ b. count f (g b)) xs
unfolding count concat_map total
count_each f g [] = refl
count_each f g (x ∷ xs) = count_join f (g x) (concat_map g xs) ∙ ap (λ (n : ℕ). count f (g x) + n) (count_each f g xs)

count_map : (f : ℕ → Bool) (g : ℕ → ℕ) (xs : List ℕ) → count f (map g xs) ≡ count (λ x. f (g x)) xs
unfolding count
count_map f g [] = refl
count_map f g (x ∷ xs) = ap (λ (n : ℕ). cond (f (g x)) 1 0 + n) (count_map f g xs)

count_never : (xs : List ℕ) → count (λ _. false) xs ≡ 0
unfolding count
count_never [] = refl
count_never (x ∷ xs) = omega (arith, count_never xs)

count_both : (b : Bool) (f : ℕ → Bool) (xs : List ℕ) → count (λ x. b && f x) xs ≡ cond b (count f xs) 0
count_both true f xs = refl
count_both false f xs = count_never xs

total_same : (f g : ℕ → ℕ) (xs : List ℕ) → ((x : ℕ) → In x xs → f x ≡ g x) → total f xs ≡ total g xs
unfolding total
total_same f g [] h = refl
total_same f g (x ∷ xs) h = ap₂ ◌+◌ (h x (inl refl)) (total_same f g xs (λ y i. h y (inr i)))

-- ---- the open boards
module _ (p : Position) (n : ℕ) (e : n ≡ digits (open_board p) 9) where
  pub open_count : ones n ≡ open_boards p
  unfolding open_boards
  open_count =
      count_ones 9 n (rw e (digits_lt (open_board p) 9))
      ∙ length_kept (bit n) nine
      ∙ count_agrees (bit n) (open_board p) nine (λ k i. ap (λ (m : ℕ). bit m k) e ∙ bit_digits (open_board p) 9 k (nine_in k i))

  pub few_open : ones n ≤ 9
  unfolding open_boards
  few_open = omega (arith, open_count, count_at_most (open_board p) nine)

-- ---- the empty cells of the open boards
module _ (g : Game) (n : ℕ) (e : n ≡ digits (open_board (position_of g)) 9) where
  abbrev p : Position
  p = position_of g

  empty : ℕ → Bool
  empty m = open_board p (board_of m) && free_cell p (board_of m) (cell_of m)

  empty_is : (b c : ℕ) → c < 9 → empty (move_of b c) ≡ (open_board p b && free_cell p b c)
  unfolding empty
  empty_is b c h =
      λ i. open_board p (board_of_move b c (omega arith) i) && free_cell p (board_of_move b c (omega arith) i)
      (cell_of_move b c (omega arith) i)

  counted : count empty places ≡ bound_depth p
  unfolding places bound_depth
  counted =
      count_each empty (λ b. map (move_of b) nine) nine
      ∙ total_same (λ b. count empty (map (move_of b) nine)) (λ b. cond (open_board p b) (count (free_cell p b) nine) 0) nine
      (λ b _. count_map empty (move_of b) nine ∙ count_agrees (λ c. empty (move_of b c)) (λ c. open_board p b && free_cell p b c) nine
      (λ c i. empty_is b c (nine_in c i)) ∙ count_both (open_board p b) (free_cell p b) nine)

  pub depth_counted : length (moves_left (free_cells g.local_boards n)) ≡ bound_depth p
  depth_counted =
      ap (λ it. length (moves_left it)) (free_cursor g.local_boards (open_board p) n e empty (λ b c _ h. empty_is b c h))
      ∙ ap length (cursor_kept empty) ∙ length_kept empty places ∙ counted

-- ---- the cells of the open boards of one game are the other's
module _ (p : Position) (l k : LocalBoards) (n : ℕ) (e : n ≡ digits (open_board p) 9) where
  agree : ℕ → ℕ → Bool
  agree b c = same_cell (cell_at l b c) (cell_at k b c)

  -- board 3r + j, by the digits m of a row
  module _ (r m : ℕ) (h : r < 3) (s : (j : ℕ) → bit m j ≡ bit n (3 * r + j)) where
    same_place : (i : ℕ) → i < 27 →
        (not (bit m (i / 9)) || same_cell (row_cell (get_or l.rows r no_row) i) (row_cell (get_or k.rows r no_row) i))
        ≡ (open_board p (3 * r + i / 9) ⇒ agree (3 * r + i / 9) (i % 9))
    unfolding agree
    same_place i t =
        let b = 3 * r + i / 9 in
        sym (ap₂ (λ (u v : Bool). u ⇒ v)
        (sym (s (i / 9) ∙ ap (λ (z : ℕ). bit z b) e ∙ bit_digits (open_board p) 9 b (omega arith)))
        (ap₂ same_cell (place_cell l r i h t) (place_cell k r i h t)))

    row_there : T (row_same (get_or l.rows r no_row) (get_or k.rows r no_row) m) → (b c : ℕ) → b / 3 ≡ r → c < 9 →
        T (open_board p b ⇒ agree b c)
    unfolding row_same
    row_there t b c x hc =
        let i = place b c in
        let hi : i < 27 = omega arith in
        let y : 3 * r + i / 9 ≡ b = omega arith in
        let z : i % 9 ≡ c = omega arith in
        rw (y, z) at (rw (same_place i hi) at (all_each _ i (from 0 27) t (in_from 0 27 i (omega arith) (omega arith))))

    row_back : ((b c : ℕ) → b < 9 → c < 9 → T (open_board p b ⇒ agree b c)) →
        T (row_same (get_or l.rows r no_row) (get_or k.rows r no_row) m)
    unfolding row_same
    row_back t =
        each_all _ (from 0 27) (λ i u. let hi = (from_in 0 27 i u).1 in rw (same_place i hi)
        (t (3 * r + i / 9) (i % 9) (omega arith) (omega arith)))

  zeroth : (j : ℕ) → bit n j ≡ bit n (3 * 0 + j)
  zeroth j = ap (bit n) (omega arith)

  pub same_boards : same_cells l k n ≡ all (λ b. not (open_board p b) || all (λ c. same_cell (cell_at l b c) (cell_at k b c)) nine) nine
  unfolding agree
  same_boards = same_by (same_cells l k n) _ there back
    where
      there : T (same_cells l k n) → T (all (λ b. open_board p b ⇒ all (agree b) nine) nine)
      there t =
          let r = and→ (row_same (get_or l.rows 0 no_row) (get_or k.rows 0 no_row) n) _ t in
          let s = and→ (row_same (get_or l.rows 1 no_row) (get_or k.rows 1 no_row) (n / 2 ^ 3)) _ r.1 in
          each_all _ nine (λ b i. →⇒ (open_board p b) _ (λ o. each_all (agree b) nine
          (λ c j. ⇒→ (open_board p b) _ (pick r.0 s.0 s.1 b c (nine_in b i) (nine_in c j)) o)))
        where
          pick : T (row_same (get_or l.rows 0 no_row) (get_or k.rows 0 no_row) n) →
              T (row_same (get_or l.rows 1 no_row) (get_or k.rows 1 no_row) (n / 2 ^ 3))
              → T (row_same (get_or l.rows 2 no_row) (get_or k.rows 2 no_row) (n / 2 ^ 6)) → (b c : ℕ) → b < 9 → c < 9 →
              T (open_board p b ⇒ agree b c)
          pick t u v b c hb hc = go (b / 3) refl
            where
              go : (r : ℕ) → b / 3 ≡ r → T (open_board p b ⇒ agree b c)
              go zero x = row_there 0 n (lit< tt) zeroth t b c x hc
              go (suc zero) x = row_there 1 (n / 2 ^ 3) (lit< tt) (bit_shr n 3) u b c x hc
              go (suc (suc zero)) x = row_there 2 (n / 2 ^ 6) (lit< tt) (bit_shr n 6) v b c x hc
              go (suc (suc (suc r))) x = absurd (omega arith)

      back : T (all (λ b. open_board p b ⇒ all (agree b) nine) nine) → T (same_cells l k n)
      back t =
          →and (row_same (get_or l.rows 0 no_row) (get_or k.rows 0 no_row) n) _ (row_back 0 n (lit< tt) zeroth concat_map)
          (→and (row_same (get_or l.rows 1 no_row) (get_or k.rows 1 no_row) (n / 2 ^ 3)) _
          (row_back 1 (n / 2 ^ 3) (lit< tt) (bit_shr n 3) concat_map)
          (row_back 2 (n / 2 ^ 6) (lit< tt) (bit_shr n 6) concat_map))
        where
          concat_map : (b c : ℕ) → b < 9 → c < 9 → T (open_board p b ⇒ agree b c)
          concat_map b c hb hc =
              →⇒ (open_board p b) _ (λ o. all_each (agree b) c nine (⇒→ (open_board p b) _ (all_each _ b nine t (in_nine b hb)) o)
              (in_nine c hc))

-- ---- the comparison: side, next board and state together, then the cells
joined : (a b c d : Bool) → (a && (b && (c && d))) ≡ (((a && b) && c) && d)
joined true true c d = refl
joined true false c d = refl
joined false b c d = refl

module _ (p q : Position) (r : Bool)
    (e : r ≡ ((same p.turn q.turn && same_next_board p.next_board q.next_board) && same_state p.state q.state)) where
  pub other : r ≡ false → r ≡ equivalent p q
  unfolding equivalent
  other f = sym (joined (same p.turn q.turn) (same_next_board p.next_board q.next_board) (same_state p.state q.state) _ ∙ rw (sym e, f))

  pub compared : r ≡ true → (c : Bool) → c ≡ all (λ b. not (open_board p b) ||
      all (λ c. same_cell (p.cells b c) (q.cells b c)) nine) nine → c ≡ equivalent p q
  unfolding equivalent
  compared f c d =
      d ∙ sym (joined (same p.turn q.turn) (same_next_board p.next_board q.next_board) (same_state p.state q.state) _ ∙ rw (
        sym e,
        f,
        is_true (all (λ b. same_state (p.states b) (p.states b)) nine)
            (each_all _ nine (λ b _. same_state_self (p.states b))),
      ))
