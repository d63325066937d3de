-- A written position reads back as itself. All that is read, and all that is played from the empty board, can be so written.
use Rattle.std.specs.Prelude.{Option, None, Some}
use mathlib.Core.Path.{◌≡◌, refl, sym, ap, ◌∙◌, subst, fun_ext}
use mathlib.Core.Bool.{◌||◌}
use mathlib.Core.List.{List, [], ◌∷◌}
use mathlib.Core.Logic.{inl, inr}
use Prim.Native.Nat.{ℕ, ◌+◌, ◌-◌, ◌*◌, ◌/◌, ◌%◌, ◌≤◌, ◌<◌}
use native.Mathlib.Decide.{ℕ_discrete}
use native.Mathlib.Omega.{arith}
use lib.Dec.{T, eqb, ltb, eqb→eq, eqb_refl, ltb→lt, nltb→le, lit<, T_not}
use lib.ListN.{length, get_or}
use Rattle.base.specs.Branch.{when◌then◌else◌}
use Rattle.base.specs.Lists.{any, from}
use Rattle.base.proofs.Bool.{and→, or→, is}
use Rattle.base.proofs.Branch.{if_ind}
use Rattle.base.proofs.Update.{update_ind, update_off}
use Rattle.rules.specs.declared.Player.{Player}
use Rattle.rules.specs.declared.Player.TheVariants.{X, O}
use Rattle.rules.specs.declared.CellState.{CellState}
use Rattle.rules.specs.declared.CellState.TheVariants.{Empty, Played}
use Rattle.rules.specs.declared.GameState.{GameState}
use Rattle.rules.specs.declared.GameState.TheVariants.{InPlay, Drawn, Won}
use Rattle.rules.specs.Board.{other, in_play, won_by, has_line, result_of}
use Rattle.rules.specs.Position.{same_next_board, Position, start}
use Rattle.rules.specs.Play.{board_of, cell_of, after, tried, reached}
use Rattle.rules.specs.Sound.{next_board_open, proper}
use Rattle.rules.proofs.Board.{other_other}
use Rattle.rules.proofs.Play.{same_position, Legal}
use Rattle.rules.proofs.Sound.{row, made, after_is_proper, start_is_proper, tried_keeps}
use Rattle.text.specs.Bytes.{semicolon, at_mark, letter}
use Rattle.text.specs.Reading.{reads, side_of, overall_mark, cell_mark, sections, first_bad, last_at, fault_at, first_fault}
use Rattle.text.specs.Reading.{cell_in, state_in, said, read}
use Rattle.text.specs.Writing.{state_byte, cell_byte, overall_byte, text_of, cells_byte, byte_at}
use Rattle.text.proofs.ReadingScan.{if_equal, Clear, three_sections, →none_bad, last_at_none, last_at_is, slash_stands}
use Rattle.text.proofs.ReadingScan.{cell_stands, no_fault}
use Rattle.text.proofs.Reading.{good, answer_is_read, state_in_at, cell_in_at, Filled, said_fills, LeftByOther, read_is_proper}
use Rattle.text.proofs.Reading.{read_fills_the_board, read_looks_at_the_mover}
use Rattle.text.proofs.Writing.{slash_every_tenth, cell_elsewhere, text_has_101_bytes, text_at, marks_of, marks_at, cells_of}
use Rattle.text.proofs.Writing.{cells_have_89_bytes, cells_at}

-- ---- each byte reads as what it was written for
side_reads : (w : Player) → side_of (letter w) ≡ Some w
unfolding side_of when◌then◌else◌
side_reads X = refl
side_reads O = refl

state_reads : (g : GameState) → overall_mark (state_byte g) ≡ Some g
unfolding overall_mark side_of when◌then◌else◌
state_reads InPlay = refl
state_reads Drawn = refl
state_reads (Won X) = refl
state_reads (Won O) = refl

at_reads : overall_mark at_mark ≡ Some InPlay
unfolding overall_mark when◌then◌else◌
at_reads = refl

cell_reads : (s : CellState) → cell_mark (cell_byte s) ≡ Some s
unfolding cell_mark side_of when◌then◌else◌
cell_reads Empty = refl
cell_reads (Played X) = refl
cell_reads (Played O) = refl

-- ---- `;` and `@` lie between the bytes of states and cells
module _ (c : ℕ) (low : 0x2f < c) (high : c < 0x4f) where
  letter_differs : (w : Player) → letter w ≡ c → ⊥
  letter_differs X e = omega arith
  letter_differs O e = omega arith

  state_differs : (g : GameState) → state_byte g ≡ c → ⊥
  state_differs InPlay e = omega arith
  state_differs Drawn e = omega arith
  state_differs (Won w) e = letter_differs w e

  cell_differs : (s : CellState) → cell_byte s ≡ c → ⊥
  cell_differs Empty e = omega arith
  cell_differs (Played w) e = letter_differs w e

-- ---- the semicolons are those of places 1 and 11
abbrev Plain : ℕ → Type 0
Plain c = c ≡ semicolon → ⊥

overall_is_plain : (p : Position) (b : ℕ) → Plain (overall_byte p b)
unfolding overall_byte
overall_is_plain p b = if_ind Plain (same_next_board p.next_board (Some b)) _ _
    (λ _ e. omega arith) (λ _. state_differs semicolon (lit< tt) (lit< tt) (p.states b))

cells_are_plain : (p : Position) (k : ℕ) → Plain (cells_byte p k)
unfolding cells_byte
cells_are_plain p k =
    if_equal Plain (k % 10) 9 _ _ (λ _ e. omega arith) (λ _. cell_differs semicolon (lit< tt) (lit< tt) (p.cells (k / 10) (k % 10)))

byte_is_plain : (p : Position) (i : ℕ) → (i ≡ 1 → ⊥) → (i ≡ 11 → ⊥) → Plain (byte_at p i)
unfolding byte_at
byte_is_plain p i n m =
    if_equal Plain i 0 _ _ (λ _. letter_differs semicolon (lit< tt) (lit< tt) p.turn) (λ _. if_ind Plain (eqb i 1 || eqb i 11) _ _
    (λ t. absurd (elim (or→ (eqb i 1) _ t) [ inl u ↦ n (eqb→eq i 1 u) | inr u ↦ m (eqb→eq i 11 u) ]))
    (λ _. if_ind Plain (ltb i 11) _ _ (λ _. overall_is_plain p (i - 2)) (λ _. cells_are_plain p (i - 12))))

text_parts : (p : Position) → sections (text_of p) ≡ (letter p.turn ∷ []) ∷ marks_of p ∷ cells_of p ∷ []
unfolding text_of
text_parts p =
    let n = text_has_101_bytes p in
    three_sections (text_of p) 1 11 (lit< tt) (omega arith) (clear 0 1 (omega arith)) refl (clear 2 11 (omega arith)) refl
    (clear 12 (length (text_of p)) (omega arith))
  where
    clear : (i j : ℕ) → ((k : ℕ) → i ≤ k → k < j → (k ≡ 1 → ⊥) × (k ≡ 11 → ⊥) × (k < 101)) →
        Clear (text_of p) i j
    clear i j f k a b e = let r = f k a b in byte_is_plain p k r.0 r.1 (sym (text_at p k r.2) ∙ e)

-- ---- the board that is due, and no other, has an `@`
same_due→eq : (d : Option ℕ) (b : ℕ) → T (same_next_board d (Some b)) → d ≡ Some b
same_due→eq None b t = absurd t
same_due→eq (Some c) b t = ap Some (eqb→eq c b t)

at_is_due : (p : Position) (b : ℕ) → overall_byte p b ≡ at_mark → p.next_board ≡ Some b
unfolding overall_byte
at_is_due p b = if_ind (λ c. c ≡ at_mark → p.next_board ≡ Some b) (same_next_board p.next_board (Some b)) _ _
    (λ t _. same_due→eq p.next_board b t) (λ _ e. absurd (state_differs at_mark (lit< tt) (lit< tt) (p.states b) e))

due_has_at : (p : Position) (b : ℕ) → p.next_board ≡ Some b → overall_byte p b ≡ at_mark
unfolding overall_byte
due_has_at p b e = if_ind (λ c. c ≡ at_mark) (same_next_board p.next_board (Some b)) _ _
    (λ _. refl) (λ n. absurd (T_not (same_next_board p.next_board (Some b)) n (rw e (eqb_refl b))))

-- ---- positions that can be written: proper, with the state that the side not to move has left, and nothing beyond the nine boards
pub record Written (p : Position) : Type 0 where
  pub is_proper : T (proper p)
  pub left_by_other : LeftByOther p
  pub filled : Filled p

in_play_is : (g : GameState) → T (in_play g) → g ≡ InPlay
in_play_is InPlay t = refl
in_play_is Drawn t = absurd t
in_play_is (Won w) t = absurd t

cells_are_faultless : (p : Position) → first_fault (cells_of p) (from 0 89) ≡ 0
cells_are_faultless p = no_fault (cells_of p) 0 89 (λ i _ h. go i (omega arith) (ℕ_discrete (i % 10) 9))
  where
    go : (i : ℕ) → i < 89 → Dec (i % 10 ≡ 9) → fault_at (cells_of p) i ≡ 0
    go i h (yes e) = slash_stands (cells_of p) i e (omega (arith, cells_have_89_bytes p)) (cells_at p i h ∙ slash_every_tenth p i e)
    go i h (no n) =
        cell_stands (cells_of p) i n (omega (arith, cells_have_89_bytes p))
        (rw (cells_at p i h, cell_elsewhere p i n, cell_reads (p.cells (i / 10) (i % 10))) tt)

module _ (p : Position) (z : Written p) where
  due_is_open : T (next_board_open p p.next_board)
  unfolding proper
  due_is_open = (and→ (next_board_open p p.next_board) _ z.is_proper).0

  due_back : last_at 0 (marks_of p) None ≡ p.next_board
  due_back = go p.next_board refl due_is_open
    where
      no_other : (b : ℕ) → b < 9 → get_or (marks_of p) b 0 ≡ at_mark → p.next_board ≡ Some b
      no_other b h e = at_is_due p b (sym (marks_at p b h) ∙ e)

      go : (d : Option ℕ) → p.next_board ≡ d → T (next_board_open p d) → last_at 0 (marks_of p) None ≡ d
      go None e t = last_at_none (marks_of p) None (λ k _ h m. let x = no_other k h m in let y : ◌≡◌ {A = ℕ} 0 1 = cc in omega arith)
      go (Some b) e t =
          let h = ltb→lt b 9 (and→ (ltb b 9) _ t).0 in
          last_at_is (marks_of p) None b h (marks_at p b h ∙ due_has_at p b e)
          (λ k l m f. let x = no_other k m f in let y : b ≡ k = cc in omega arith)

  -- an overall mark reads as the board's state: the board that is due is in play
  mark_reads : (b : ℕ) → overall_mark (overall_byte p b) ≡ Some (p.states b)
  unfolding overall_byte
  mark_reads b = if_ind (λ c. overall_mark c ≡ Some (p.states b)) (same_next_board p.next_board (Some b)) _ _
      (λ t.
      let due = subst (λ (d : Option ℕ). T (next_board_open p d)) (same_due→eq p.next_board b t) due_is_open in
      at_reads ∙ ap Some (sym (in_play_is (p.states b) (and→ (ltb b 9) _ due).1)))
      (λ _. state_reads (p.states b))

  marks_are_known : first_bad (marks_of p) ≡ None
  marks_are_known = →none_bad (marks_of p) (λ k h. rw (marks_at p k h, mark_reads k) tt)

  outside : Filled (said p.turn (marks_of p) (cells_of p))
  outside = said_fills p.turn (marks_of p) (cells_of p) refl

  states_back : (b : ℕ) → state_in (marks_of p) b ≡ p.states b
  unfolding said
  states_back b = elim (is (ltb b 9)) [
    | inl t ↦ (let h = ltb→lt b 9 t in state_in_at (marks_of p) b h h ∙ rw (marks_at p b h, mark_reads b))
    | inr t ↦ (let h = nltb→le b 9 t in outside.state_over b h ∙ sym (z.filled.state_over b h))
  ]

  cell_back : (b c : ℕ) → b < 9 → c < 9 → cell_in (cells_of p) b c ≡ p.cells b c
  cell_back b c h k =
      let i : 10 * b + c < 89 = omega arith in let n : (10 * b + c) / 10 ≡ b = omega arith in
      let m : (10 * b + c) % 10 ≡ c = omega arith in
      cell_in_at (cells_of p) b c h k (omega (arith, cells_have_89_bytes p))
      ∙ rw (cells_at p (10 * b + c) i, cell_elsewhere p (10 * b + c) (omega arith), n, m, cell_reads (p.cells b c))

  cells_back : (b c : ℕ) → cell_in (cells_of p) b c ≡ p.cells b c
  unfolding said
  cells_back b c = elim (is (ltb b 9)) [
    | inl t ↦ elim (is (ltb c 9)) [
      | inl u ↦ cell_back b c (ltb→lt b 9 t) (ltb→lt c 9 u)
      | inr u ↦ (let h = nltb→le c 9 u in outside.cell_over b c h ∙ sym (z.filled.cell_over b c h))
    ]
    | inr t ↦ (let h = nltb→le b 9 t in outside.board_over b c h ∙ sym (z.filled.board_over b c h))
  ]

  said_back : said p.turn (marks_of p) (cells_of p) ≡ p
  unfolding said
  said_back = same_position (said p.turn (marks_of p) (cells_of p)) p refl due_back cells_back states_back
      (ap (λ (f : ℕ → GameState). result_of (other p.turn) (λ b. won_by (other p.turn) (f b)) (λ b. in_play (f b)))
      (fun_ext states_back) ∙ sym z.left_by_other)

  -- what is written reads back as it was
  pub read_after_write : read (text_of p) ≡ reads p
  read_after_write = answer_is_read (good {w = p.turn} (record {
    sided =
        record { parted = record { short = omega (arith, text_has_101_bytes p); parts = text_parts p }; letter_is = side_reads p.turn };
    nine_marks = refl;
    none_bad = marks_are_known;
  }) (cells_are_faultless p)) ∙ ap reads said_back

-- ---- what is read, and what is played
-- what is read can be written
pub read_is_written : (t : List ℕ) (p : Position) → read t ≡ reads p → Written p
read_is_written t p e =
    record { is_proper = read_is_proper t p e; left_by_other = read_looks_at_the_mover t p e; filled = read_fills_the_board t p e }

-- so can the empty board
pub start_is_written : Written start
unfolding result_of has_line any when◌then◌else◌
start_is_written =
    record {
      is_proper = start_is_proper;
      left_by_other = refl;
      filled = record
          { board_over = λ _ _ _. refl; cell_over = λ _ _ _. refl; state_over = λ _ _. refl };
    }

after_is_filled : (p : Position) (b c : ℕ) → Legal p b c → Filled p → Filled (after p b c)
unfolding after
after_is_filled p b c l f = record {
  board_over = λ i j h. update_off (λ r. r j ≡ Empty) p.cells b (row p b c) i (λ e. omega (arith, l.board)) (f.board_over i j h);
  cell_over = λ i j h. update_ind (λ r. r j ≡ Empty) p.cells b (row p b c) i
      (λ _. update_off (λ s. s ≡ Empty) (p.cells b) c (Played p.turn) j (λ e. omega (arith, l.cell)) (f.cell_over b j h))
      (f.cell_over i j h);
  state_over = λ i h. update_off (λ g. g ≡ InPlay) p.states b (made p b c) i (λ e. omega (arith, l.board)) (f.state_over i h);
}

-- the mover is then the side not to move
after_is_left : (p : Position) (b c : ℕ) → LeftByOther (after p b c)
unfolding after
after_is_left p b c = rw (other_other p.turn)

-- any move, refused or not, leaves a position that can be written
pub play_stays_written : (p : Position) → Written p → (m : ℕ) → Written (tried p m)
play_stays_written p z m = tried_keeps Written p m (λ l. record {
  is_proper = after_is_proper p (board_of m) (cell_of m) l;
  left_by_other = after_is_left p (board_of m) (cell_of m);
  filled = after_is_filled p (board_of m) (cell_of m) l z.filled;
}) z

reached_stays_written : (p : Position) → Written p → (ms : List ℕ) → Written (reached p ms)
unfolding reached
reached_stays_written p z [] = z
reached_stays_written p z (m ∷ ms) = reached_stays_written (tried p m) (play_stays_written p z m) ms

-- every game from the empty board can be written
pub reached_is_written : (ms : List ℕ) → Written (reached start ms)
reached_is_written = reached_stays_written start start_is_written

-- a position that play reaches from the empty board is read back from its text
pub reached_reads_back : (ms : List ℕ) → read (text_of (reached start ms)) ≡ reads (reached start ms)
reached_reads_back ms = read_after_write (reached start ms) (reached_is_written ms)
