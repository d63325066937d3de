-- The first i bytes of the cells, read: each board's cells among them, in neat rows.
use Rattle.std.specs.Prelude.{Option, None, Some, Result, ok_or}
use mathlib.Core.Path.{◌≡◌, refl, sym, ap, ◌∙◌, fun_ext}
use mathlib.Core.List.{List}
use Prim.Native.Nat.{ℕ, ◌+◌, ◌*◌, ◌/◌, ◌%◌, ◌≤◌, ◌<◌}
use native.Mathlib.Decide.{ℕ_discrete, dec_lt}
use native.Mathlib.Omega.{arith}
use borrow.Author.Rules.{rules}
use lib.Dec.{T}
use lib.ListN.{length, get_or}
use Rattle.base.specs.Update.{update}
use Rattle.base.specs.Lists.{all, from}
use Rattle.base.proofs.Update.{update_at, update_off}
use Rattle.rules.specs.declared.Player.TheVariants.{X}
use Rattle.rules.specs.declared.CellState.{CellState}
use Rattle.rules.specs.declared.CellState.TheVariants.{Empty, Played}
use Rattle.rules.specs.Board.{blank, nine}
use Rattle.rules.specs.Position.{Position}
use Rattle.text.specs.Bytes.{slash}
use Rattle.text.specs.Reading.{cell_mark, or_else, fault_at, first_fault, cell_in, said}
use Rattle.text.proofs.ReadingScan.{first_fault_is, no_fault, faultless_is_there, cell_stands, cell_bad}
use Rattle.text.proofs.Reading.{cell_in_at, said_fills}
use Rattle.boards.specs.declared.local.LocalBoards.{LocalBoards}
use Rattle.boards.specs.Packed.{cell_at}
use Rattle.boards.proofs.Packed.{cell_past_board, cell_past_cell}
use Rattle.boards.proofs.With.{with_past_cell, cell_after}
use Rattle.game.specs.Built.{no_boards}
use Rattle.game.specs.Neat.{neat_row}
use Rattle.game.proofs.Meaning.{new_game_means}
use Rattle.game.proofs.Neat.{with_cell_neat}
use Rattle.notation.specs.declared.ErrorKind.{ErrorKind}
use Rattle.notation.specs.Parsed.{kind_number}
use Rattle.notation.specs.declared.ErrorKind.TheVariants.{BadPlayer}
use Rattle.notation.specs.Parts.{with_cell_state, ReadsCell, CellsSay}
use Rattle.notation.proofs.PartsMarks.{no_cell}

-- ---- one byte
-- a `/` says nothing
pub slash_said : (c : ℕ) → c ≡ slash → Empty ≡ or_else (cell_mark c) Empty
slash_said c e = rw (e, no_cell slash (λ p. omega arith) (λ p. omega arith) (λ p. omega arith))

-- elsewhere a mark says what it says, or is bad
pub mark_said : (cs : List ℕ) (i : ℕ) → (i % 10 ≡ 9 → ⊥) → i < length cs → (r : Result CellState ErrorKind) →
    r ≡ ok_or (cell_mark (get_or cs i 0)) BadPlayer → ReadsCell cs i r
mark_said cs i n h r e = rw e (go (cell_mark (get_or cs i 0)) refl)
  where
    go : (m : Option CellState) → cell_mark (get_or cs i 0) ≡ m → ReadsCell cs i (ok_or m BadPlayer)
    go None q = cell_bad cs i n h (λ t. rw q at t)
    go (Some s) q = (cell_stands cs i n h (rw q tt), rw q)

-- ---- one cell more
module _ (l : LocalBoards) (b c : ℕ) where
  -- beyond the ninth nothing changes
  unmarked : (s : CellState) → 9 ≤ c → with_cell_state l b c s ≡ l
  unmarked Empty h = refl
  unmarked (Played w) h = sym (with_past_cell l b c w h)

  module _ (n : length l.rows ≡ 3) (hb : b < 9) (hc : c < 9) (e : cell_at l b c ≡ Empty) where
    free : T (blank (cell_at l b c))
    free = rw e tt

    marked_here : (s : CellState) → cell_at (with_cell_state l b c s) b c ≡ s
    marked_here Empty = e
    marked_here (Played w) = ap (λ (f : ℕ → ℕ → CellState). f b c) (cell_after l b c w n hb hc free)
        ∙ update_at (λ (r : ℕ → CellState). r c ≡ Played w) (cell_at l) b (update (cell_at l b) c (Played w))
        (update_at (λ (s : CellState). s ≡ Played w) (cell_at l b) c (Played w) refl)

    marked_there : (s : CellState) (i j : ℕ) → (i ≡ b → j ≡ c → ⊥) → cell_at (with_cell_state l b c s) i j ≡ cell_at l i j
    marked_there Empty i j h = refl
    marked_there (Played w) i j h =
        ap (λ (f : ℕ → ℕ → CellState). f i j) (cell_after l b c w n hb hc free) ∙ elim (ℕ_discrete i b) [
          | yes q ↦ rw q (update_at (λ (r : ℕ → CellState). r j ≡ cell_at l b j) (cell_at l) b (update (cell_at l b) c (Played w))
              (update_off (λ (s : CellState). s ≡ cell_at l b j) (cell_at l b) c (Played w) j (λ p. h q (sym p)) refl))
          | no q ↦ update_off (λ (r : ℕ → CellState). r j ≡ cell_at l i j) (cell_at l) b (update (cell_at l b) c (Played w)) i
              (λ p. q (sym p)) refl
        ]

    marked_neat : (s : CellState) → T (all neat_row l.rows) → (length (with_cell_state l b c s).rows ≡ 3) ×
        T (all neat_row (with_cell_state l b c s).rows)
    marked_neat Empty a = (n, a)
    marked_neat (Played w) a = with_cell_neat l b c w hb hc free n a

-- ---- byte i is cell i % 10 of board i / 10, or a `/`
pub record CellsUpTo (cs : List ℕ) (l : LocalBoards) (i : ℕ) : Type 0 where
  pub faultless : (j : ℕ) → j < i → fault_at cs j ≡ 0
  pub three : length l.rows ≡ 3
  pub each : T (all neat_row l.rows)
  pub read : (b c : ℕ) → b < 9 → c < 9 → 10 * b + c < i → cell_at l b c ≡ cell_in cs b c
  pub unread : (b c : ℕ) → b < 9 → c < 9 → i ≤ 10 * b + c → cell_at l b c ≡ Empty

pub none_filled : (cs : List ℕ) → CellsUpTo cs no_boards 0
unfolding all
none_filled cs = record {
  faultless = λ j h. absurd (omega arith);
  three = refl;
  each = tt;
  read = λ b c _ _ h. absurd (omega arith);
  unread = λ b c _ _ _. ap (λ (p : Position). p.cells b c) new_game_means;
}

module _ (cs : List ℕ) (l : LocalBoards) (i : ℕ) (h : i < 89) (m : CellsUpTo cs l i) where
  -- a fault is the first
  pub fault_found : (why : ErrorKind) → kind_number why ≡ fault_at cs i → kind_number why ≡ first_fault cs (from 0 89)
  fault_found why e =
      let z : 0 + i ≡ i = omega arith in
      e ∙ sym (rw z at (first_fault_is cs 0 89 i h (λ j _ k. m.faultless j (omega arith))
      (rw z (λ q. let n : 0 < kind_number why = search rules in omega (arith, e ∙ q)))))

  -- one byte more
  module _ (z : fault_at cs i ≡ 0) (s : CellState) (is_said : s ≡ or_else (cell_mark (get_or cs i 0)) Empty) where
    abbrev l' : LocalBoards
    l' = with_cell_state l (i / 10) (i % 10) s

    right : (j : ℕ) → j < i + 1 → fault_at cs j ≡ 0
    right j k = elim (ℕ_discrete j i) [ yes q ↦ rw q z | no q ↦ m.faultless j (omega arith) ]

    -- a `/`
    slash_filled : i % 10 ≡ 9 → CellsUpTo cs l (i + 1)
    slash_filled q = record {
      faultless = right;
      three = m.three;
      each = m.each;
      read = λ b c p r k. m.read b c p r (omega arith);
      unread = λ b c p r k. m.unread b c p r (omega arith);
    }

    -- a cell
    module _ (q : i % 10 < 9) where
      empty : cell_at l (i / 10) (i % 10) ≡ Empty
      empty = m.unread (i / 10) (i % 10) (omega arith) q (omega arith)

      here : cell_at l' (i / 10) (i % 10) ≡ cell_in cs (i / 10) (i % 10)
      here =
          let e : 10 * (i / 10) + i % 10 ≡ i = omega arith in
          marked_here l (i / 10) (i % 10) m.three (omega arith) q empty s ∙ is_said
          ∙ sym (cell_in_at cs (i / 10) (i % 10) (omega arith) q (rw e (faultless_is_there cs i z)) ∙ rw e)

      there : (b c : ℕ) → (b ≡ i / 10 → c ≡ i % 10 → ⊥) → cell_at l' b c ≡ cell_at l b c
      there b c n = marked_there l (i / 10) (i % 10) m.three (omega arith) q empty s b c n

      neat : (length l'.rows ≡ 3) × T (all neat_row l'.rows)
      neat = marked_neat l (i / 10) (i % 10) m.three (omega arith) q empty s m.each

      cell_filled : CellsUpTo cs l' (i + 1)
      cell_filled = record {
        faultless = right;
        three = neat.0;
        each = neat.1;
        read = λ b c p r k. elim (ℕ_discrete (10 * b + c) i) [
          | yes e ↦ (let x : b ≡ i / 10 = omega arith in let y : c ≡ i % 10 = omega arith in rw (x, y) here)
          | no e ↦ there b c (λ x y. e (omega arith)) ∙ m.read b c p r (omega arith)
        ];
        unread = λ b c p r k. there b c (λ x y. omega arith) ∙ m.unread b c p r (omega arith);
      }

    pub one_filled : CellsUpTo cs l' (i + 1)
    one_filled = elim (ℕ_discrete (i % 10) 9) [
      | yes q ↦ rw (unmarked l (i / 10) (i % 10) s (omega arith)) (slash_filled q)
      | no q ↦ cell_filled (omega arith)
    ]

-- all 89
pub all_filled : (cs : List ℕ) (l : LocalBoards) → CellsUpTo cs l 89 → CellsSay cs l
unfolding said
all_filled cs l m = record {
  faultless = no_fault cs 0 89 (λ j _ h. m.faultless j (omega arith));
  cells_are = fun_ext (λ b. fun_ext (λ c. go b c (dec_lt b 9) (dec_lt c 9)));
  three = m.three;
  each = m.each;
}
  where
    go : (b c : ℕ) → Dec (b < 9) → Dec (c < 9) → cell_at l b c ≡ cell_in cs b c
    go b c (no p) q = cell_past_board l b c (omega (arith, p)) ∙ sym ((said_fills X nine cs refl).board_over b c (omega (arith, p)))
    go b c (yes p) (no q) = cell_past_cell l b c (omega (arith, q)) ∙ sym ((said_fills X nine cs refl).cell_over b c (omega (arith, q)))
    go b c (yes p) (yes q) = m.read b c p q (omega arith)
