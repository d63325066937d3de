-- One cell more, or one board's state: what the packed numbers then mean is the function changed at one place.
use mathlib.Core.Path.{◌≡◌, refl, sym, ap, ◌∙◌, fun_ext}
use mathlib.Core.Bool.{Bool, true, false, and-false}
use Prim.Native.Nat.{ℕ, ◌/◌, ◌≤◌, ◌<◌}
use native.Mathlib.Decide.{ℕ_discrete, dec_lt}
use native.Mathlib.Omega.{arith}
use lib.Dec.{T, ltb}
use lib.ListN.{length, get_or, set}
use lib.Seq.{get_or-set_same, get_or-set_other}
use borrow.Author.Tests.{lt-ltb, le-ltb}
use Rattle.rules.specs.declared.Player.{Player}
use Rattle.rules.specs.declared.Player.TheVariants.{X, O}
use Rattle.rules.specs.declared.CellState.{CellState}
use Rattle.rules.specs.declared.CellState.TheVariants.{Played}
use Rattle.rules.specs.declared.GameState.{GameState}
use Rattle.rules.specs.declared.GameState.TheVariants.{InPlay, Drawn, Won}
use Rattle.base.specs.Branch.{when◌then◌else◌}
use Rattle.base.specs.Bits.{bit}
use Rattle.base.specs.Update.{update}
use Rattle.base.proofs.Update.{update_at, update_off}
use Rattle.base.proofs.Bits.{marked, unmarked}
use Rattle.rules.specs.Board.{blank, in_play}
use Rattle.boards.specs.declared.local.Row.{Row}
use Rattle.boards.specs.declared.local.LocalBoards.{LocalBoards}
use Rattle.boards.specs.declared.states.GlobalStates.{GlobalStates}
use Rattle.boards.specs.Packed.{cell_of_bits, no_row, row_of, place, cell_at, state_of_bits, state_at}
use Rattle.boards.specs.Rows.{row_cell}
use Rattle.boards.specs.With.{row_with, with_cell, state_with, with_state}
use Rattle.boards.proofs.Packed.{cell_in, cell_past_board, cell_past_cell, state_in, state_past}

-- ---- a function that is changed at one place
module _ {A : Type 0} (f : ℕ → A) (i : ℕ) (a : A) where
  update_here : update f i a i ≡ a
  update_here = update_at (λ (z : A). z ≡ a) f i a refl

  update_there : (j : ℕ) → (i ≡ j → ⊥) → update f i a j ≡ f j
  update_there j h = update_off (λ (z : A). z ≡ f j) f i a j h refl

-- ---- the boards with a cell more
module _ (l : LocalBoards) (b c : ℕ) (w : Player) where
  with_in : b < 9 → c < 9 → with_cell l b c w ≡ record { rows = set l.rows (b / 3) (row_with w (row_of l b) (place b c)) }
  unfolding with_cell when◌then◌else◌
  with_in h k = rw (lt-ltb b 9 h, lt-ltb c 9 k)

  pub with_past_board : 9 ≤ b → l ≡ with_cell l b c w
  unfolding with_cell when◌then◌else◌
  with_past_board h = rw (le-ltb b 9 h)

  pub with_past_cell : 9 ≤ c → l ≡ with_cell l b c w
  unfolding with_cell when◌then◌else◌
  with_past_cell h = rw (le-ltb c 9 h, and-false (ltb b 9))

  pub with_row : (r : Row) → b < 9 → c < 9 → r ≡ row_with w (get_or l.rows (b / 3) no_row) (place b c) →
      ◌≡◌ {A = LocalBoards} (record { rows = set l.rows (b / 3) r }) (with_cell l b c w)
  with_row r h k q = rw q (sym (with_in h k))

pub no_x : (p q : Bool) → T (blank (cell_of_bits p q)) → p ≡ false
no_x false q t = refl
no_x true q t = absurd t

mark_here : (w : Player) (r : Row) (k : ℕ) → T (blank (row_cell r k)) → row_cell (row_with w r k) k ≡ Played w
mark_here X r k t = rw (marked r.x k)
mark_here O r k t = rw (marked r.o k, no_x (bit r.x k) (bit r.o k) t)

mark_there : (w : Player) (r : Row) (k j : ℕ) → (j ≡ k → ⊥) → row_cell (row_with w r k) j ≡ row_cell r j
mark_there X r k j h = rw (unmarked r.x k j h)
mark_there O r k j h = rw (unmarked r.o k j h)

module _ (l : LocalBoards) (b c : ℕ) (w : Player) (n : length l.rows ≡ 3) (hb : b < 9) (hc : c < 9) (t : T (blank (cell_at l b c)))
  where
    after : LocalBoards
    after = with_cell l b c w

    row_here : row_of after b ≡ row_with w (row_of l b) (place b c)
    unfolding after
    row_here = rw (with_in l b c w hb hc) (get_or-set_same l.rows (b / 3) _ no_row (omega arith))

    row_there : (d : ℕ) → (d / 3 ≡ b / 3 → ⊥) → row_of after d ≡ row_of l d
    unfolding after
    row_there d h = rw (with_in l b c w hb hc) (get_or-set_other l.rows (b / 3) (d / 3) _ no_row h)

    here : cell_at after b c ≡ Played w
    here =
        cell_in after b c hb hc ∙ ap (λ (r : Row). row_cell r (place b c)) row_here
        ∙ mark_here w (row_of l b) (place b c) (rw (cell_in l b c hb hc) at t)

    in_row : (d e : ℕ) → d < 9 → e < 9 → (d ≡ b → e ≡ c → ⊥) → Dec (d / 3 ≡ b / 3) →
        row_cell (row_of after d) (place d e) ≡ row_cell (row_of l d) (place d e)
    in_row d e hd he h (yes q) =
        ap (λ (i : ℕ). row_cell (get_or after.rows i no_row) (place d e)) q
        ∙ ap (λ (r : Row). row_cell r (place d e)) row_here
        ∙ mark_there w (row_of l b) (place b c) (place d e) (λ p. h (omega arith) (omega arith))
        ∙ ap (λ (i : ℕ). row_cell (get_or l.rows i no_row) (place d e)) (sym q)
    in_row d e hd he h (no q) = ap (λ (r : Row). row_cell r (place d e)) (row_there d q)

    there : (d e : ℕ) → (d ≡ b → e ≡ c → ⊥) → Dec (d < 9) → Dec (e < 9) → cell_at after d e ≡ cell_at l d e
    there d e h (no q) k = cell_past_board after d e (omega (arith, q)) ∙ sym (cell_past_board l d e (omega (arith, q)))
    there d e h (yes p) (no q) = cell_past_cell after d e (omega (arith, q)) ∙ sym (cell_past_cell l d e (omega (arith, q)))
    there d e h (yes p) (yes q) = cell_in after d e p q ∙ in_row d e p q h (ℕ_discrete (d / 3) (b / 3)) ∙ sym (cell_in l d e p q)

    row_changed : (e : ℕ) → Dec (e ≡ c) → cell_at after b e ≡ update (cell_at l b) c (Played w) e
    row_changed e (yes q) = rw q (here ∙ sym (update_here (cell_at l b) c (Played w)))
    row_changed e (no q) =
        there b e (λ _ p. q p) (dec_lt b 9) (dec_lt e 9) ∙ sym (update_there (cell_at l b) c (Played w) e (λ p. q (sym p)))

    changed : (d e : ℕ) → Dec (d ≡ b) → cell_at after d e ≡ update (cell_at l) b (update (cell_at l b) c (Played w)) d e
    changed d e (yes q) =
        rw q (row_changed e (ℕ_discrete e c) ∙ ap (λ (f : ℕ → CellState). f e)
        (sym (update_here (cell_at l) b (update (cell_at l b) c (Played w)))))
    changed d e (no q) =
        there d e (λ p _. q p) (dec_lt d 9) (dec_lt e 9) ∙ ap (λ (f : ℕ → CellState). f e)
        (sym (update_there (cell_at l) b (update (cell_at l b) c (Played w)) d (λ p. q (sym p))))

    -- an empty cell that is played changes itself alone
    pub cell_after : cell_at (with_cell l b c w) ≡ update (cell_at l) b (update (cell_at l b) c (Played w))
    unfolding after
    cell_after = fun_ext (λ d. fun_ext (λ e. changed d e (ℕ_discrete d b)))

-- ---- the states with one board's more
module _ (s : GlobalStates) (b : ℕ) (g : GameState) where
  pub with_state_in : b < 9 → with_state s b g ≡ state_with s b g
  unfolding with_state when◌then◌else◌
  with_state_in h = rw (lt-ltb b 9 h)

  pub with_state_past : 9 ≤ b → s ≡ with_state s b g
  unfolding with_state when◌then◌else◌
  with_state_past h = rw (le-ltb b 9 h)

  -- as the code has it, in the arm for state h
  pub with_state_as : (h : GameState) (r : GlobalStates) → b < 9 → g ≡ h → r ≡ state_with s b h → r ≡ with_state s b g
  with_state_as h r k e q = rw (q, with_state_in k, e)

none : (p q : Bool) → T (in_play (state_of_bits p q)) → (p ≡ false) × (q ≡ false)
none true true t = absurd t
none true false t = absurd t
none false true t = absurd t
none false false t = (refl, refl)

state_here : (s : GlobalStates) (k : ℕ) (g : GameState) → T (in_play (state_of_bits (bit s.x k) (bit s.o k))) →
    state_of_bits (bit (state_with s k g).x k) (bit (state_with s k g).o k) ≡ g
state_here s k InPlay t = let e = none (bit s.x k) (bit s.o k) t in rw (e.0, e.1)
state_here s k Drawn t = rw (marked s.x k, marked s.o k)
state_here s k (Won X) t = rw (marked s.x k, (none (bit s.x k) (bit s.o k) t).1)
state_here s k (Won O) t = rw (marked s.o k, (none (bit s.x k) (bit s.o k) t).0)

state_there : (s : GlobalStates) (k : ℕ) (g : GameState) (j : ℕ) → (j ≡ k → ⊥) →
    state_of_bits (bit (state_with s k g).x j) (bit (state_with s k g).o j) ≡ state_of_bits (bit s.x j) (bit s.o j)
state_there s k InPlay j h = refl
state_there s k Drawn j h = rw (unmarked s.x k j h, unmarked s.o k j h)
state_there s k (Won X) j h = rw (unmarked s.x k j h)
state_there s k (Won O) j h = rw (unmarked s.o k j h)

module _ (s : GlobalStates) (b : ℕ) (g : GameState) (h : b < 9) (t : T (in_play (state_at s b))) where
  state_changed : (d : ℕ) → Dec (d ≡ b) → Dec (d < 9) → state_at (state_with s b g) d ≡ update (state_at s) b g d
  state_changed d (yes q) k =
      rw q (state_in (state_with s b g) b h ∙ state_here s b g (rw (state_in s b h) at t) ∙ sym (update_here (state_at s) b g))
  state_changed d (no q) (yes k) =
      state_in (state_with s b g) d k ∙ state_there s b g d q ∙ sym (state_in s d k)
      ∙ sym (update_there (state_at s) b g d (λ p. q (sym p)))
  state_changed d (no q) (no k) =
      let m : 9 ≤ d = omega (arith, k) in
      state_past (state_with s b g) d m ∙ sym (state_past s d m) ∙ sym (update_there (state_at s) b g d (λ p. q (sym p)))

  -- a board in play that gets a state changes itself alone
  pub state_after : state_at (with_state s b g) ≡ update (state_at s) b g
  state_after = fun_ext (λ d. rw (with_state_in s b g h) (state_changed d (ℕ_discrete d b) (dec_lt d 9)))
