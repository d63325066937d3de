-- The hash that play keeps is the hash worked out afresh: a move changes what one board gives, and the keys that go out cancel those that
-- stood there.
use mathlib.Core.Path.{◌≡◌, refl, sym, ap, ap₂, ◌∙◌}
use Prim.Native.Nat.{ℕ}
use lib.Bits.{bit_xor, xor_zero_r, xor_self}
use lib.Dec.{T}
use Rattle.base.specs.Branch.{when◌then◌else◌}
use Rattle.base.specs.Lists.{elem, unique}
use Rattle.base.specs.Update.{update}
use Rattle.base.proofs.Update.{update_at, update_off}
use Rattle.rules.specs.declared.CellState.{CellState}
use Rattle.rules.specs.declared.CellState.TheVariants.{Empty, Played}
use Rattle.rules.specs.declared.GameState.{GameState}
use Rattle.rules.specs.declared.GameState.TheVariants.{InPlay, Drawn, Won}
use Rattle.rules.specs.Board.{blank, in_play, nine}
use Rattle.rules.specs.Position.{Position}
use Rattle.rules.specs.Play.{after}
use Rattle.rules.specs.Hash.{cell_key, board_key, cells_hash, board_hash, hash, hash_after}
use Rattle.rules.proofs.Board.{in_nine}
use Rattle.rules.proofs.Play.{Legal}
use Rattle.rules.proofs.Sound.{row, made}
use Rattle.base.proofs.BitsXor.{xor_assoc, xor_left_comm, xor_swap}
use Rattle.rules.proofs.HashXor.{xors_change}

-- a board that stays in play: its cells gave r before, and k besides now
stays : (r k h r' : ℕ) → r' ≡ bit_xor k r → bit_xor (bit_xor r r') h ≡ bit_xor k h
stays r k h r' e =
    ap (λ (z : ℕ). bit_xor (bit_xor r z) h) e ∙ ap (λ (z : ℕ). bit_xor z h)
    (xor_left_comm r k r ∙ ap (λ (z : ℕ). bit_xor k z) (xor_self r) ∙ xor_zero_r k)

-- and one that is closed: now it gives b
closes : (r k h r' b : ℕ) → r' ≡ bit_xor k r → bit_xor (bit_xor r b) h ≡ bit_xor b (bit_xor r' (bit_xor k h))
closes r k h r' b e =
    xor_assoc r b h ∙ xor_left_comm r b h
    ∙ ap (λ (z : ℕ). bit_xor b z) (sym (ap (λ (z : ℕ). bit_xor z (bit_xor k h)) e ∙ xor_swap k r h))

unique_nine : T (unique nine)
unfolding unique elem
unique_nine = tt

blank_key : (b c : ℕ) (s : CellState) → T (blank s) → cell_key b c s ≡ 0
unfolding cell_key
blank_key b c Empty t = refl
blank_key b c (Played w) t = absurd t

open_hash : (b : ℕ) (r : ℕ → CellState) (g : GameState) → T (in_play g) → board_hash b r g ≡ cells_hash b r
unfolding board_hash when◌then◌else◌
open_hash b r InPlay t = refl
open_hash b r Drawn t = absurd t
open_hash b r (Won w) t = absurd t

module _ (p : Position) (b c : ℕ) (l : Legal p b c) where
  -- the key that comes in, what the cells gave before, and what they give now
  abbrev k : ℕ
  k = cell_key b c (Played p.turn)

  abbrev before : ℕ
  before = cells_hash b (p.cells b)

  abbrev now : ℕ
  now = cells_hash b (row p b c)

  -- the cells give one key more
  row_hash : now ≡ bit_xor k before
  unfolding cells_hash
  row_hash = xors_change (λ i. cell_key b i (p.cells b i)) (λ i. cell_key b i (row p b c i)) c nine unique_nine (in_nine c l.cell)
      (λ i n. update_off (λ (s : CellState). cell_key b i s ≡ cell_key b i (p.cells b i)) (p.cells b) c (Played p.turn) i n refl)
      ∙ ap₂ (λ (x y : ℕ). bit_xor (bit_xor x y) before) (blank_key b c (p.cells b c) l.empty)
      (update_at (λ (s : CellState). cell_key b c s ≡ k) (p.cells b) c (Played p.turn) refl)

  -- what the board gives now, for what it gave before
  board_change : (g : GameState) (h : ℕ) → bit_xor (bit_xor before (board_hash b (row p b c) g)) h
      ≡ bit_xor (board_key b g) (bit_xor (when in_play g then (λ _. 0) else λ _. now) (bit_xor k h))
  unfolding board_hash board_key when◌then◌else◌
  board_change InPlay h = stays before k h now row_hash
  board_change Drawn h = closes before k h now _ row_hash
  board_change (Won w) h = closes before k h now _ row_hash

  -- a move changes the hash to that of the position after it
  pub hash_kept_is_fresh : hash (after p b c) ≡ hash_after p b c (hash p)
  unfolding hash hash_after after
  hash_kept_is_fresh =
      xors_change gave gives b nine unique_nine (in_nine b l.board) (λ i n. update_off
      (λ (r : ℕ → CellState). board_hash i r (states i) ≡ gave i) p.cells b (row p b c) i n
      (update_off (λ (g : GameState). board_hash i (p.cells i) g ≡ gave i) p.states b (made p b c) i n refl))
      ∙ ap₂ (λ (x y : ℕ). bit_xor (bit_xor x y) (hash p)) (open_hash b (p.cells b) (p.states b) l.opened)
      (update_at (λ (r : ℕ → CellState). board_hash b r (states b) ≡ board_hash b (row p b c) (states b)) p.cells b (row p b c)
      refl)
      ∙ board_change (states b) (hash p)
    where
      states : ℕ → GameState
      states = update p.states b (made p b c)

      gave : ℕ → ℕ
      gave i = board_hash i (p.cells i) (p.states i)

      gives : ℕ → ℕ
      gives i = board_hash i (update p.cells b (row p b c) i) (states i)
