-- The keys of a board's cells, taken one by one from the first.
use mathlib.Core.Path.{◌≡◌, sym, ap, ◌∙◌}
use Prim.Native.Nat.{ℕ, ◌+◌, ◌<◌}
use native.Mathlib.Decide.{dec_lt}
use native.Mathlib.Numerals.{add-one}
use native.Mathlib.Omega.{arith}
use lib.Bits.{bit_xor}
use lib.ListN.{drop}
use lib.Seq.{drop-cons}
use Rattle.base.proofs.BitsXor.{xor_assoc}
use Rattle.rules.specs.Board.{nine}
use Rattle.rules.specs.Hash.{cell_key, xors}
use Rattle.rules.proofs.Board.{nine_at}
use Rattle.keys.specs.Keys.{cell_key_in}
use Rattle.keys.proofs.KeysRange.{key_in_range, no_key_out_of_range}
use Rattle.boards.specs.declared.local.LocalBoards.{LocalBoards}
use Rattle.boards.specs.Packed.{cell_at}
use Rattle.boards.proofs.Packed.{cell_past_board}

-- one key more is taken
module _ (f : ℕ → ℕ) (i : ℕ) (h : i < 9) where
  first : xors f (drop i nine) ≡ bit_xor (f i) (xors f (drop (i + 1) nine))
  unfolding xors
  first = ap (xors f) (drop-cons nine i 0 h) ∙ rw (nine_at i h, add-one i)

  pub one_more : (a k t : ℕ) → k ≡ f i → bit_xor a (xors f (drop i nine)) ≡ t →
      bit_xor (bit_xor a k) (xors f (drop (i + 1) nine)) ≡ t
  one_more a k t e p = rw e (xor_assoc a (f i) (xors f (drop (i + 1) nine)) ∙ ap (bit_xor a) (sym first) ∙ p)

-- a board over 8 has no played cell, and so no key
pub key_of_cell : (l : LocalBoards) (b c : ℕ) → c < 9 → cell_key_in b c (cell_at l b c) ≡ cell_key b c (cell_at l b c)
unfolding cell_key
key_of_cell l b c h = go (dec_lt b 9)
  where
    go : Dec (b < 9) → cell_key_in b c (cell_at l b c) ≡ cell_key b c (cell_at l b c)
    go (yes k) = sym (key_in_range b c (cell_at l b c) k h)
    go (no k) = sym (no_key_out_of_range b c (cell_at l b c) (λ d _. k d)) ∙ sym (rw (cell_past_board l b c (omega (arith, k))))
