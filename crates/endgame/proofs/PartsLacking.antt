-- Lines that lack one place: the masks find them, and the lowest bit of what a line lacks is that place.
use mathlib.Core.Path.{◌≡◌, refl, ◌∙◌}
use mathlib.Core.Bool.{Bool, ◌||◌, ◌&&◌}
use Prim.Native.Nat.{ℕ, ◌<◌}
use lib.Bits.{bit_and, bit_or}
use lib.Count.{ones, count_trailing_zeros}
use lib.Dec.{T, eqb, lit<}
use Rattle.std.specs.List.{list_any}
use Rattle.base.specs.Bits.{bit, digits}
use Rattle.base.specs.Lists.{any}
use Rattle.base.proofs.Bool.{◌⇒◌, ⇒→}
use Rattle.base.proofs.ListsAgree.{any_of_list}
use Rattle.base.proofs.ListsEvery.{up_to, up_to_at, same_b, same_b_eq}
use Rattle.rules.specs.Board.{Line, lines, all_three}
use Rattle.rules.specs.Evaluation.{places_in}
use Rattle.lines.specs.Masks.{masks, line_at}
use Rattle.lines.proofs.Masks.{mask_at, low, covers}
use Rattle.endgame.specs.Parts.{lacks_one}
use Rattle.endgame.proofs.PartsSets.{set_lt, set_bit, joined_lt, joined_bit}

-- ---- computed for each line and each number of nine digits
covers_test : ℕ → ℕ → Bool
covers_test i n = same_b (covers n (mask_at i)) (all_three (bit n) (line_at i))

covers_line : (i n : ℕ) → i < 8 → n < 512 → covers n (mask_at i) ≡ all_three (bit n) (line_at i)
unfolding covers_test bit
covers_line i n h k = same_b_eq _ _ (up_to_at (covers_test i) 512 (up_to_at (λ i. up_to (covers_test i) 512) 8 tt i h) n k)

one_test : ℕ → ℕ → Bool
one_test i n = same_b (eqb (ones (bit_and n (mask_at i))) 1) (eqb (places_in (bit n) (line_at i)) 1)

one_there : (i n : ℕ) → i < 8 → n < 512 → eqb (ones (bit_and n (mask_at i))) 1 ≡ eqb (places_in (bit n) (line_at i)) 1
unfolding one_test bit places_in ones lib.Count.ones_in
one_there i n h k = same_b_eq _ _ (up_to_at (one_test i) 512 (up_to_at (λ i. up_to (one_test i) 512) 8 tt i h) n k)

-- a single bit is the lowest
lone_test : ℕ → Bool
lone_test n = eqb (ones n) 1 ⇒ up_to (λ k. same_b (bit n k) (eqb k (count_trailing_zeros 32 n))) 9

pub lone_bit : (n k : ℕ) → n < 512 → k < 9 → T (eqb (ones n) 1) → bit n k ≡ eqb k (count_trailing_zeros 32 n)
unfolding lone_test bit ones lib.Count.ones_in count_trailing_zeros
lone_bit n k h l t =
    same_b_eq _ _ (up_to_at (λ k. same_b (bit n k) (eqb k (count_trailing_zeros 32 n))) 9
    (⇒→ (eqb (ones n) 1) _ (up_to_at lone_test 512 tt n h) t) k l)

-- ---- the lines of the masks
-- the side's and the empty places cover the line, and one of them is empty
unfoldable pub line_lacks : (ℕ → Bool) → (ℕ → Bool) → Line → Bool
line_lacks own empty l = all_three (λ i. own i || empty i) l && eqb (places_in empty l) 1

module _ (own empty : ℕ → Bool) (i : ℕ) (h : i < 8) where
  abbrev n : ℕ
  n = digits own 9

  abbrev m : ℕ
  m = digits empty 9

  pub mask_lacks : lacks_one n m (mask_at i) ≡ line_lacks own empty (line_at i)
  unfolding line_lacks places_in
  mask_lacks =
      let l = low i h in
      let both = joined_bit own empty n m refl refl in
      let sole = set_bit empty m refl in
      rw (
        covers_line i (bit_or n m) h (joined_lt own empty n m refl refl),
        one_there i m h (set_lt empty m refl),
        both _ l.0,
        both _ l.1,
        both _ l.2,
        sole _ l.0,
        sole _ l.1,
        sole _ l.2,
      )

pub any_mask : (f : ℕ → Bool) (g : Line → Bool) → ((i : ℕ) → i < 8 → f (mask_at i) ≡ g (line_at i)) → list_any f masks ≡ any g lines
unfolding any
any_mask f g e =
    any_of_list f masks
    ∙ rw (e 0 (lit< tt), e 1 (lit< tt), e 2 (lit< tt), e 3 (lit< tt), e 4 (lit< tt), e 5 (lit< tt), e 6 (lit< tt), e 7 (lit< tt)) refl
