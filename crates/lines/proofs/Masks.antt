-- The lines: the two tables agree, the masks find a line wherever three digits make one, and what nine digits say of a board's state.
use mathlib.Core.Path.{◌≡◌, refl, sym, ap, ◌∙◌}
use mathlib.Core.Bool.{Bool, true, false, not, ◌&&◌, not-not}
use mathlib.Core.List.{[], map}
use Prim.Native.Nat.{ℕ, ◌%◌, ◌<◌}
use native.Mathlib.Nat.{mod-lt}
use native.Mathlib.Omega.{arith}
use lib.Bits.{bit_and, and_mask, and_mod, and_le_r}
use lib.Dec.{eqb, eqb→eq, ltb, ltb→lt, lit<}
use lib.ListN.{get_or}
use Rattle.std.specs.List.{list_any}
use borrow.Author.Tests.{eq-eqb, ne_eqb, not-true, not-false}
use Rattle.rules.specs.declared.Player.{Player}
use Rattle.rules.specs.declared.GameState.TheVariants.{InPlay, Drawn, Won}
use Rattle.base.specs.Branch.{when◌then◌else◌}
use Rattle.base.specs.Bits.{bit, digits}
use Rattle.base.specs.Lists.{any, all, In}
use Rattle.base.proofs.Bool.{and→}
use Rattle.base.proofs.ListsAgree.{any_same, any_of_list}
use Rattle.base.proofs.ListsEvery.{up_to_at, same_below}
use Rattle.base.proofs.Lists.{all_each, from_in}
use Rattle.base.proofs.Bits.{bit_masked, bit_digits, digits_lt}
use Rattle.rules.specs.Board.{nine, Line, lines, has_line, result_of}
use Rattle.lines.specs.Masks.{line_at, masks, mask_of, indices}

-- each mask has the three places of its line
pub tables_agree : masks ≡ map mask_of lines
tables_agree = refl

-- ---- line i
abbrev pub mask_at : ℕ → ℕ
mask_at i = get_or masks i 0

abbrev pub place_at : ℕ → ℕ → ℕ
place_at i j = get_or (get_or (map indices lines) i []) j 0

abbrev pub Low : Line → Type 0
Low l = (l.i < 9) × (l.j < 9) × (l.k < 9)

low_test : ℕ → Bool
low_test i = ltb (line_at i).i 9 && (ltb (line_at i).j 9 && ltb (line_at i).k 9)

pub low : (i : ℕ) → i < 8 → Low (line_at i)
unfolding low_test
low i h =
    let t = and→ (ltb (line_at i).i 9) _ (up_to_at low_test 8 tt i h) in
    let u = and→ (ltb (line_at i).j 9) _ t.1 in
    (ltb→lt _ 9 t.0, ltb→lt _ 9 u.0, ltb→lt _ 9 u.1)

place_test : ℕ → Bool
place_test i = eqb (place_at i 0) (line_at i).i && (eqb (place_at i 1) (line_at i).j && eqb (place_at i 2) (line_at i).k)

-- its three places, in the table of places
pub places : (i : ℕ) → i < 8 → (place_at i 0 ≡ (line_at i).i) × (place_at i 1 ≡ (line_at i).j) × (place_at i 2 ≡ (line_at i).k)
unfolding place_test
places i h =
    let t = and→ (eqb (place_at i 0) (line_at i).i) _ (up_to_at place_test 8 tt i h) in
    let u = and→ (eqb (place_at i 1) (line_at i).j) _ t.1 in
    (eqb→eq _ _ t.0, eqb→eq _ _ u.0, eqb→eq _ _ u.1)

-- ---- the masks
-- the mask lies in the bits
abbrev pub covers : ℕ → ℕ → Bool
covers n m = eqb (bit_and n m) m

-- a test at each board of nine digits
small_line : (n : ℕ) → n < 512 → any (covers n) masks ≡ has_line (bit n)
unfolding has_line any bit
small_line = same_below (λ n. any (covers n) masks) (λ n. has_line (bit n)) 512 tt

small_full : (n : ℕ) → n < 512 → eqb n 511 ≡ not (any (λ k. not (bit n k)) nine)
unfolding any bit
small_full = same_below (λ n. eqb n 511) (λ n. not (any (λ k. not (bit n k)) nine)) 512 tt

-- only the nine low digits count
pub line_same : (f g : ℕ → Bool) → ((k : ℕ) → k < 9 → f k ≡ g k) → has_line f ≡ has_line g
unfolding has_line any
line_same f g e =
    rw (
      e 0 (lit< tt),
      e 1 (lit< tt),
      e 2 (lit< tt),
      e 3 (lit< tt),
      e 4 (lit< tt),
      e 5 (lit< tt),
      e 6 (lit< tt),
      e 7 (lit< tt),
      e 8 (lit< tt),
    )

masks_small : (m : ℕ) → In m masks → m < 512
unfolding all
masks_small m i = ltb→lt m 512 (all_each (λ k. ltb k 512) m masks tt i)

low_covers : (n m : ℕ) → m < 512 → covers n m ≡ covers (n % 512) m
low_covers n m h = ap (λ (k : ℕ). eqb k m) same
  where
    same : bit_and n m ≡ bit_and (n % 512) m
    same =
        let a = and_mod n m 9 in let b = and_le_r n m in let c : m % 512 ≡ m = omega arith in let d = ap (bit_and (n % 512)) c in
        omega arith

low_bit : (n k : ℕ) → k < 9 → bit (n % 512) k ≡ bit n k
low_bit n k h = rw (← and_mask n 9) (bit_masked 9 n k h)

pub mask_line : (n : ℕ) → list_any (covers n) masks ≡ has_line (bit n)
mask_line n =
    any_of_list (covers n) masks
    ∙ any_same (covers n) (covers (n % 512)) masks (λ m i. low_covers n m (masks_small m i))
    ∙ small_line (n % 512) (mod-lt n (lit< tt))
    ∙ line_same (bit (n % 512)) (bit n) (low_bit n)

-- ---- what nine digits say of the state of a board, or of the game
pub line_known : (own : ℕ → Bool) (n : ℕ) (r b : Bool) → n ≡ digits own 9 → r ≡ has_line (bit n) → r ≡ b →
    has_line own ≡ b
line_known own n r b e f g =
    sym (line_same (bit (digits own 9)) own (bit_digits own 9)) ∙ ap (λ (m : ℕ). has_line (bit m)) (sym e) ∙ sym f ∙ g

full_of_digits : (left : ℕ → Bool) → eqb (digits (λ k. not (left k)) 9) 511 ≡ not (any left nine)
full_of_digits left =
    small_full (digits (λ k. not (left k)) 9) (digits_lt (λ k. not (left k)) 9)
    ∙ ap not (any_same (λ k. not (bit (digits (λ k. not (left k)) 9) k)) left nine
    (λ k i. ap not (bit_digits (λ k. not (left k)) 9 k (from_in 0 9 k i).1) ∙ not-not (left k)))

module _ (w : Player) (own left : ℕ → Bool) where
  pub is_won : has_line own ≡ true → Won w ≡ result_of w own left
  unfolding result_of when◌then◌else◌
  is_won e = rw e

  pub is_drawn : has_line own ≡ false → digits (λ k. not (left k)) 9 ≡ 511 → Drawn ≡ result_of w own left
  unfolding result_of when◌then◌else◌
  is_drawn e f = rw (e, not-true (any left nine) (sym (full_of_digits left) ∙ eq-eqb _ _ f))

  pub is_open : has_line own ≡ false → (digits (λ k. not (left k)) 9 ≡ 511 → ⊥) → InPlay ≡ result_of w own left
  unfolding result_of when◌then◌else◌
  is_open e f = rw (e, not-false (any left nine) (sym (full_of_digits left) ∙ ne_eqb _ _ f))
