-- Sets of boards, or of cells, as nine digits: what the bit operations make of the tests that they stand for.
use mathlib.Core.Path.{◌≡◌, refl, sym, ap, ap₂, ◌∙◌}
use mathlib.Core.Bool.{Bool, true, false, not, ◌||◌, ◌&&◌, and-true, or-false, or_assoc}
use mathlib.Core.List.{List, [], ◌∷◌}
use Prim.Native.Nat.{ℕ, ◌-◌, ◌*◌, ◌%◌, ◌^◌, ◌≤◌, ◌<◌}
use native.Mathlib.Decide.{dec_lt}
use native.Mathlib.Omega.{arith}
use lib.Bits.{bit_and, bit_or, and_le_l, or_lt}
use lib.Dec.{eqb}
use lib.Pow.{pow-lt}
use borrow.Author.Tests.{ne_eqb}
use Rattle.std.specs.List.{list_any, fold}
use Rattle.base.specs.Bits.{bit, digits}
use Rattle.base.specs.Lists.{any, all}
use Rattle.base.proofs.Bool.{neither}
use Rattle.base.proofs.ListsAgree.{all_same}
use Rattle.base.proofs.BitsOperations.{bit-bit_and, bit-bit_or, bit_nought, bit_pow}
use Rattle.base.proofs.Bits.{bit_above, bit_digits, digits_lt, digits_same, is_digits, none_set, shl_one}
use Rattle.rules.specs.Board.{nine, has_line}
use Rattle.rules.proofs.Board.{nine_in}
use Rattle.lines.proofs.Masks.{line_same}
use Rattle.boards.proofs.Packed.{bit_without}

-- no element passes exactly if all fail
all_fail : (f : ℕ → Bool) (xs : List ℕ) → all (λ x. not (f x)) xs ≡ not (any f xs)
unfolding any all
all_fail f [] = refl
all_fail f (x ∷ xs) = ap (◌&&◌ (not (f x))) (all_fail f xs) ∙ neither (f x) (any f xs)

-- ---- one set
module _ (f : ℕ → Bool) (n : ℕ) (e : n ≡ digits f 9) where
  pub set_lt : n < 512
  set_lt = rw e (digits_lt f 9)

  pub set_bit : (k : ℕ) → k < 9 → bit n k ≡ f k
  set_bit k h = ap (λ (m : ℕ). bit m k) e ∙ bit_digits f 9 k h

  -- a test that fails from 9 on is the digits' at every place
  pub set_bit_all : ((k : ℕ) → 9 ≤ k → f k ≡ false) → (k : ℕ) → bit n k ≡ f k
  set_bit_all past k = go (dec_lt k 9)
    where
      go : Dec (k < 9) → bit n k ≡ f k
      go (yes h) = set_bit k h
      go (no h) = let g : 9 ≤ k = omega (arith, h) in bit_above 9 n k set_lt g ∙ sym (past k g)

  -- `n == 0` asks that the set is empty
  pub none_in : eqb n 0 ≡ not (any f nine)
  none_in =
      none_set 9 n set_lt ∙ all_same (λ k. not (bit n k)) (λ k. not (f k)) nine (λ k i. ap not (set_bit k (nine_in k i)))
      ∙ all_fail f nine

pub no_digits : (f : ℕ → Bool) → ((k : ℕ) → k < 9 → f k ≡ false) → 0 ≡ digits f 9
no_digits f e = is_digits f 9 0 (omega arith) (λ k h. bit_nought k ∙ sym (e k h))

-- ---- two sets
module _ (f g : ℕ → Bool) (n m : ℕ) (e : n ≡ digits f 9) (d : m ≡ digits g 9) where
  pub joined_lt : bit_or n m < 512
  joined_lt = or_lt 9 n m (set_lt f n e) (set_lt g m d)

  pub joined_bit : (k : ℕ) → k < 9 → bit (bit_or n m) k ≡ (f k || g k)
  joined_bit k h = bit-bit_or n m k ∙ ap₂ ◌||◌ (set_bit f n e k h) (set_bit g m d k h)

  pub joined : bit_or n m ≡ digits (λ k. f k || g k) 9
  joined = is_digits (λ k. f k || g k) 9 (bit_or n m) joined_lt joined_bit

  -- a line in both together
  pub joined_line : has_line (bit (bit_or n m)) ≡ has_line (λ k. f k || g k)
  joined_line = line_same (bit (bit_or n m)) (λ k. f k || g k) joined_bit

-- some sets, each joined to those before it
module _ {A : Type 0} (g : A → ℕ → Bool) where
  pub joined_all : (xs : List A) (f : ℕ → Bool) (n : ℕ) → n ≡ digits f 9 → fold (λ m x. bit_or m (digits (g x) 9)) n xs
      ≡ digits (λ k. f k || list_any (λ x. g x k) xs) 9
  joined_all [] f n e = e ∙ digits_same f (λ k. f k || false) 9 (λ k _. sym (or-false (f k)))
  joined_all (x ∷ xs) f n e =
      joined_all xs (λ k. f k || g x k) (bit_or n (digits (g x) 9)) (joined f (g x) n _ e refl)
      ∙ digits_same (λ k. (f k || g x k) || list_any (λ y. g y k) xs) (λ k. f k || list_any (λ y. g y k) (x ∷ xs)) 9
      (λ k _. or_assoc (f k) (g x k) (list_any (λ y. g y k) xs))

-- ---- a set without some digits of a word
module _ (f : ℕ → Bool) (n want : ℕ) (e : n ≡ digits f 9) (w : want < 2 ^ 32) where
  abbrev rest : ℕ
  rest = bit_and n (4294967295 - want)

  pub rest_lt : rest < 512
  rest_lt = omega (arith, set_lt f n e, and_le_l n (4294967295 - want))

  pub rest_bit : (k : ℕ) → k < 9 → bit rest k ≡ (f k && not (bit want k))
  rest_bit k h = bit_without 32 n want k w (omega arith) ∙ ap (λ (p : Bool). p && not (bit want k)) (set_bit f n e k h)

  -- `n & !want == 0` asks that each member is wanted
  pub all_wanted : eqb rest 0 ≡ all (λ k. not (f k) || bit want k) nine
  all_wanted =
      none_set 9 rest rest_lt
      ∙ all_same (λ k. not (bit rest k)) (λ k. not (f k) || bit want k) nine
      (λ k i. ap not (rest_bit k (nine_in k i)) ∙ turned (f k) (bit want k))
    where
      turned : (a b : Bool) → not (a && not b) ≡ (not a || b)
      turned true true = refl
      turned true false = refl
      turned false b = refl

-- ---- the boards to which a board's cells send, but for some of them and for the board itself
module _ (f g : ℕ → Bool) (n m but board : ℕ) (e : n ≡ digits f 9) (d : m ≡ digits g 9) (w : but < 2 ^ 32) where
  abbrev chosen : ℕ → Bool
  chosen i = f i && (g i && (not (bit but i) && not (eqb i board)))

  abbrev left : ℕ
  left = bit_and (bit_and n m) (4294967295 - but)

  in_both : bit_and n m ≡ digits (λ i. f i && g i) 9
  in_both =
      is_digits (λ i. f i && g i) 9 (bit_and n m) (omega (arith, set_lt f n e, and_le_l n m))
      (λ k h. bit-bit_and n m k ∙ ap₂ ◌&&◌ (set_bit f n e k h) (set_bit g m d k h))

  left_bit : (k : ℕ) → k < 9 → bit left k ≡ ((f k && g k) && not (bit but k))
  left_bit = rest_bit (λ i. f i && g i) (bit_and n m) but in_both w

  left_lt : left < 512
  left_lt = rest_lt (λ i. f i && g i) (bit_and n m) but in_both w

  regroup : (a b c q : Bool) → (((a && b) && c) && q) ≡ (a && (b && (c && q)))
  regroup true true c q = refl
  regroup true false c q = refl
  regroup false b c q = refl

  -- over 8 the board is none of them
  pub chosen_past : 9 ≤ board → left ≡ digits chosen 9
  chosen_past h = is_digits chosen 9 left left_lt (λ k l.
      left_bit k l ∙ sym (and-true _) ∙ ap (λ (q : Bool). ((f k && g k) && not (bit but k)) && not q)
      (sym (ne_eqb k board (λ x. omega arith)))
      ∙ regroup (f k) (g k) (not (bit but k)) (not (eqb k board)))

  pub chosen_in : board < 9 → bit_and left (4294967295 - 1 * 2 ^ board % 2 ^ 32) ≡ digits chosen 9
  chosen_in h =
      let l : board < 32 = omega arith in
      let small : 2 ^ board < 2 ^ 32 = pow-lt {j = 32} l in
      rw (shl_one 32 board (omega arith))
      (is_digits chosen 9 (bit_and left (4294967295 - 2 ^ board)) (omega (arith, left_lt, and_le_l left (4294967295 - 2 ^ board))) (λ k l.
      bit_without 32 left (2 ^ board) k small (omega arith)
      ∙ ap₂ (λ (p q : Bool). p && not q) (left_bit k l) (bit_pow board k)
      ∙ regroup (f k) (g k) (not (bit but k)) (not (eqb k board))))
