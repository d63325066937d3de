-- Numbers and their digits: numbers with the same digits are equal, and `digits f w` is the number below 2 ^ w whose digits are f's.
use mathlib.Core.Path.{◌≡◌, refl, sym, ap, ◌∙◌}
use mathlib.Core.Bool.{Bool, true, false, not, cond, ◌||◌, and-true, or-true, or-false, not-not}
use Prim.Native.Nat.{ℕ, zero, suc, ◌+◌, ◌-◌, ◌*◌, ◌/◌, ◌%◌, ◌^◌, ◌≤◌, ◌<◌}
use native.Mathlib.Decide.{ℕ_discrete, dec_lt}
use native.Mathlib.Nat.{mod-lt, pow-suc, one-mul}
use native.Mathlib.Omega.{arith}
use lib.Arith.{bin_ind, lt-one}
use lib.Bits.{bit_and, bit_or, or_shifted_r, and_mask, mask_lt}
use lib.Dec.{T, eqb, eqb→eq, lit<, T_not}
use lib.Pow.{pow_pos, shl_exact}
use borrow.Author.Tests.{eq-eqb, ne_eqb}
use Rattle.base.specs.Bits.{bit, digits}
use Rattle.base.specs.Lists.{all, from}
use Rattle.base.proofs.ListsAgree.{same_by, false_by}
use Rattle.base.proofs.BitsOperations.{bit_low, bit_suc, bit_nought, bit-bit_and, bit-bit_or, bit_not, bit_pow}
use Rattle.base.proofs.Lists.{each_all, all_each, in_from}

-- ---- numbers with the same digits are equal
same_digit : (p q : ℕ) → p < 2 → q < 2 → eqb p 1 ≡ eqb q 1 → p ≡ q
same_digit zero zero h k e = refl
same_digit zero (suc zero) h k e = absurd (let z : ◌≡◌ {A = ℕ} 0 1 = cc in omega arith)
same_digit zero (suc (suc q)) h k e = absurd (omega arith)
same_digit (suc zero) zero h k e = absurd (let z : ◌≡◌ {A = ℕ} 0 1 = cc in omega arith)
same_digit (suc zero) (suc zero) h k e = refl
same_digit (suc zero) (suc (suc q)) h k e = absurd (omega arith)
same_digit (suc (suc p)) q h k e = absurd (omega arith)

low : (a b : ℕ) → bit a 0 ≡ bit b 0 → a % 2 ≡ b % 2
low a b e = same_digit (a % 2) (b % 2) (mod-lt a (lit< tt)) (mod-lt b (lit< tt)) (sym (bit_low a) ∙ e ∙ bit_low b)

halved : (a b : ℕ) → ((k : ℕ) → bit a k ≡ bit b k) → (k : ℕ) → bit (a / 2) k ≡ bit (b / 2) k
halved a b e k = sym (bit_suc a k) ∙ e (suc k) ∙ bit_suc b k

joined : (a b : ℕ) → a / 2 ≡ b / 2 → a % 2 ≡ b % 2 → a ≡ b
joined a b h l = omega arith

zero_ext : (b : ℕ) → ((k : ℕ) → bit 0 k ≡ bit b k) → 0 ≡ b
zero_ext =
    bin_ind (λ (b : ℕ). ((k : ℕ) → bit 0 k ≡ bit b k) → 0 ≡ b) (λ e. refl)
    (λ b ih e. joined 0 b (ih (halved 0 b e)) (low 0 b (e 0)))

pub bit_ext : (a b : ℕ) → ((k : ℕ) → bit a k ≡ bit b k) → a ≡ b
bit_ext =
    bin_ind (λ (a : ℕ). (b : ℕ) → ((k : ℕ) → bit a k ≡ bit b k) → a ≡ b) zero_ext
    (λ a ih b e. joined a b (ih (b / 2) (halved a b e)) (low a b (e 0)))

-- a number below 2 ^ w has no digit from w on
pub bit_above : (w n k : ℕ) → n < 2 ^ w → w ≤ k → bit n k ≡ false
bit_above zero n k h l = ap (λ (m : ℕ). bit m k) (lt-one h) ∙ bit_nought k
bit_above (suc w) n zero h l = absurd (omega arith)
bit_above (suc w) n (suc k) h l = let e = pow-suc 2 w in bit_suc n k ∙ bit_above w (n / 2) k (omega arith) (omega arith)

-- so below 2 ^ w the first w digits settle it
pub bit_ext_below : (w a b : ℕ) → a < 2 ^ w → b < 2 ^ w → ((k : ℕ) → k < w → bit a k ≡ bit b k) → a ≡ b
bit_ext_below w a b h g e = bit_ext a b (λ k. go k (dec_lt k w))
  where
    go : (k : ℕ) → Dec (k < w) → bit a k ≡ bit b k
    go k (yes l) = e k l
    go k (no l) = bit_above w a k h (omega (arith, l)) ∙ sym (bit_above w b k g (omega (arith, l)))

-- ---- the number with given digits
top_lt : (b : Bool) (w n : ℕ) → n < 2 ^ w → n + cond b (2 ^ w) 0 < 2 ^ suc w
top_lt true w n h = let e = pow-suc 2 w in omega arith
top_lt false w n h = let e = pow-suc 2 w in omega arith

pub digits_lt : (f : ℕ → Bool) (w : ℕ) → digits f w < 2 ^ w
unfolding digits
digits_lt f zero = lit< tt
digits_lt f (suc w) = top_lt (f w) w (digits f w) (digits_lt f w)

-- n with digit w on top
topped : (w n : ℕ) → n < 2 ^ w → n + 2 ^ w ≡ bit_or n (2 ^ w)
topped w n h = omega (arith, or_shifted_r 1 w n h, ap (bit_or n) (one-mul (2 ^ w)), one-mul (2 ^ w))

-- digit k is set in n with digit k marked, and every other is as it was
pub marked : (n k : ℕ) → bit (bit_or n (2 ^ k)) k ≡ true
marked n k = bit-bit_or n (2 ^ k) k ∙ ap (λ (p : Bool). bit n k || p) (bit_pow k k ∙ eq-eqb k k refl) ∙ or-true (bit n k)

pub unmarked : (n k j : ℕ) → (j ≡ k → ⊥) → bit (bit_or n (2 ^ k)) j ≡ bit n j
unmarked n k j h = bit-bit_or n (2 ^ k) j ∙ ap (λ (p : Bool). bit n j || p) (bit_pow k j ∙ ne_eqb j k h) ∙ or-false (bit n j)

-- a digit that is set already
pub marked_again : (n k : ℕ) → bit n k ≡ true → bit_or n (2 ^ k) ≡ n
marked_again n k h = bit_ext (bit_or n (2 ^ k)) n (λ j. go j (ℕ_discrete j k))
  where
    go : (j : ℕ) → Dec (j ≡ k) → bit (bit_or n (2 ^ k)) j ≡ bit n j
    go j (yes e) = rw e (marked n k ∙ sym h)
    go j (no d) = unmarked n k j d

module _ (w n : ℕ) (h : n < 2 ^ w) where
  top_digit : (b : Bool) → bit (n + cond b (2 ^ w) 0) w ≡ b
  top_digit true = rw (topped w n h) (marked n w)
  top_digit false = let e : n + 0 ≡ n = omega arith in ap (λ (m : ℕ). bit m w) e ∙ bit_above w n w h (omega arith)

  low_digit : (b : Bool) (k : ℕ) → k < w → bit (n + cond b (2 ^ w) 0) k ≡ bit n k
  low_digit true k l = rw (topped w n h) (unmarked n w k (λ e. omega arith))
  low_digit false k l = let e : n + 0 ≡ n = omega arith in ap (λ (m : ℕ). bit m k) e

pub bit_digits : (f : ℕ → Bool) (w k : ℕ) → k < w → bit (digits f w) k ≡ f k
unfolding digits
bit_digits f zero k h = absurd (omega arith)
bit_digits f (suc w) k h = go (ℕ_discrete k w) (bit_digits f w k)
  where
    go : Dec (k ≡ w) → (k < w → bit (digits f w) k ≡ f k) → bit (digits f w + cond (f w) (2 ^ w) 0) k ≡ f k
    go (yes e) r = rw e (top_digit w (digits f w) (digits_lt f w) (f w))
    go (no q) r = low_digit w (digits f w) (digits_lt f w) (f w) k (omega arith) ∙ r (omega arith)

-- a number below 2 ^ w is `digits f w` if its first w digits are f's
pub is_digits : (f : ℕ → Bool) (w n : ℕ) → n < 2 ^ w → ((k : ℕ) → k < w → bit n k ≡ f k) → n ≡ digits f w
is_digits f w n h e = bit_ext_below w n (digits f w) h (digits_lt f w) (λ k l. e k l ∙ sym (bit_digits f w k l))

pub digits_same : (f g : ℕ → Bool) (w : ℕ) → ((k : ℕ) → k < w → f k ≡ g k) → digits f w ≡ digits g w
digits_same f g w e = is_digits g w (digits f w) (digits_lt f w) (λ k l. bit_digits f w k l ∙ e k l)

pub digits_le : (f : ℕ → Bool) (w n : ℕ) → n ≡ digits f w → n ≤ 2 ^ w - 1
digits_le f w n e = omega (arith, digits_lt f w)

-- the low w digits of a number
ones_bit : (w k : ℕ) → k < w → bit (2 ^ w - 1) k ≡ true
ones_bit w k h =
    let e : 2 ^ w - 1 - 0 ≡ 2 ^ w - 1 = omega arith in ap (λ (m : ℕ). bit m k) (sym e) ∙ bit_not w 0 k (pow_pos w) h
    ∙ ap not (bit_nought k)

pub bit_masked : (w n k : ℕ) → k < w → bit (bit_and n (2 ^ w - 1)) k ≡ bit n k
bit_masked w n k h = bit-bit_and n (2 ^ w - 1) k ∙ rw (ones_bit w k h) (and-true (bit n k))

pub masked : (f : ℕ → Bool) (w n : ℕ) → ((k : ℕ) → k < w → bit n k ≡ f k) → bit_and n (2 ^ w - 1) ≡ digits f w
masked f w n e = is_digits f w (bit_and n (2 ^ w - 1)) (mask_lt n w) (λ k h. bit_masked w n k h ∙ e k h)

-- all of w digits turned
pub digits_not : (f : ℕ → Bool) (w : ℕ) → 2 ^ w - 1 - digits f w ≡ digits (λ k. not (f k)) w
digits_not f w =
    is_digits (λ k. not (f k)) w (2 ^ w - 1 - digits f w) (omega (arith, pow_pos w))
    (λ k h. bit_not w (digits f w) k (digits_lt f w) h ∙ ap not (bit_digits f w k h))

pub digits_left : (f : ℕ → Bool) (w : ℕ) → 2 ^ w - 1 - digits (λ k. not (f k)) w ≡ digits f w
digits_left f w = digits_not (λ k. not (f k)) w ∙ digits_same (λ k. not (not (f k))) f w (λ k h. not-not (f k))

-- `1 << k` at w digits
pub shl_one : (w k : ℕ) → k < w → 1 * 2 ^ k % 2 ^ w ≡ 2 ^ k
shl_one w k h = shl_exact 1 k w (lit< tt) (omega arith) ∙ one-mul (2 ^ k)

-- ---- tests
-- `(n >> k) & 1` is digit k
pub digit_read : (n k : ℕ) → bit_and (n / 2 ^ k) 1 ≡ cond (bit n k) 1 0
unfolding bit
digit_read n k = and_mask (n / 2 ^ k) 1 ∙ one (n / 2 ^ k % 2) (mod-lt (n / 2 ^ k) (lit< tt))
  where
    one : (d : ℕ) → d < 2 → d ≡ cond (eqb d 1) 1 0
    one zero h = refl
    one (suc zero) h = refl
    one (suc (suc d)) h = absurd (omega arith)

-- `(n >> k) & 1 == 1` asks whether it is set
pub digit_test : (n k : ℕ) → eqb (bit_and (n / 2 ^ k) 1) 1 ≡ bit n k
unfolding bit
digit_test n k = ap (λ (d : ℕ). eqb d 1) (and_mask (n / 2 ^ k) 1)

-- `(n >> k) & 1 == 0` asks that it is not set
pub digit_clear : (n k : ℕ) → eqb (bit_and (n / 2 ^ k) 1) 0 ≡ not (bit n k)
digit_clear n k = rw (digit_read n k) (go (bit n k))
  where
    go : (b : Bool) → eqb (cond b 1 0) 0 ≡ not b
    go true = refl
    go false = refl

-- `n == 0` asks that none is set
pub none_set : (w n : ℕ) → n < 2 ^ w → eqb n 0 ≡ all (λ k. not (bit n k)) (from 0 w)
none_set w n h = same_by (eqb n 0) (all (λ k. not (bit n k)) (from 0 w)) there back
  where
    there : T (eqb n 0) → T (all (λ k. not (bit n k)) (from 0 w))
    there t = each_all (λ k. not (bit n k)) (from 0 w) (λ k i. rw (eqb→eq n 0 t, bit_nought k) tt)

    clear : T (all (λ k. not (bit n k)) (from 0 w)) → (k : ℕ) → k < w → bit n k ≡ bit 0 k
    clear t k l =
        false_by (bit n k) (T_not (bit n k) (all_each (λ k. not (bit n k)) k (from 0 w) t (in_from 0 w k (omega arith) (omega arith))))
        ∙ sym (bit_nought k)

    back : T (all (λ k. not (bit n k)) (from 0 w)) → T (eqb n 0)
    back t = rw (bit_ext_below w n 0 h (pow_pos w) (clear t)) tt
