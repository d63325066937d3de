-- The digits of a number, as Bools: what the bit operations do to each.
use mathlib.Core.Path.{◌≡◌, refl, sym, ap, ◌∙◌}
use mathlib.Core.Bool.{Bool, true, false, not, ◌&&◌, ◌||◌}
use Prim.Native.Nat.{ℕ, zero, suc, ◌+◌, ◌-◌, ◌*◌, ◌/◌, ◌%◌, ◌^◌, ◌<◌, min, max}
use native.Mathlib.Nat.{mod-lt, pow-suc, mul-div_cancel}
use native.Mathlib.Omega.{arith}
use lib.Arith.{digits_mod}
use lib.Dec.{T, ltb, ltb→lt, eqb, lit<, eqb-zero-suc, eqb-suc-zero, eqb-suc-suc}
use lib.Pow.{shr-shr}
use lib.Bits.{bit_and, bit_or, bit_xor, differ, and_mask, and_step, or_step, xor_step, and_shr, or_shr, xor_shr}
use borrow.Author.Tests.{eq-eqb, ne_eqb}
use Rattle.base.specs.Bits.{bit}

-- `(n >> k) & 1 == 1` asks for digit k
pub bit_yes : (n k : ℕ) → bit_and (n / 2 ^ k) 1 ≡ 1 → bit n k ≡ true
unfolding bit
bit_yes n k h = eq-eqb (n / 2 ^ k % 2) 1 (sym (and_mask (n / 2 ^ k) 1) ∙ h)

pub bit_no : (n k : ℕ) → (bit_and (n / 2 ^ k) 1 ≡ 1 → ⊥) → bit n k ≡ false
unfolding bit
bit_no n k h = ne_eqb (n / 2 ^ k % 2) 1 (λ e. h (and_mask (n / 2 ^ k) 1 ∙ e))

two_pos : 0 < 2
two_pos = lit< tt

-- ---- an operation that works digit by digit, f on digits as numbers and g on digits as Bools
abbrev digit : Bool → ℕ
digit true = 1
digit false = 0

module _ (op f : ℕ → ℕ → ℕ) (g : Bool → Bool → Bool)
    (shr : (a b k : ℕ) → op a b / 2 ^ k ≡ op (a / 2 ^ k) (b / 2 ^ k))
    (step : (a b : ℕ) → op a b ≡ op (a / 2) (b / 2) * 2 + f (a % 2) (b % 2))
    (two : (p q : ℕ) → p < 2 → q < 2 → (f p q < 2) × (eqb (f p q) 1 ≡ g (eqb p 1) (eqb q 1))) where
  bit_op : (a b k : ℕ) → bit (op a b) k ≡ g (bit a k) (bit b k)
  unfolding bit
  bit_op a b k =
      let d = two (a / 2 ^ k % 2) (b / 2 ^ k % 2) (mod-lt (a / 2 ^ k) two_pos) (mod-lt (b / 2 ^ k) two_pos) in
      ap (λ (n : ℕ). eqb (n % 2) 1) (shr a b k ∙ step (a / 2 ^ k) (b / 2 ^ k))
      ∙ ap (λ (n : ℕ). eqb n 1) (digits_mod (op (a / 2 ^ k / 2) (b / 2 ^ k / 2)) d.0)
      ∙ d.1

-- what is computed at the four pairs of digits
module _ (f : ℕ → ℕ → ℕ) (g : Bool → Bool → Bool) (c : (p q : Bool) → T (ltb (f (digit p) (digit q)) 2) ×
    (eqb (f (digit p) (digit q)) 1 ≡ g p q)) where
  two_digits : (p q : ℕ) → p < 2 → q < 2 → (f p q < 2) × (eqb (f p q) 1 ≡ g (eqb p 1) (eqb q 1))
  two_digits zero zero h k = (ltb→lt (f 0 0) 2 (c false false).0, (c false false).1)
  two_digits zero (suc zero) h k = (ltb→lt (f 0 1) 2 (c false true).0, (c false true).1)
  two_digits zero (suc (suc q)) h k = absurd (omega arith)
  two_digits (suc zero) zero h k = (ltb→lt (f 1 0) 2 (c true false).0, (c true false).1)
  two_digits (suc zero) (suc zero) h k = (ltb→lt (f 1 1) 2 (c true true).0, (c true true).1)
  two_digits (suc zero) (suc (suc q)) h k = absurd (omega arith)
  two_digits (suc (suc p)) q h k = absurd (omega arith)

or_digits : (p q : Bool) → T (ltb (max (digit p) (digit q)) 2) × (eqb (max (digit p) (digit q)) 1 ≡ p || q)
or_digits true true = (tt, refl)
or_digits true false = (tt, refl)
or_digits false true = (tt, refl)
or_digits false false = (tt, refl)

pub bit-bit_or : (a b k : ℕ) → bit (bit_or a b) k ≡ (bit a k || bit b k)
bit-bit_or = bit_op bit_or max ◌||◌ or_shr or_step (two_digits max ◌||◌ or_digits)

and_digits : (p q : Bool) → T (ltb (min (digit p) (digit q)) 2) × (eqb (min (digit p) (digit q)) 1 ≡ p && q)
and_digits true true = (tt, refl)
and_digits true false = (tt, refl)
and_digits false true = (tt, refl)
and_digits false false = (tt, refl)

pub bit-bit_and : (a b k : ℕ) → bit (bit_and a b) k ≡ (bit a k && bit b k)
bit-bit_and = bit_op bit_and min ◌&&◌ and_shr and_step (two_digits min ◌&&◌ and_digits)

abbrev pub xor : Bool → Bool → Bool
xor true true = false
xor true false = true
xor false true = true
xor false false = false

xor_digits : (p q : Bool) → T (ltb (differ (digit p) (digit q)) 2) × (eqb (differ (digit p) (digit q)) 1 ≡ xor p q)
xor_digits true true = (tt, refl)
xor_digits true false = (tt, refl)
xor_digits false true = (tt, refl)
xor_digits false false = (tt, refl)

pub bit-bit_xor : (a b k : ℕ) → bit (bit_xor a b) k ≡ xor (bit a k) (bit b k)
bit-bit_xor = bit_op bit_xor differ xor xor_shr xor_step (two_digits differ xor xor_digits)

-- one more digit
pub bit_suc : (n k : ℕ) → bit n (suc k) ≡ bit (n / 2) k
unfolding bit
bit_suc n k = ap (λ (m : ℕ). eqb (m % 2) 1) (ap (λ (e : ℕ). n / 2 ^ e) (omega arith) ∙ sym (shr-shr n 1 k))

pub bit_nought : (k : ℕ) → bit 0 k ≡ false
unfolding bit
bit_nought zero = refl
bit_nought (suc k) = bit_suc 0 k ∙ bit_nought k

pow_half : (k : ℕ) → 2 ^ suc k / 2 ≡ 2 ^ k
pow_half k = ap (λ (n : ℕ). n / 2) (pow-suc 2 k) ∙ mul-div_cancel (2 ^ k) two_pos

-- 2 ^ k has digit k and no other
pub bit_pow : (k j : ℕ) → bit (2 ^ k) j ≡ eqb j k
unfolding bit
bit_pow zero zero = refl
bit_pow zero (suc j) = bit_suc 1 j ∙ bit_nought j ∙ sym (eqb-suc-zero j)
bit_pow (suc k) zero =
    ap (λ (n : ℕ). eqb (n / 1 % 2) 1) (pow-suc 2 k) ∙ ne_eqb (2 ^ k * 2 / 1 % 2) 1 (λ e. omega arith) ∙ sym (eqb-zero-suc k)
bit_pow (suc k) (suc j) = bit_suc (2 ^ suc k) j ∙ ap (λ (n : ℕ). bit n j) (pow_half k) ∙ bit_pow k j ∙ sym (eqb-suc-suc j k)

-- `n >> s` moves the digits down
pub bit_shr : (n s k : ℕ) → bit (n / 2 ^ s) k ≡ bit n (s + k)
unfolding bit
bit_shr n s k = ap (λ (m : ℕ). eqb (m % 2) 1) (shr-shr n s k)

-- `!n` at w digits turns each of them
pub bit_low : (n : ℕ) → bit n 0 ≡ eqb (n % 2) 1
unfolding bit
bit_low n = let e : n / 1 ≡ n = omega arith in ap (λ (m : ℕ). eqb (m % 2) 1) e

turned : (p q : ℕ) → p < 2 → q < 2 → p + q ≡ 1 → eqb p 1 ≡ not (eqb q 1)
turned zero zero h k e = absurd (omega arith)
turned zero (suc zero) h k e = refl
turned zero (suc (suc q)) h k e = absurd (omega arith)
turned (suc zero) zero h k e = refl
turned (suc zero) (suc q) h k e = absurd (omega arith)
turned (suc (suc p)) q h k e = absurd (omega arith)

pub bit_not : (w n k : ℕ) → n < 2 ^ w → k < w → bit (2 ^ w - 1 - n) k ≡ not (bit n k)
bit_not zero n k h l = absurd (omega arith)
bit_not (suc w) n zero h l =
    let e = pow-suc 2 w in
    bit_low (2 ^ suc w - 1 - n) ∙ turned ((2 ^ suc w - 1 - n) % 2) (n % 2) (mod-lt (2 ^ suc w - 1 - n) two_pos) (mod-lt n two_pos)
    (omega arith) ∙ ap not (sym (bit_low n))
bit_not (suc w) n (suc k) h l =
    let e = pow-suc 2 w in
    let half : (2 ^ suc w - 1 - n) / 2 ≡ 2 ^ w - 1 - n / 2 = omega arith in
    bit_suc (2 ^ suc w - 1 - n) k ∙ ap (λ (m : ℕ). bit m k) half ∙ bit_not w (n / 2) k (omega arith) (omega arith)
    ∙ ap not (sym (bit_suc n k))
