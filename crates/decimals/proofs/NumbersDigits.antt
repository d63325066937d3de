-- Numbers, a digit at a time.
use mathlib.Core.Path.{◌≡◌, refl, sym, ◌∙◌}
use mathlib.Core.Bool.{Bool, true, false, cond, and-eq-true_iff, and-true, true≢false}
use mathlib.Core.List.{List, [], ◌∷◌}
use Prim.Native.Nat.{ℕ, ◌+◌, ◌-◌, ◌*◌, ◌^◌, ◌<◌, ◌≤◌}
use native.Mathlib.Numerals.{add-one}
use native.Mathlib.Omega.{arith}
use lib.Dec.{eqb, leb}
use lib.IntN.{ℤ, pos, ◌-ℤ◌}
use lib.ListN.{length, get_or, take, drop, drop_of_length-le}
use lib.Pointwise.{pointwise}
use lib.Seq.{drop-cons}
use mir.Syntax.{w64}
use mir.Val.{SFits}
use borrow.Author.Tests.{leb-true, lt-ltb, le-ltb}
use Rattle.std.specs.Char.{is_ascii_digit}
use Rattle.std.specs.Prelude.{Option, Some, None}
use Rattle.std.specs.Option.{SomeIff}
use Rattle.base.proofs.Signed.{reads, back, zero_sub, minus_fits}
use Rattle.base.specs.Branch.{when◌then◌else◌}
use Rattle.decimals.specs.Numbers.{between, with_digit, digits_after, read_number, positive_of, negative_of, read_signed}

-- ---- a byte within two others
pub within_bounds : (b low high : ℕ) → between b low high ≡ true → (low ≤ b) × (b ≤ high)
within_bounds b low high e = let p = (and-eq-true_iff (leb low b) (leb b high)).0 e in (leb-true low b p.0, leb-true b high p.1)

-- ---- a digit more
pub digit_bounds : (b : ℕ) → is_ascii_digit b ≡ true → (48 ≤ b) × (b ≤ 57)
digit_bounds b e = within_bounds b 48 57 e

module _ (value b : ℕ) where
  pub digit_is : is_ascii_digit b ≡ true → (o : Option ℕ) →
      SomeIff o (value * 10 + (b - 48) < 2 ^ 64) (value * 10 + (b - 48)) → o ≡ with_digit value b
  unfolding with_digit when◌then◌else◌
  digit_is d (Some n) h = rw (d, lt-ltb (value * 10 + (b - 48)) (2 ^ 64) h.0, h.1)
  digit_is d None h = rw (d, le-ltb (value * 10 + (b - 48)) (2 ^ 64) (omega arith))

  pub no_digit : is_ascii_digit b ≡ false → None ≡ with_digit value b
  unfolding with_digit when◌then◌else◌
  no_digit d = rw d

-- ---- a text
pub some_digits : (text : List ℕ) → 0 < length text → digits_after 0 text ≡ read_number text
unfolding read_number
some_digits [] h = absurd (omega arith)
some_digits (b ∷ bs) h = refl

pub no_digits : (text : List ℕ) → length text ≡ 0 → None ≡ read_number text
unfolding read_number
no_digits [] h = refl
no_digits (b ∷ bs) h = absurd (omega arith)

module _ (text : List ℕ) (value i : ℕ) where
  next_byte : i < length text → drop i text ≡ get_or text i 0 ∷ drop (i + 1) text
  next_byte h = drop-cons text i 0 h ∙ rw (add-one i)

  pub digits_next : (more : ℕ) → i < length text → Some more ≡ with_digit value (get_or text i 0) →
      digits_after value (drop i text) ≡ digits_after more (drop (i + 1) text)
  unfolding digits_after
  digits_next more h e = rw (next_byte h, ← e)

  pub digits_stop : i < length text → None ≡ with_digit value (get_or text i 0) → digits_after value (drop i text) ≡ None
  unfolding digits_after
  digits_stop h e = rw (next_byte h, ← e)

  pub digits_end : length text ≤ i → digits_after value (drop i text) ≡ Some value
  unfolding digits_after
  digits_end h = rw (drop_of_length-le text h)

-- ---- a sign
module _ (n : ℕ) where
  over : ¬ SFits w64 (pos n) → 2 ^ 63 ≤ n
  over h = omega (arith, λ (s : n < 2 ^ 63). h (record { sfits = s }))

  pub no_whole : (negative : Bool) → ¬ SFits w64 (pos n) → None ≡ cond negative (negative_of (Some n)) (positive_of (Some n))
  unfolding positive_of negative_of when◌then◌else◌
  no_whole true h = rw (le-ltb n (2 ^ 63) (over h))
  no_whole false h = rw (le-ltb n (2 ^ 63) (over h))

  module _ (z : ℤ) (f : SFits w64 (pos n)) (e : z ≡ pos n) where
    pub plus_is : Some (reads z) ≡ positive_of (Some n)
    unfolding positive_of when◌then◌else◌
    plus_is = rw (e, back (pos n) f, lt-ltb n (2 ^ 63) f.sfits)

    pub minus_is : Some (reads (pos 0 -ℤ reads z)) ≡ negative_of (Some n)
    unfolding negative_of when◌then◌else◌
    minus_is = rw (e, back (pos n) f, back _ (minus_fits n f.sfits), zero_sub, lt-ltb n (2 ^ 63) f.sfits)

-- a minus before the digits, or none
abbrev Minus : List ℕ → Bool → Type 0
Minus text negative = pointwise eqb (take 1 text) (45 ∷ []) ≡ negative

pub signed_minus : (text digits : List ℕ) (n : Option ℕ) → Minus text true → digits ≡ drop 1 text → n ≡ read_number digits →
    negative_of n ≡ read_signed text
unfolding read_signed when◌then◌else◌
signed_minus [] digits n m d e = absurd (true≢false (sym m))
signed_minus (b ∷ bs) digits n m d e = rw (sym (and-true (eqb b 45)) ∙ m, e, d)

pub signed_plus : (text : List ℕ) (n : Option ℕ) → Minus text false → n ≡ read_number text → positive_of n ≡ read_signed text
unfolding read_number read_signed positive_of when◌then◌else◌
signed_plus [] n m e = rw e
signed_plus (b ∷ bs) n m e = rw (sym (and-true (eqb b 45)) ∙ m, e)
