-- A number is read back from its text, and nothing else is read.
use mathlib.Core.Path.{◌≡◌, refl, sym, ap, ◌∙◌}
use mathlib.Core.Bool.{Bool, true, false}
use mathlib.Core.List.{List, [], ◌∷◌, ◌++◌, append_assoc, append-nil}
use mathlib.Core.Logic.{◌⊎◌, inl, inr}
use Prim.Native.Nat.{ℕ, zero, suc, ◌+◌, ◌-◌, ◌*◌, ◌/◌, ◌%◌, ◌^◌, ◌<◌, ◌≤◌}
use native.Mathlib.Omega.{arith}
use lib.Dec.{eqb, ltb, nltb→le, ltb→lt, eqb→eq}
use lib.IntN.{ℤ, pos, negsuc, nat_abs, neg_ℤ}
use lib.ListN.{length, length-append}
use lib.Seq.{append_snoc}
use borrow.Author.Tests.{le-leb, lt-ltb, le-ltb, ne_eqb}
use Rattle.std.specs.Char.{is_ascii_digit}
use Rattle.std.specs.Prelude.{Option, Some, None, option_and_then}
use Rattle.std.proofs.lemmas.Option.{none-some, same_Some}
use Rattle.base.specs.Branch.{when◌then◌else◌}
use Rattle.base.proofs.Branch.{if_ind, if_both}
use Rattle.text.specs.Bytes.{minus, first_digit}
use Rattle.text.specs.ProgramLine.{in_places, decimal, signed}
use Rattle.decimals.specs.Numbers.{with_digit, digits_after, read_number, positive_of, negative_of, read_signed}
use Rattle.decimals.proofs.NumbersDigits.{digit_bounds, digit_is, no_digit, some_digits}

-- ---- digits one after the other
digits_append : (value : ℕ) (xs ys : List ℕ) →
    digits_after value (xs ++ ys) ≡ option_and_then (λ more. digits_after more ys) (digits_after value xs)
unfolding digits_after
digits_append value [] ys = refl
digits_append value (b ∷ xs) ys = go (with_digit value b) (λ more. digits_append more xs ys)
  where
    go : (n : Option ℕ) →
        ((more : ℕ) → digits_after more (xs ++ ys) ≡ option_and_then (λ more. digits_after more ys) (digits_after more xs)) →
        option_and_then (λ more. digits_after more (xs ++ ys)) n
        ≡ option_and_then (λ more. digits_after more ys) (option_and_then (λ more. digits_after more xs) n)
    go (Some more) h = h more
    go None h = refl

one_digit : (value digit : ℕ) → digit < 10 → value * 10 + digit < 2 ^ 64 →
    with_digit value (first_digit + digit) ≡ Some (value * 10 + digit)
one_digit value digit h small =
    let low : is_ascii_digit (first_digit + digit) ≡ true =
    rw (le-leb 48 (first_digit + digit) (omega arith), le-leb (first_digit + digit) 57 (omega arith)) in
    let back : first_digit + digit - 48 ≡ digit = omega arith in
    sym (digit_is value (first_digit + digit) low (Some (value * 10 + digit)) (rw back (small, refl)))

last_digit : (value digit n : ℕ) → digit < 10 → n ≡ value * 10 + digit → n < 2 ^ 64 →
    digits_after value ((first_digit + digit) ∷ []) ≡ Some n
unfolding digits_after
last_digit value digit n h e small = rw (one_digit value digit h (omega arith), ← e)

-- ---- a number's text
in_places_read : (k n : ℕ) → n ≤ k → n < 2 ^ 64 → digits_after 0 (in_places (suc k) n) ≡ Some n
unfolding in_places
in_places_read zero n le small = if_ind (λ (t : List ℕ). digits_after 0 t ≡ Some n) (ltb n 10) _ _
    (λ _. last_digit 0 n n (omega arith) (omega arith) small) (λ t. absurd (omega (arith, nltb→le n 10 t)))
in_places_read (suc k) n le small = if_ind (λ (t : List ℕ). digits_after 0 t ≡ Some n) (ltb n 10) _ _
    (λ t. last_digit 0 n n (ltb→lt n 10 t) (omega arith) small)
    (λ t. let ten = nltb→le n 10 t in
    digits_append 0 (in_places (suc k) (n / 10)) ((first_digit + n % 10) ∷ [])
    ∙ rw (in_places_read k (n / 10) (omega arith) (omega arith))
    (last_digit (n / 10) (n % 10) n (omega arith) (omega arith) small))

in_places_some : (k n : ℕ) → 0 < length (in_places (suc k) n)
unfolding in_places
in_places_some k n = if_ind (λ (t : List ℕ). 0 < length t) (ltb n 10) _ _ (λ _. omega arith)
    (λ _. omega (arith, length-append (in_places k (n / 10)) ((first_digit + n % 10) ∷ [])))

pub number_reads_back : (n : ℕ) → n < 2 ^ 64 → read_number (decimal n) ≡ Some n
unfolding decimal
number_reads_back n small =
    let some = in_places_some n n in
    sym (some_digits (in_places (suc n) n) some) ∙ in_places_read n n (omega arith) small

-- ---- what is read is digits
pub digit_read : (value b more : ℕ) → with_digit value b ≡ Some more → (48 ≤ b) × (b ≤ 57)
digit_read value b more e = go (is_ascii_digit b) refl
  where
    go : (c : Bool) → is_ascii_digit b ≡ c → (48 ≤ b) × (b ≤ 57)
    go true h = digit_bounds b h
    go false h = absurd (none-some more (no_digit value b h ∙ e))

pub first_digit_read : (value b : ℕ) (bs : List ℕ) (n : ℕ) → digits_after value (b ∷ bs) ≡ Some n →
    (more : ℕ) × (with_digit value b ≡ Some more) × (digits_after more bs ≡ Some n)
unfolding digits_after
first_digit_read value b bs n e = go (with_digit value b) refl e
  where
    go : (d : Option ℕ) → with_digit value b ≡ d → option_and_then (λ more. digits_after more bs) d ≡ Some n →
        (more : ℕ) × (with_digit value b ≡ Some more) × (digits_after more bs ≡ Some n)
    go (Some more) h e = (more, h, e)
    go None h e = absurd (none-some n e)

-- ---- a sign
positive_reads : (text : List ℕ) (n : ℕ) → read_number text ≡ Some n → n < 2 ^ 63 → read_signed text ≡ Some (pos n)
unfolding read_number read_signed positive_of when◌then◌else◌
positive_reads [] n e small = absurd (none-some n e)
positive_reads (b ∷ bs) n e small =
    let d = first_digit_read 0 b bs n e in
    let low = (digit_read 0 b d.0 d.1).0 in
    rw (ne_eqb b 45 (λ h. omega arith), e, lt-ltb n (2 ^ 63) small)

minus_reads : (n : ℕ) → suc n < 2 ^ 63 → read_signed (minus ∷ decimal (suc n)) ≡ Some (negsuc n)
unfolding read_signed negative_of when◌then◌else◌
minus_reads n small = rw (number_reads_back (suc n) (omega arith), lt-ltb (suc n) (2 ^ 63) small)

pub signed_reads_back : (z : ℤ) → nat_abs z < 2 ^ 63 → read_signed (signed z) ≡ Some z
unfolding signed
signed_reads_back (pos n) small = positive_reads (decimal n) n (number_reads_back n (omega arith)) small
signed_reads_back (negsuc n) small = minus_reads n small

-- ---- what is read is the number's text after zeros
abbrev pub zeros : ℕ → List ℕ
zeros zero = []
zeros (suc k) = first_digit ∷ zeros k

abbrev pub AfterZeros : List ℕ → ℕ → Type 0
AfterZeros text n = (k : ℕ) × (text ≡ zeros k ++ decimal n)

digit_value : (value b more : ℕ) → with_digit value b ≡ Some more → more ≡ value * 10 + (b - 48)
unfolding with_digit
digit_value value b more e = if_ind (λ (d : Option ℕ). d ≡ Some more → more ≡ value * 10 + (b - 48)) _ _ _
    (λ _ h. sym (same_Some _ more h)) (λ _ h. absurd (none-some more h)) e

in_places_same : (f g n : ℕ) → n < f → n < g → in_places f n ≡ in_places g n
unfolding in_places
in_places_same zero g n h k = absurd (omega arith)
in_places_same (suc f) zero n h k = absurd (omega arith)
in_places_same (suc f) (suc g) n h k = if_both (λ (a b : List ℕ). a ≡ b) (ltb n 10) _ _ _ _ (λ _. refl)
    (λ t. let ten = nltb→le n 10 t in
    ap (λ (ds : List ℕ). ds ++ ((first_digit + n % 10) ∷ [])) (in_places_same f g (n / 10) (omega arith) (omega arith)))

short_decimal : (d : ℕ) → d < 10 → decimal d ≡ (first_digit + d) ∷ []
unfolding decimal in_places when◌then◌else◌
short_decimal d h = rw (lt-ltb d 10 h)

longer_decimal : (value d : ℕ) → 0 < value → d < 10 → decimal (value * 10 + d) ≡ decimal value ++ ((first_digit + d) ∷ [])
unfolding decimal in_places when◌then◌else◌
longer_decimal value d h k =
    let n = value * 10 + d in
    let a : n / 10 ≡ value = omega arith in
    let b : n % 10 ≡ d = omega arith in
    rw (le-ltb n 10 (omega arith), a, b)
    (ap (λ (ds : List ℕ). ds ++ ((first_digit + d) ∷ [])) (in_places_same n (suc value) value (omega arith) (omega arith)))

zeros_end : (k : ℕ) (text : List ℕ) → zeros k ++ (first_digit ∷ text) ≡ first_digit ∷ (zeros k ++ text)
zeros_end zero text = refl
zeros_end (suc k) text = ap (◌∷◌ first_digit) (zeros_end k text)

one_more_digit : (text : List ℕ) (value d : ℕ) → d < 10 → AfterZeros text value →
    AfterZeros (text ++ ((first_digit + d) ∷ [])) (value * 10 + d)
one_more_digit text zero d h (k, e) =
    let z : 0 * 10 + d ≡ d = omega arith in (
      suc k,
      rw (e, z, short_decimal d h, short_decimal 0 (omega arith), append_assoc (zeros k) (first_digit ∷ []) ((first_digit + d) ∷ []))
          (zeros_end k ((first_digit + d) ∷ [])),
    )
one_more_digit text (suc v) d h (k, e) =
    (k, rw (e, longer_decimal (suc v) d (omega arith) h) (append_assoc (zeros k) (decimal (suc v)) ((first_digit + d) ∷ [])))

digits_are : (text rest : List ℕ) (value n : ℕ) → AfterZeros text value → digits_after value rest ≡ Some n →
    AfterZeros (text ++ rest) n
unfolding digits_after
digits_are text [] value n z e = rw (append-nil text, ← same_Some value n e) z
digits_are text (b ∷ bs) value n z e =
    let f = first_digit_read value b bs n e in
    let d = digit_read value b f.0 f.1 in
    let m : f.0 ≡ value * 10 + (b - 48) = digit_value value b f.0 f.1 in
    let same : first_digit + (b - 48) ≡ b = omega arith in
    let next : AfterZeros (text ++ (b ∷ [])) f.0 = rw m (rw same at (one_more_digit text value (b - 48) (omega arith) z)) in
    rw (← append_snoc text b bs) (digits_are (text ++ (b ∷ [])) bs f.0 n next f.2)

pub read_is_decimal : (text : List ℕ) (n : ℕ) → read_number text ≡ Some n → AfterZeros text n
unfolding read_number
read_is_decimal [] n e = absurd (none-some n e)
read_is_decimal (b ∷ bs) n e =
    let f = first_digit_read 0 b bs n e in
    let d = digit_read 0 b f.0 f.1 in
    let m : f.0 ≡ b - 48 = digit_value 0 b f.0 f.1 ∙ omega arith in
    let same : first_digit + (b - 48) ≡ b = omega arith in
    digits_are (b ∷ []) bs f.0 n (0, rw (m, short_decimal (b - 48) (omega arith), same)) f.2

-- ---- what is read as an integer is its text after zeros, after a minus if it is negative; zero may have a minus too
abbrev pub MinusAfterZeros : List ℕ → ℕ → Type 0
MinusAfterZeros text n = (k : ℕ) × (text ≡ minus ∷ (zeros k ++ decimal n))

abbrev pub SignedAfterZeros : List ℕ → ℤ → Type 0
SignedAfterZeros text (pos zero) = AfterZeros text 0 ⊎ MinusAfterZeros text 0
SignedAfterZeros text (pos (suc n)) = AfterZeros text (suc n)
SignedAfterZeros text (negsuc n) = MinusAfterZeros text (suc n)

small_read : (f : ℕ → ℤ) (n : ℕ) (z : ℤ) → (when ltb n (2 ^ 63) then (λ _. Some (f n)) else λ _. None) ≡ Some z →
    (n < 2 ^ 63) × (f n ≡ z)
small_read f n z e = if_ind (λ (s : Option ℤ). s ≡ Some z → (n < 2 ^ 63) × (f n ≡ z)) (ltb n (2 ^ 63)) _ _
    (λ t h. (ltb→lt n (2 ^ 63) t, same_Some (f n) z h)) (λ _ h. absurd (none-some z h)) e

positive_read : (d : Option ℕ) (z : ℤ) → positive_of d ≡ Some z → (n : ℕ) × (d ≡ Some n) × (n < 2 ^ 63) × (pos n ≡ z)
unfolding positive_of
positive_read (Some n) z e = let s = small_read pos n z e in (n, refl, s.0, s.1)
positive_read None z e = absurd (none-some z e)

negative_read : (d : Option ℕ) (z : ℤ) → negative_of d ≡ Some z → (n : ℕ) × (d ≡ Some n) × (n < 2 ^ 63) × (neg_ℤ (pos n) ≡ z)
unfolding negative_of
negative_read (Some n) z e = let s = small_read (λ m. neg_ℤ (pos m)) n z e in (n, refl, s.0, s.1)
negative_read None z e = absurd (none-some z e)

positive_text : (text : List ℕ) (n : ℕ) → AfterZeros text n → SignedAfterZeros text (pos n)
positive_text text zero h = inl h
positive_text text (suc n) h = h

minus_before : (b : ℕ) (bs : List ℕ) (n : ℕ) → b ≡ minus → AfterZeros bs n → MinusAfterZeros (b ∷ bs) n
minus_before b bs n q (k, e) = (k, rw (q, e))

minus_text : (text : List ℕ) (n : ℕ) → MinusAfterZeros text n → SignedAfterZeros text (neg_ℤ (pos n))
minus_text text zero h = inr h
minus_text text (suc n) h = h

minus_size : (n : ℕ) → nat_abs (neg_ℤ (pos n)) ≡ n
minus_size zero = refl
minus_size (suc n) = refl

-- a text that is read as an integer is such a text, and the integer is below 2^63 in size
pub signed_is_decimal : (text : List ℕ) (z : ℤ) → read_signed text ≡ Some z → SignedAfterZeros text z × (nat_abs z < 2 ^ 63)
unfolding read_signed
signed_is_decimal [] z e = absurd (none-some z e)
signed_is_decimal (b ∷ bs) z e =
    if_ind (λ (s : Option ℤ). s ≡ Some z → SignedAfterZeros (b ∷ bs) z × (nat_abs z < 2 ^ 63)) (eqb b minus) _ _
    (λ t h.
    let r = negative_read (read_number bs) z h in
    let text = minus_before b bs r.0 (eqb→eq b minus t) (read_is_decimal bs r.0 r.1) in
    rw (← r.3) (minus_text (b ∷ bs) r.0 text, rw (minus_size r.0) r.2))
    (λ _ h.
    let r = positive_read (read_number (b ∷ bs)) z h in
    rw (← r.3) (positive_text (b ∷ bs) r.0 (read_is_decimal (b ∷ bs) r.0 r.1), r.2))
    e
