-- The fewest digits that hold a number are the digits with no zero in front.
use mathlib.Core.Path.{◌≡◌, sym, ap, ap₂, ◌∙◌, subst}
use mathlib.Core.List.{List, [], ◌∷◌, ◌++◌}
use Prim.Native.Nat.{ℕ, zero, suc, ◌+◌, ◌-◌, ◌/◌, ◌%◌, ◌^◌, ◌≤◌, ◌<◌}
use native.Mathlib.Nat.{pow-suc}
use native.Mathlib.Omega.{arith}
use borrow.Author.Tests.{lt-ltb, le-ltb}
use Rattle.io.specs.Digits.{hex_digit_ascii, last_digits, IsDigitCount}
use Rattle.base.specs.Branch.{when◌then◌else◌}
use Rattle.text.specs.ProgramLine.{in_places, decimal}

glyph_of : (d : ℕ) → d < 10 → hex_digit_ascii d ≡ 48 + d
glyph_of d h = rw (lt-ltb d 10 h)

above : (j : ℕ) → j < 10 ^ j
above zero = omega arith
above (suc j) = let p = pow-suc 10 j in let r = above j in omega arith

module _ (f n : ℕ) where
  one_place : n < 10 → in_places (suc f) n ≡ (48 + n) ∷ []
  unfolding in_places when◌then◌else◌
  one_place h = rw (lt-ltb n 10 h)

  more_places : 10 ≤ n → in_places (suc f) n ≡ in_places f (n / 10) ++ ((48 + n % 10) ∷ [])
  unfolding in_places when◌then◌else◌
  more_places h = rw (le-ltb n 10 h)

less_one : (k : ℕ) → k ≡ suc k - 1
less_one k = omega arith

at_least : (k n : ℕ) → IsDigitCount 10 1 n (suc k) → 1 < suc k → 10 ^ k ≤ n
at_least k n h l = subst (λ (m : ℕ). 10 ^ m ≤ n) (sym (less_one k)) (h.2 l)

digits_in_places : (k f n : ℕ) → IsDigitCount 10 1 n k → k ≤ f → last_digits 10 k n ≡ in_places f n
digits_in_places zero f n h l = absurd (omega arith)
digits_in_places (suc k) zero n h l = absurd (omega arith)
digits_in_places (suc zero) (suc f) n h l =
    let s : n < 10 = omega (arith, h.1) in
    let e : n % 10 ≡ n = omega arith in
    ap (λ (d : ℕ). d ∷ []) (glyph_of (n % 10) (omega arith) ∙ ap (λ (d : ℕ). 48 + d) e) ∙ sym (one_place f n s)
digits_in_places (suc (suc k)) (suc f) n h l =
    let p = pow-suc 10 (suc k) in
    let q = pow-suc 10 k in
    let a = above k in
    let low : 10 ^ suc k ≤ n = at_least (suc k) n h (omega arith) in
    ap₂ (λ (ds : List ℕ) (d : ℕ). ds ++ (d ∷ [])) (digits_in_places (suc k) f (n / 10)
    (omega arith, omega (arith, h.1), λ _. subst (λ (m : ℕ). 10 ^ m ≤ n / 10) (less_one k) (omega arith)) (omega arith))
    (glyph_of (n % 10) (omega arith))
    ∙ sym (more_places f n (omega arith))

-- what `io::decimal` writes is the definition's text
pub decimal_digits : (n k : ℕ) → IsDigitCount 10 1 n k → last_digits 10 k n ≡ decimal n
unfolding decimal
decimal_digits n k h = digits_in_places k (suc n) n h (enough k h)
  where
    enough : (k : ℕ) → IsDigitCount 10 1 n k → k ≤ suc n
    enough zero h = omega arith
    enough (suc zero) h = omega arith
    enough (suc (suc j)) h = omega (arith, at_least (suc j) n h (omega arith), above (suc j))
