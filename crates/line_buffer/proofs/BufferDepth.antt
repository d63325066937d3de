-- One digit, and two by what each says; and what the tests of digits bound.
use mathlib.Core.Path.{◌≡◌, refl, sym, ◌∙◌}
use mathlib.Core.Bool.{Bool, true, false, not, ◌&&◌, and-eq-true_iff}
use mathlib.Core.List.{[], ◌∷◌}
use Prim.Native.Nat.{ℕ, ◌+◌, ◌-◌, ◌*◌, ◌≤◌}
use native.Mathlib.Omega.{arith}
use lib.Dec.{leb}
use mir.Syntax.{w8}
use mir.Val.{Fits}
use borrow.Author.Tests.{leb-true, not-false}
use Rattle.std.specs.Prelude.{Option, Some, None}
use Rattle.base.specs.Branch.{when◌then◌else◌}
use Rattle.text.specs.ProgramLine.{is_digit, depth_of}

-- a test that was passed bounds its byte
pub digit_bounds : (a : ℕ) (r : Bool) → r ≡ is_digit a → r ≡ true → (48 ≤ a) × (a ≤ 57)
digit_bounds a r e t = let d = (and-eq-true_iff (leb 48 a) (leb a 57)).0 (sym e ∙ t) in (leb-true 48 a d.0, leb-true a 57 d.1)

-- so two digits make a byte
pub tens_fit : (a : ℕ) (r : Bool) → r ≡ is_digit a → not r ≡ false → Fits w8 (10 * (a - 48))
tens_fit a r e t = let d = digit_bounds a r e (not-false r t) in record { fits = omega arith }

pub sum_fits : (a b : ℕ) (r q : Bool) → r ≡ is_digit a → not r ≡ false → q ≡ is_digit b → q ≡ true →
    Fits w8 (10 * (a - 48) + (b - 48))
sum_fits a b r q e t f u = let d = digit_bounds a r e (not-false r t) in let g = digit_bounds b q f u in record { fits = omega arith }

-- ---- what digits say
pub digit_says : (b : ℕ) → is_digit b ≡ true → depth_of (b ∷ []) ≡ Some (b - 48)
unfolding depth_of when◌then◌else◌
digit_says b e = rw e

pub no_digit : (b : ℕ) → is_digit b ≡ false → depth_of (b ∷ []) ≡ None
unfolding depth_of when◌then◌else◌
no_digit b e = rw e

abbrev pub tens : Option ℕ → Option ℕ → Option ℕ
tens None d = None
tens (Some m) None = None
tens (Some m) (Some n) = Some (10 * m + n)

-- of two bytes, by what each says
pub two_digits : (a b : ℕ) → depth_of (a ∷ b ∷ []) ≡ tens (depth_of (a ∷ [])) (depth_of (b ∷ []))
unfolding depth_of when◌then◌else◌
two_digits a b = go (is_digit a) (is_digit b)
  where
    said : Bool → ℕ → Option ℕ
    said c n = when c then (λ _. Some (n - 48)) else λ _. None

    go : (c d : Bool) → (when c && d then (λ _. Some (10 * (a - 48) + (b - 48))) else λ _. None) ≡ tens (said c a) (said d b)
    go true true = refl
    go true false = refl
    go false true = refl
    go false false = refl
