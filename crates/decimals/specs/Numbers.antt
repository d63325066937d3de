-- Decimal numbers, read from the left.
use Rattle.std.specs.Prelude.{Bool, ◌&&◌, List, [], ◌∷◌, ℕ, ◌+◌, ◌-◌, ◌*◌, ◌^◌, eqb, leb, ltb, ℤ, pos, neg_ℤ}
use Rattle.std.specs.Prelude.{Option, Some, None, option_and_then}
use Rattle.std.specs.Char.{is_ascii_digit}
use Rattle.base.specs.Branch.{when◌then◌else◌}

abbrev pub between : ℕ → ℕ → ℕ → Bool
between b low high = leb low b && leb b high

-- a digit more; none if the byte is no digit, or if the number is 2^64 or more
unfoldable pub with_digit : ℕ → ℕ → Option ℕ
with_digit value b =
    when is_ascii_digit b && ltb (value * 10 + (b - 0x30)) (2 ^ 64) then (λ _. Some (value * 10 + (b - 0x30))) else λ _. None

unfoldable pub digits_after : ℕ → List ℕ → Option ℕ
digits_after value [] = Some value
digits_after value (b ∷ bs) = option_and_then (λ more. digits_after more bs) (with_digit value b)

unfoldable pub read_number : List ℕ → Option ℕ
read_number [] = None
read_number (b ∷ bs) = digits_after 0 (b ∷ bs)

unfoldable pub positive_of : Option ℕ → Option ℤ
positive_of (Some n) = when ltb n (2 ^ 63) then (λ _. Some (pos n)) else λ _. None
positive_of None = None

unfoldable pub negative_of : Option ℕ → Option ℤ
negative_of (Some n) = when ltb n (2 ^ 63) then (λ _. Some (neg_ℤ (pos n))) else λ _. None
negative_of None = None

unfoldable pub read_signed : List ℕ → Option ℤ
read_signed [] = None
read_signed (b ∷ bs) = when eqb b 0x2d then (λ _. negative_of (read_number bs)) else λ _. positive_of (read_number (b ∷ bs))
