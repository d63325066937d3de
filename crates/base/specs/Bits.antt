-- The binary digits of a number.
use Rattle.std.specs.Prelude.{Bool, cond, ℕ, zero, suc, ◌+◌, ◌/◌, ◌%◌, ◌^◌, eqb}

-- digit k of n
unfoldable pub bit : ℕ → ℕ → Bool
bit n k = eqb (n / 2 ^ k % 2) 1

-- the number whose w digits are f at 0 to w - 1
unfoldable pub digits : (ℕ → Bool) → ℕ → ℕ
digits f zero = 0
digits f (suc w) = digits f w + cond (f w) (2 ^ w) 0
