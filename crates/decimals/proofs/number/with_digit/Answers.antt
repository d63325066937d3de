-- The two checked steps fail where the number is 2^64 or more.
use mathlib.Core.Path.{sym}
use native.Mathlib.Omega.{arith}
use Rattle.decimals.proofs.NumbersDigits.{digit_is, no_digit}
use Rattle.decimals.proofs.number.with_digit.Goals as goal

pub returns-then-not-is_ascii_digit : goal.returns-then-not-is_ascii_digit
returns-then-not-is_ascii_digit c = no_digit c.args.value c.args.b (sym c.if-not-is_ascii_digit.ensures.value)

pub returns-in_err-checked_mul : goal.returns-in_err-checked_mul
returns-in_err-checked_mul c =
    let over = c.in_err-checked_mul.ensures in
    rw c.from_residual.ensures (digit_is c.args.value c.args.b (sym c.if-not-is_ascii_digit.ensures.value) _ (λ h. over (omega arith)))

pub returns : goal.returns
returns c =
    let ten = c.in_ok-checked_mul.ensures in
    digit_is c.args.value c.args.b (sym c.if-not-is_ascii_digit.ensures.value) _ (rw (ten.1, c.from.ensures) at c.checked_add.ensures)
