-- A minus before the digits, or none; and whether they are a number.
use mathlib.Core.Path.{◌∙◌}
use Rattle.std.specs.Prelude.{None}
use Rattle.decimals.specs.Numbers.{positive_of, negative_of}
use Rattle.decimals.proofs.NumbersDigits.{signed_minus, signed_plus}
use Rattle.decimals.proofs.number.read_signed.Goals as goal

pub returns-in_err-read_number-in-Some : goal.returns-in_err-read_number-in-Some
unfolding negative_of
returns-in_err-read_number-in-Some c =
    let m = c.in-Some.ensures.cases in
    c.from_residual.ensures ∙ signed_minus c.args.text.now _ None m.0 m.1 c.in_err-read_number-in-Some.ensures

pub returns-in_err-read_number-in-None : goal.returns-in_err-read_number-in-None
unfolding positive_of
returns-in_err-read_number-in-None c =
    c.from_residual-in_err-read_number-in-None.ensures
    ∙ signed_plus c.args.text.now None c.in-None.ensures.cases c.in_err-read_number-in-None.ensures

pub returns-in_ok-read_number-in-Some : goal.returns-in_ok-read_number-in-Some
returns-in_ok-read_number-in-Some c =
    let m = c.in-Some.ensures.cases in
    c.with_sign.ensures ∙ signed_minus c.args.text.now _ _ m.0 m.1 c.in_ok-read_number-in-Some.ensures

pub returns-in_ok-read_number-in-None : goal.returns-in_ok-read_number-in-None
returns-in_ok-read_number-in-None c =
    c.with_sign-in-None.ensures
    ∙ signed_plus c.args.text.now _ c.in-None.ensures.cases c.in_ok-read_number-in-None.ensures
