-- The digits that are left make of the number so far what the text is read as.
use mathlib.Core.Path.{sym, ◌∙◌}
use borrow.Author.Tests.{eqb-true, eqb-false}
use native.Mathlib.Omega.{arith}
use Rattle.decimals.proofs.NumbersDigits.{no_digits, some_digits, digits_next, digits_stop, digits_end}
use Rattle.decimals.proofs.number.read_number.Goals as goal

pub returns-then-is_empty : goal.returns-then-is_empty
returns-then-is_empty c = no_digits c.args.text.now (eqb-true _ 0 (sym c.if-is_empty.ensures))

pub loop-b-init : goal.loop-b-init
loop-b-init c = some_digits c.args.text.now (omega (arith, eqb-false _ 0 (sym c.if-is_empty.ensures)))

pub returns-in_err-value : goal.returns-in_err-value
returns-in_err-value c =
    let l = c.loop-b in
    rw c.from_residual.ensures
    (sym (digits_stop c.args.text.now l.value l.b-index c.loop-b-test.true c.in_err-value.ensures) ∙ l.invariant)

pub loop-b-preserved : goal.loop-b-preserved
loop-b-preserved c =
    let l = c.loop-b in
    sym (digits_next c.args.text.now l.value l.b-index _ c.loop-b-test.true c.in_ok-value.ensures) ∙ l.invariant

pub returns : goal.returns
returns c =
    let l = c.loop-b in sym (digits_end c.args.text.now l.value l.b-index c.loop-b-test.false) ∙ l.invariant
