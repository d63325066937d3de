-- The three ways: no such integer, a minus, none.
use Rattle.decimals.proofs.NumbersDigits.{no_whole, plus_is, minus_is}
use Rattle.decimals.proofs.number.with_sign.Goals as goal

pub returns-in_default : goal.returns-in_default
returns-in_default c = no_whole c.args.size c.args.negative c.in_default.ensures

pub returns-then-negative : goal.returns-then-negative
returns-then-negative c = let h = c.in-Ok.ensures in rw c.if-negative.true (minus_is c.args.size c.in-Ok.whole h.0 h.1)

pub returns : goal.returns
returns c = let h = c.in-Ok.ensures in rw c.if-negative.false (plus_is c.args.size c.in-Ok.whole h.0 h.1)
