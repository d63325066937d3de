-- Each turn meets the next move in the order: the step from the moves not met and the marks stays as it was at the start, and so does
-- the order that it leaves.
use mathlib.Core.Path.{◌≡◌, refl}
use Prim.Native.Nat.{◌/◌, ◌<◌}
use native.Mathlib.Omega.{arith}
use lib.ListN.{length}
use Rattle.order.proofs.OrderSteps.{shorter, repeated, refused, accepted, ended}
use Rattle.order.proofs.MoveOrder.next.Goals as goal
use Rattle.order.proofs.MoveOrder.next.Goals.{After-with-self}

pub loop-m-init : goal.loop-m-init
loop-m-init c = record { step_is = refl; order_is = refl }

pub loop-m-smaller-then-has : goal.loop-m-smaller-then-has
loop-m-smaller-then-has c = let e = c.in-Some.ensures in shorter _ _ _ e.0

pub loop-m-preserved-then-has : goal.loop-m-preserved-then-has
loop-m-preserved-then-has c = repeated _ _ _ _ _ c.in-Some.ensures _ c.loop-m.invariant _ c.has.ensures c.if-has.true

-- a byte has its mark among the 256
fits : (c : After-with-self) → c.in-Some.m.bits / 64 < length c.with-self.result.marks
fits c = let n : length c.with-self.result.marks ≡ 4 = omega arith in omega arith

pub returns-in-Ok : goal.returns-in-Ok
returns-in-Ok c =
    accepted _ _ _ _ _ c.in-Some.ensures _ c.loop-m.invariant _ c.has.ensures c.if-has.false _ c.with-self.ensures
    (fits (goal.at.returns-in-Ok c).After-with-self) _ c.in-Ok.ensures

pub loop-m-smaller : goal.loop-m-smaller
loop-m-smaller c = let e = c.in-Some.ensures in shorter _ _ _ e.0

pub loop-m-preserved : goal.loop-m-preserved
loop-m-preserved c =
    refused _ _ _ _ _ c.in-Some.ensures _ c.loop-m.invariant _ c.has.ensures c.if-has.false _ c.with-self.ensures
    (fits (goal.at.loop-m-preserved c).After-with-self) _ c.in_default-make_move.ensures

pub returns : goal.returns
returns c = ended _ c.loop-m.self.left _ _ _ c.in_default.ensures c.loop-m.invariant
