use lib.ListN.{length}
use Rattle.order.specs.Order.{all_left}
use Rattle.order.proofs.OrderSteps.{SameStep}
use Rattle.order.proofs.MoveOrder.next.Given as goal

abbrev pub invariant-loop-m : goal.invariant-loop-m
invariant-loop-m l = SameStep l.game l.self l.initial.self

abbrev pub decreases-loop-m : goal.decreases-loop-m
decreases-loop-m l = length (all_left l.self.left)
