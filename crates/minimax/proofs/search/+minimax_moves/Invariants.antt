-- A search over the moves comes between a position and the positions below it; each turn over the moves is one of the definition's.
use Prim.Native.Nat.{◌+◌, ◌*◌}
use lib.ListN.{length}
use Rattle.order.specs.Order.{order_left}
use Rattle.minimax.proofs.StateMoves.{stand, Turn}
use Rattle.minimax.proofs.search.+minimax_moves.Given as goal

abbrev pub decreases-minimax : goal.decreases-minimax
decreases-minimax l = 2 * l.a.depth + 1

abbrev pub decreases-moves : goal.decreases-moves
decreases-moves l = 2 * l.a.depth

abbrev pub invariant-moves-loop-child : goal.invariant-moves-loop-child
invariant-moves-loop-child l =
    Turn l.a (stand l.initial.words l.initial.order l.initial.state l.initial.alpha l.initial.pv l.initial.local)
    (stand l.words l.order l.state l.alpha l.pv l.local)

abbrev pub decreases-moves-loop-child : goal.decreases-moves-loop-child
decreases-moves-loop-child l = length (order_left l.a.game l.order)
