use Prim.Native.Nat.{◌-◌}
use Rattle.minimax.proofs.ReportDeepening.{Going}
use Rattle.minimax.proofs.Minimax.deepen.Given as goal

abbrev pub invariant-loop-completed : goal.invariant-loop-completed
invariant-loop-completed l = Going l.game l.config l.initial.words l.initial.completed l.initial.state l.words l.completed l.state

abbrev pub decreases-loop-completed : goal.decreases-loop-completed
decreases-loop-completed l = l.config.max_depth - l.completed.depth
