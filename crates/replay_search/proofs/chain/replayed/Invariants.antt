use mathlib.Core.Path.{◌≡◌}
use Prim.Native.Nat.{◌-◌}
use Rattle.minimax.specs.Report.{responses_of}
use Rattle.replay.specs.declared.totals.Comparison.TheVariants.{Agrees}
use Rattle.replay_search.specs.Chains.{chain_of}
use Rattle.replay_search.proofs.chain.replayed.Given as goal

abbrev pub invariant-loop-k : goal.invariant-loop-k
invariant-loop-k l =
    chain_of l.line l.draw_winner l.allowance (l.count - l.k) l.k l.so_far (responses_of l.state.responses) l.table
    ≡ chain_of l.line l.draw_winner l.allowance l.count 0 Agrees (responses_of l.fn.begun.responses) l.fn.table
