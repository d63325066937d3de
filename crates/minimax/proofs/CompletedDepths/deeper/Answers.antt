-- One place of the stats is set, and the variation's places after the depth stay empty.
use mathlib.Core.Path.{◌≡◌, ap}
use lib.IntN.{ℤ}
use lib.ListN.{length}
use Prim.Native.Nat.{◌+◌}
use native.Mathlib.Omega.{arith}
use Rattle.minimax.specs.Report.{tally_of}
use Rattle.minimax.proofs.StateScores.{told}
use Rattle.minimax.proofs.ReportAnswers.{deeper_whole, deeper_pv_empty, deeper_stats_empty}
use Rattle.minimax.proofs.CompletedDepths.deeper.Goals as goal

pub invariant_of-result-clause-pv_empty : goal.invariant_of-result-clause-pv_empty
invariant_of-result-clause-pv_empty c = deeper_pv_empty c.args.self c.requires.0 c.args.pv c.requires.1

pub invariant_of-result-clause-stats_empty : goal.invariant_of-result-clause-stats_empty
invariant_of-result-clause-stats_empty c = deeper_stats_empty c.args.self c.requires.0 _

pub returns : goal.returns
returns c =
    let a = c.args in
    let n : length a.self.stats ≡ 81 = omega arith in
    let z = told a.score (omega arith) in
    deeper_whole a.self c.requires.0 a.score _ z a.pv a.state.now _ n
    (ap (λ (y : ℤ). record { depth = a.self.depth + 1; score = y; tally = tally_of a.state.now.stats }) z)
