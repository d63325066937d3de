-- The places after the last completed depth are empty.
use mathlib.Core.Path.{◌≡◌}
use lib.ListN.{length}
use Rattle.minimax.proofs.StateScores.{told}
use Rattle.minimax.proofs.ReportAnswers.{report_made}
use native.Mathlib.Omega.{arith}
use Rattle.minimax.proofs.CompletedDepths.report.Goals as goal

pub returns : goal.returns
returns c =
    let n : length c.args.self.pv.moves ≡ 81 = omega arith in
    let k : length c.args.self.stats ≡ 81 = omega arith in
    report_made c.args.self c.args.state.now c.args.stopped n k c.ending.result
    c.ending.ensures _ (told c.args.self.score (omega arith))
