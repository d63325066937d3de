-- Head, moves and stats follow each other.
use mathlib.Core.List.{[]}
use mathlib.Core.Path.{◌≡◌, ap, ◌∙◌}
use lib.ListN.{length, length-map}
use lib.Seq.{sets}
use Rattle.minimax.specs.Report.{report_of}
use Rattle.interface.proofs.CallsReport.{report_put}
use native.Mathlib.Omega.{arith}
use Rattle.interface.proofs.report.put.Goals as goal

pub returns : goal.returns
returns c =
    let n : length c.args.found.pv ≡ 81 = omega arith in
    let k : length c.args.found.stats ≡ 81 = omega arith in
    report_put c.args.out.now _ _ _ (report_of c.args.found []) _ _ (simp length-map n) (simp length-map k)
    (c.put.ensures ∙ ap (sets c.args.out.now 0) c.head.ensures) (c.put-2.ensures ∙ ap (sets _ 7) c.line_words.ensures)
    c.put_stats.ensures
