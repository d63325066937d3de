-- The stats left to be written, written from where the loop stands, give the whole.
use mathlib.Core.Path.{◌≡◌, refl, ap, ◌∙◌}
use Prim.Native.Nat.{◌+◌, ◌*◌}
use native.Mathlib.Omega.{arith}
use lib.ListN.{length}
use lib.Seq.{sets}
use Rattle.interface.proofs.CallsReport.{stats_start, stats_next, stats_end}
use Rattle.interface.proofs.report.put_stats.Goals as goal

pub loop-i-init : goal.loop-i-init
loop-i-init c = (refl, stats_start c.args.out.now c.args.at c.args.stats)

pub loop-i-preserved : goal.loop-i-preserved
loop-i-preserved c =
    let l = c.loop-i in
    let n : length c.args.stats ≡ 81 = omega arith in
    let put = c.put.ensures ∙ ap (sets l.out (c.args.at + 7 * l.i)) c.stats_words.ensures in (
      c.put.auto.out ∙ l.invariant.0,
      stats_next l.out _ c.args.at l.i c.args.stats _ (omega (arith, c.loop-i-test.true)) put ∙ l.invariant.1,
    )

pub returns : goal.returns
returns c =
    let l = c.loop-i in
    let n : length c.args.stats ≡ 81 = omega arith in
    stats_end l.out _ (c.args.at + 7 * l.i) l.i c.args.stats (omega (arith, c.loop-i-test.false)) l.invariant.1
