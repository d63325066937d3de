-- The bytes that are left make of the scan so far what all of them make of the new one.
use mathlib.Core.Path.{◌∙◌}
use Rattle.decimals.proofs.Lists.{scan_next, scan_end}
use Rattle.decimals.proofs.ListsRead.{list_read}
use Rattle.decimals.proofs.list.numbers.Goals as goal

pub loop-b-preserved : goal.loop-b-preserved
loop-b-preserved c =
    let l = c.loop-b in let p = c.push-scan.ensures in
    rw (p.0, p.1) (l.invariant ∙ scan_next c.args.text.now l.scan l.words l.b-index c.loop-b-test.true)

pub returns : goal.returns
returns c =
    let text = c.args.text.now in
    let l = c.loop-b in
    let p = c.push.ensures in
    let e = l.invariant ∙ scan_end text l.scan l.words l.b-index c.loop-b-test.false in
    list_read text c.args.words.now _ _ (c.counted.ensures ∙ rw (e, p.0)) (p.1 ∙ rw e)
