-- The entries counted and those that are left are all.
use mathlib.Core.Path.{◌∙◌}
use mathlib.Core.Bool.{not}
use native.Mathlib.Omega.{arith}
use lib.Dec.{eqb}
use lib.ListN.{get_or}
use Rattle.replay_search.proofs.Digests.{entry_next, entries_end, truth_below_2}
use Rattle.replay_search.proofs.digest.entry_count.Goals as goal

pub loop-entry-preserved : goal.loop-entry-preserved
loop-entry-preserved c =
    let l = c.loop-entry in
    let s = c.in-Some.ensures.steps in
    let next = entry_next _ _ _ s.1.0 (s.1.1 ∙ l.invariant.0) in (
      s.0 ∙ l.invariant.0,
      omega (arith, next.0, c.from-n.ensures, l.invariant.1),
      omega (arith, next.1, c.from-n.ensures, truth_below_2 (not (eqb (get_or c.in-Some.entry.now 2 0) 0)), l.invariant.2),
    )

pub returns : goal.returns
returns c =
    let l = c.loop-entry in
    omega (arith, entries_end l.entry-iterator.rest.now (omega (arith, c.in-None.ensures.steps.1.0, l.invariant.0)), l.invariant.1)
