-- The moves asked for so far are placed, and the cursor has the others left.
use Rattle.std.proofs.lemmas.List.{set-get_or}
use mathlib.Core.Path.{◌∙◌}
use native.Mathlib.Omega.{arith}
use Rattle.boards.specs.Cursor.{moves_left}
use Rattle.demands.proofs.Demand2Listing.{listing_next, listing_ended, listing_done}
use Rattle.demands.proofs.list_moves.Goals.{in-Some, in_default}
use Rattle.demands.proofs.list_moves.Goals as goal

pub loop-place-preserved : goal.loop-place-preserved
loop-place-preserved c =
    let l = c.loop-place in
    let ms = moves_left c.args.cursor in
    let h = c.loop-place-test.true in
    elim c.match-next.branch [
      | in-Some w ↦ listing_next ms l.place-index l.place-items l.left l.invariant h _ (omega arith) w.in-Some.m _
          w.in-Some.ensures.steps.0 _ w.place-items-is
      | in_default w ↦ listing_ended ms l.place-index l.place-items l.left l.invariant h _ (omega arith)
          w.in_default.ensures.steps.0.0 _ (w.place-items-is ∙ set-get_or l.place-items l.place-index _) _ w.in_default.ensures.steps.1
    ]

pub returns : goal.returns
returns c =
    let l = c.loop-place in
    listing_done c.args.cursor l.place-index l.place-items l.left l.invariant c.loop-place-test.false
