-- The cells before the next byte are in the boards.
use Rattle.std.specs.Prelude.{Err}
use mathlib.Core.Path.{◌≡◌, sym}
use Rattle.notation.proofs.PartsCells.{none_filled, fault_found, one_filled, all_filled}
use borrow.Author.Rules.{rules}
use native.Mathlib.Omega.{arith}
use Rattle.notation.proofs.parse_cells.Goals as goal

pub loop-i-init : goal.loop-i-init
loop-i-init c = (search rules, none_filled _)

pub returns-in_err-state : goal.returns-in_err-state
returns-in_err-state c =
    let e : c.from_residual.result ≡ Err c.in_err-state.field-0.0 = search rules in
    rw e (fault_found _ _ _ c.loop-i-test.true c.loop-i.invariant.1 c.in_err-state.field-0.0 (sym c.in_err-state.ensures))

pub loop-i-preserved : goal.loop-i-preserved
loop-i-preserved c =
    let l = c.loop-i in
    let r = c.in_ok-state.ensures in
    (omega arith, rw c.mark_cell.ensures (one_filled _ _ _ c.loop-i-test.true l.invariant.1 r.0 _ r.1))

pub returns : goal.returns
returns c = let l = c.loop-i in let e : l.i ≡ 89 = omega arith in all_filled _ _ (rw e at l.invariant.1)
