-- Two fields, of which the second is a list of numbers, or the line differs.
use mathlib.Core.Path.{sym, ap, ◌∙◌}
use Prim.Native.Nat.{◌≤◌}
use native.Mathlib.Omega.{arith}
use lib.ListN.{length}
use lib.Seq.{length-take-le}
use borrow.Author.Tests.{eq-eqb, ne_eqb}
use Rattle.decimals.specs.Lists.{list_of}
use Rattle.decimals.proofs.ListsHeld.{none_read, some_read, read_fits}
use Rattle.replay_endgame.proofs.Records.{not_two_differ, no_numbers_differ, two_found}
use Rattle.replay_endgame.proofs.AnalysesReplayer.outcome.Goals as goal

pub returns-then-tabs-ne1 : goal.returns-then-tabs-ne1
returns-then-tabs-ne1 c = not_two_differ _ (ne_eqb _ 1 (λ q. c.if-tabs-ne1.true (c.tabs.ensures ∙ q)))

pub returns-in_default : goal.returns-in_default
returns-in_default c =
    no_numbers_differ _ (eq-eqb _ 1 (sym c.tabs.ensures ∙ c.if-tabs-ne1.false))
    (ap (list_of 256) (sym c.field.ensures) ∙ none_read _ _ _ _ c.numbers.ensures c.in_default.is)

pub slice_bounds-comparison-end : goal.slice_bounds-comparison-end
slice_bounds-comparison-end c =
    let fits : c.in-Some.n ≤ length c.numbers.new.words = omega (arith, read_fits _ _ _ _ c.numbers.ensures _ c.in-Some.is) in
    sym (length-take-le _ _ fits)

pub returns : goal.returns
returns c =
    c.comparison.ensures ∙ two_found _ _ _ c.field-2.ensures
    (eq-eqb _ 1 (sym c.tabs.ensures ∙ c.if-tabs-ne1.false))
    (ap (list_of 256) (sym c.field.ensures) ∙ some_read _ _ _ _ c.numbers.ensures _ c.in-Some.is)
