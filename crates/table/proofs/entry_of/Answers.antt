-- Each part is tested as the definition tests it, and what passes every test is the entry that it says.
use mathlib.Core.Path.{refl, ap, ◌∙◌}
use native.Mathlib.Omega.{arith}
use Rattle.std.specs.Prelude.{option_map}
use Rattle.base.proofs.Signed.{result, less, not_less}
use Rattle.table.specs.Entries.{entry_means}
use Rattle.table.proofs.EntriesWords.{bound_number_most, absent, absent_low, absent_high, present, same_entry}
use Rattle.table.proofs.entry_of.Goals.{
  then-value-via-then-value,
  then-value-via-else-value+then-value-gt-WIDEST,
  then-value-via-else-value+else-value-gt-WIDEST+then-depth-eq0,
  then-value-via-else-value+else-value-gt-WIDEST+else-depth-eq0+then-depth-gt-DEEPEST,
  then-value-via-else-value+else-value-gt-WIDEST+else-depth-eq0+else-depth-gt-DEEPEST+then-pv-gt255,
}
use Rattle.table.proofs.entry_of.Goals as goal

pub returns-in_err-bound : goal.returns-in_err-bound
returns-in_err-bound c = ap (option_map entry_means) c.from_residual.ensures ∙ absent _ _ (λ k. omega (arith, c.in_err-bound.ensures))

pub returns-then-value : goal.returns-then-value
returns-then-value c =
    let value_read = result c.from_word-value.type_inv c.from_word-value.ensures in
    elim c.then-value.branch [
      | then-value-via-then-value w ↦ absent_low _ _ value_read (less w.if-value.true)
      | then-value-via-else-value+then-value-gt-WIDEST w ↦ absent_high _ _ value_read (less w.if-value-gt-WIDEST.true)
      | then-value-via-else-value+else-value-gt-WIDEST+then-depth-eq0 w ↦ absent _ _ (λ k. omega arith)
      | then-value-via-else-value+else-value-gt-WIDEST+else-depth-eq0+then-depth-gt-DEEPEST w ↦ absent _ _ (λ k. omega arith)
      | then-value-via-else-value+else-value-gt-WIDEST+else-depth-eq0+else-depth-gt-DEEPEST+then-pv-gt255 w ↦ absent _ _ (λ k. omega arith)
    ]

pub returns : goal.returns
returns c =
    present _ _ _ (record {
      some_depth = omega arith;
      depth_most = omega arith;
      bound_most = bound_number_most c.in_ok-bound.bound;
      move_most = omega arith;
      value_least = not_less c.if-value.false;
      value_most = not_less c.if-value-gt-WIDEST.false;
    }) (same_entry (result c.from_word-value.type_inv c.from_word-value.ensures) refl c.in_ok-bound.ensures refl)
