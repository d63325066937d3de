-- A line agrees only where it is a list of numbers, and these are the record of the question that they hold.
use Rattle.std.specs.Prelude.{Option, None, Some}
use mathlib.Core.Path.{◌≡◌, refl}
use mathlib.Core.List.{List}
use Rattle.std.specs.Prelude.{Option, Some, None}
use Prim.Native.Nat.{ℕ}
use Rattle.decimals.specs.Lists.{list_of}
use Rattle.replay.specs.declared.totals.Comparison.TheVariants.{Differs}
use Rattle.replay.proofs.TotalsComparison.{numbers_found}
use Rattle.replay_notation.specs.Records.{expected_record, is_apart, comparison_for, outcome_of}

numbers_said : (o : Option (List ℕ)) → (comparison_for o ≡ Differs → ⊥) → (ns : List ℕ) × (o ≡ Some ns) × (ns ≡ expected_record ns)
numbers_said None h = absurd (h refl)
numbers_said (Some ns) h = (ns, refl, numbers_found ns (expected_record ns) (is_apart ns) h)

-- a line that does not differ is a list of numbers, which are those that the definitions give for its question
pub agreed_means : (line : List ℕ) → (outcome_of line ≡ Differs → ⊥) →
    (ns : List ℕ) × (list_of 1024 line ≡ Some ns) × (ns ≡ expected_record ns)
agreed_means line h = numbers_said (list_of 1024 line) h
