-- A run over a list, line by line: what goes on from a reader goes on from the first.
use mathlib.Core.List.{List}
use Prim.Native.Nat.{ℕ}
use Rattle.std.specs.Prelude.{Result}
use Rattle.replay.specs.declared.totals.Comparison.{Comparison}
use Rattle.replay.specs.declared.totals.Totals.{Totals}
use Rattle.replay.specs.declared.totals.Failure.{Failure}
use Rattle.replay.specs.ListCounted.{Reader, Counts, CountsFrom}

-- however a run goes on from here, it is one over the input
abbrev pub LeadsFrom : (List ℕ → Comparison) → Totals → Reader → Totals → Type 0
LeadsFrom outcome_of t₀ a t = (u : Totals) (r : Result (Unit {0}) Failure) → Counts outcome_of a t u r → CountsFrom outcome_of t₀ u r
