-- A line agrees only where it is the text of a position and the numbers of that position's record.
use Rattle.std.specs.Prelude.{Option, None, Some}
use mathlib.Core.Path.{◌≡◌, refl, ap}
use mathlib.Core.List.{List}
use Prim.Native.Nat.{ℕ}
use lib.Dec.{eqb, eqb→eq}
use Rattle.rules.specs.Position.{Position}
use Rattle.text.specs.Reading.{Reading, reads, refuses, read}
use Rattle.decimals.specs.Lists.{list_of}
use Rattle.replay.specs.declared.totals.Comparison.TheVariants.{Differs}
use Rattle.replay.specs.Fields.{field, tabs}
use Rattle.replay.proofs.TotalsComparison.{numbers_found, test_passed}
use Rattle.replay_endgame.specs.Records.{record_of, is_apart, comparison_for, outcome_of}

numbers_said : (r : Reading) (ns : Option (List ℕ)) → (comparison_for r ns ≡ Differs → ⊥) →
    (p : Position) × (r ≡ reads p) × (ns ≡ Some (record_of p))
numbers_said (refuses n offset size) ns h = absurd (h refl)
numbers_said (reads p) None h = absurd (h refl)
numbers_said (reads p) (Some ns) h = (p, refl, ap Some (numbers_found ns (record_of p) (is_apart ns) h))

-- a line that does not differ has two fields: a position that is read, and the numbers of its record, all of them and no other
pub agreed_means : (line : List ℕ) → (outcome_of line ≡ Differs → ⊥) →
    (p : Position) × (tabs line ≡ 1) × (read (field 0 line) ≡ reads p) × (list_of 256 (field 1 line) ≡ Some (record_of p))
unfolding outcome_of
agreed_means line h =
    let two = test_passed (eqb (tabs line) 1) (comparison_for (read (field 0 line)) (list_of 256 (field 1 line))) h in
    let said = numbers_said (read (field 0 line)) (list_of 256 (field 1 line)) two.1 in
    (said.0, eqb→eq (tabs line) 1 two.0, said.1, said.2)
