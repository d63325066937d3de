-- What is found of a record: it differs where its numbers are not the expected ones, and only there.
use mathlib.Core.Path.{◌≡◌, refl}
use mathlib.Core.Bool.{Bool, true, false}
use mathlib.Core.List.{List}
use Prim.Native.Nat.{ℕ}
use lib.Dec.{T}
use Rattle.base.specs.Branch.{when◌then◌else◌}
use Rattle.replay.specs.declared.totals.Comparison.{Comparison}
use Rattle.replay.specs.declared.totals.Comparison.TheVariants.{Agrees, Apart, Differs}
use Rattle.replay.specs.Agreement.{same_numbers}
use Rattle.replay.specs.Totals.{comparison}
use Rattle.replay.proofs.AgreementCompared.{same_numbers_equal}

-- one that agrees and is not apart agrees
pub comparison_agrees : comparison true false ≡ Agrees
unfolding comparison when◌then◌else◌
comparison_agrees = refl

-- one that agrees and is apart is apart
pub comparison_apart : comparison true true ≡ Apart
unfolding comparison when◌then◌else◌
comparison_apart = refl

-- one that does not agree differs, whether it is apart or not
pub comparison_differs : (apart : Bool) → comparison false apart ≡ Differs
unfolding comparison when◌then◌else◌
comparison_differs apart = refl

-- what is not found to differ agrees
pub agreement_found : (agrees apart : Bool) → (comparison agrees apart ≡ Differs → ⊥) → agrees ≡ true
agreement_found true apart h = refl
agreement_found false apart h = absurd (h (comparison_differs apart))

-- numbers that are not found to differ from the expected ones are these
pub numbers_found : (ns expected : List ℕ) (apart : Bool) → (comparison (same_numbers ns expected) apart ≡ Differs → ⊥) → ns ≡ expected
numbers_found ns expected apart h = same_numbers_equal ns expected (rw (agreement_found (same_numbers ns expected) apart h) tt)

-- where what fails a test differs, what does not differ passes it, and what is found then does not differ
pub test_passed : (test : Bool) (found : Comparison) → ((when test then (λ _. found) else λ _. Differs) ≡ Differs → ⊥) →
    T test × (found ≡ Differs → ⊥)
unfolding when◌then◌else◌
test_passed true found h = (tt, h)
test_passed false found h = absurd (h refl)
