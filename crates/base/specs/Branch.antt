-- A choice by a test. What is not chosen is not computed.
use Rattle.std.specs.Prelude.{Bool, true, false}

infix 5 when◌then◌else◌
unfoldable pub when◌then◌else◌ {ℓ} : {A : Type ℓ} → Bool → (Unit {0} → A) → (Unit {0} → A) → A
when◌then◌else◌ true x y = x tt
when◌then◌else◌ false x y = y tt
