-- A function, changed at one place.
use Rattle.std.specs.Prelude.{ℕ, eqb}
use Rattle.base.specs.Branch.{when◌then◌else◌}

unfoldable pub update : {A : Type 0} → (ℕ → A) → ℕ → A → ℕ → A
update f i a j = when eqb i j then (λ _. a) else λ _. f j
