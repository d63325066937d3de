-- A list of checks, each with the number of its refusal. The first that fails decides.
use Rattle.std.specs.Prelude.{Bool, List, [], ◌∷◌, ℕ}
use Rattle.base.specs.Branch.{when◌then◌else◌}
use Rattle.base.specs.Lists.{all}

unfoldable pub all_pass : List (Bool × ℕ) → Bool
all_pass cs = all (λ (t : Bool × ℕ). t.0) cs

-- the number of the first that fails, 0 where all pass
unfoldable pub first_failed : List (Bool × ℕ) → ℕ
first_failed [] = 0
first_failed (t ∷ ts) = when t.0 then (λ _. first_failed ts) else λ _. t.1
