-- Fields parted by tabs.
use Rattle.std.specs.Prelude.{List, [], ◌∷◌, ℕ, zero, suc, eqb, ◌==◌, count_by}
use Rattle.base.specs.Branch.{when◌then◌else◌}

-- what stands before the first tab
unfoldable pub until_tab : List ℕ → List ℕ
until_tab [] = []
until_tab (b ∷ bs) = when eqb b 0x09 then (λ _. []) else λ _. b ∷ until_tab bs

-- what stands after it
unfoldable pub past_tab : List ℕ → List ℕ
past_tab [] = []
past_tab (b ∷ bs) = when eqb b 0x09 then (λ _. bs) else λ _. past_tab bs

unfoldable pub field : ℕ → List ℕ → List ℕ
field zero line = until_tab line
field (suc k) line = field k (past_tab line)

-- one less than its fields
abbrev pub tabs : List ℕ → ℕ
tabs line = count_by (λ b. b == 0x09) line
