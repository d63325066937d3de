-- The key of a cell, none for a board or cell over 8.
use Rattle.std.specs.Prelude.{◌&&◌, ℕ, ltb}
use Rattle.rules.specs.declared.CellState.{CellState}
use Rattle.base.specs.Branch.{when◌then◌else◌}
use Rattle.rules.specs.Hash.{cell_key}

unfoldable pub cell_key_in : ℕ → ℕ → CellState → ℕ
cell_key_in b c s = when ltb b 9 && ltb c 9 then (λ _. cell_key b c s) else λ _. 0
