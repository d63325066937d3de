-- The key of a cell by the range of its board and cell.
use mathlib.Core.Path.{◌≡◌, refl}
use mathlib.Core.Bool.{◌&&◌}
use mathlib.Core.Logic.{◌⊎◌, inl, inr}
use Prim.Native.Nat.{ℕ, ◌<◌}
use native.Mathlib.Omega.{arith}
use lib.Dec.{ltb, ltb→lt, lt→ltb, T_not}
use Rattle.rules.specs.declared.CellState.{CellState}
use Rattle.base.proofs.Bool.{and→, →and}
use Rattle.base.proofs.Branch.{if_ind}
use Rattle.rules.specs.Hash.{cell_key}
use Rattle.keys.specs.Keys.{cell_key_in}

module _ (b c : ℕ) (s : CellState) where
  pub key_in_range : b < 9 → c < 9 → cell_key b c s ≡ cell_key_in b c s
  unfolding cell_key_in
  key_in_range h k = if_ind (λ (n : ℕ). cell_key b c s ≡ n) (ltb b 9 && ltb c 9) _ _ (λ _. refl)
      (λ t. absurd (T_not (ltb b 9 && ltb c 9) t (→and (ltb b 9) _ (lt→ltb b 9 h) (lt→ltb c 9 k))))

  pub no_key_out_of_range : (b < 9 → c < 9 → ⊥) → 0 ≡ cell_key_in b c s
  unfolding cell_key_in
  no_key_out_of_range f = if_ind (λ (n : ℕ). 0 ≡ n) (ltb b 9 && ltb c 9) _ _
      (λ t. let r = and→ (ltb b 9) _ t in absurd (f (ltb→lt b 9 r.0) (ltb→lt c 9 r.1))) (λ _. refl)

  pub no_key_past : (8 < b) ⊎ (8 < c) → 0 ≡ cell_key_in b c s
  no_key_past (inl h) = no_key_out_of_range (λ k l. omega arith)
  no_key_past (inr h) = no_key_out_of_range (λ k l. omega arith)
