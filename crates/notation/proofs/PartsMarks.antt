-- What single bytes say: the side, an overall mark, a cell; and what none of them says.
use Rattle.std.specs.Prelude.{None}
use mathlib.Core.Path.{◌≡◌}
use Prim.Native.Nat.{ℕ}
use borrow.Author.Tests.{ne_eqb}
use Rattle.base.specs.Branch.{when◌then◌else◌}
use Rattle.text.specs.Bytes.{dot, hash_mark, at_mark}
use Rattle.text.specs.Reading.{side_of, overall_mark, cell_mark}

module _ (c : ℕ) (x : c ≡ 0x58 → ⊥) (o : c ≡ 0x4f → ⊥) where
  -- a byte that is no letter of a side names none
  pub no_side : side_of c ≡ None
  unfolding side_of when◌then◌else◌
  no_side = rw (ne_eqb c 0x58 x, ne_eqb c 0x4f o)

  -- nor is it a cell if it is no dot
  pub no_cell : (c ≡ dot → ⊥) → cell_mark c ≡ None
  unfolding cell_mark when◌then◌else◌
  no_cell d = rw (ne_eqb c dot d, no_side)

  -- nor an overall mark if it is none of the others either
  pub no_mark : (c ≡ hash_mark → ⊥) → (c ≡ dot → ⊥) → (c ≡ at_mark → ⊥) → overall_mark c ≡ None
  unfolding overall_mark when◌then◌else◌
  no_mark h d a = rw (ne_eqb c dot d, ne_eqb c at_mark a, ne_eqb c hash_mark h, no_side)
