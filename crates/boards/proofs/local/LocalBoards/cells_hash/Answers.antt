-- The keys taken so far and those of the cells from i on make the hash; a board over 8 has none.
use mathlib.Core.Path.{◌≡◌, refl, sym, ap, ◌∙◌}
use native.Mathlib.Omega.{arith}
use lib.Bits.{xor_zero_r}
use borrow.Author.Rules.{rules}
use Rattle.rules.specs.Hash.{cell_key, xors, cells_hash}
use Rattle.keys.specs.Keys.{cell_key_in}
use Rattle.boards.specs.Packed.{cell_at}
use Rattle.boards.proofs.RowsHash.{one_more, key_of_cell}
use Rattle.boards.proofs.local.LocalBoards.cells_hash.Goals as goal

pub loop-i-init : goal.loop-i-init
unfolding cells_hash
loop-i-init c = (search rules, refl)

pub loop-i-preserved : goal.loop-i-preserved
loop-i-preserved c =
    let a = c.args in
    let l = c.loop-i in
    let h = c.loop-i-test.true in (
      search rules,
      one_more (λ k. cell_key a.global k (cell_at a.self a.global k)) l.i h l.hash c.for_cell-hash.result _
          (c.for_cell-hash.ensures ∙ ap (cell_key_in a.global l.i) c.at.ensures
          ∙ key_of_cell a.self a.global l.i h) l.invariant.1,
    )

pub returns : goal.returns
unfolding xors
returns c =
    let e : c.loop-i.i ≡ 9 = omega arith in sym (xor_zero_r c.loop-i.hash) ∙ (rw e at c.loop-i.invariant.1)
