-- In range the key is the one that stands at 9 × board + cell.
use mathlib.Core.Path.{◌∙◌, sym, ap}
use native.Mathlib.Omega.{arith}
use borrow.Author.Rules.{rules}
use Rattle.rules.specs.declared.CellState.{CellState}
use Rattle.rules.specs.Hash.{cell_key}
use Rattle.keys.proofs.KeysRange.{key_in_range}
use Rattle.keys.proofs.for_cell.Goals as goal

pub returns-in-Empty : goal.returns-in-Empty
unfolding cell_key
returns-in-Empty c = search rules ∙ key_in_range _ _ _ (omega arith) (omega arith)

pub returns-in-Played : goal.returns-in-Played
unfolding cell_key
returns-in-Played c =
    let a = c.args in
    c.for_square.ensures
    ∙ sym (ap (λ (s : CellState). cell_key a.board a.square s) c.in-Played.is)
    ∙ key_in_range _ _ _ (omega arith) (omega arith)
