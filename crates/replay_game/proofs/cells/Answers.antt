-- Those left, compared from where the loop stands, lead where all lead.
use mathlib.Core.Path.{refl}
use native.Mathlib.Omega.{arith}
use Rattle.replay.specs.Agreement.{left_of}
use Rattle.replay_game.proofs.Records.{place_compared, places_compared, in_range_cell}
use Prim.Native.Nat.{◌+◌, ◌-◌, ◌/◌, ◌%◌}
use Rattle.rules.specs.declared.CellState.TheVariants.{Empty}
use Rattle.game.specs.Meaning.{position_of}
use Rattle.replay_game.specs.Records.{cells_numbers}
use Rattle.replay_game.proofs.cells.Invariants.{number_at}
use Rattle.replay_game.proofs.cells.Goals as goal

pub loop-k-init : goal.loop-k-init
unfolding cells_numbers
loop-k-init c = refl

pub loop-k-preserved : goal.loop-k-preserved
unfolding cells_numbers
loop-k-preserved c =
    let l = c.loop-k in
    let a = c.args in
    let g = a.g in
    let there = (position_of g).cells (l.k / 9) (l.k % 9) in
    let is = in_range_cell there Empty (l.k / 9) (l.k % 9) (omega arith) (omega arith) in
    place_compared (number_at g) (left_of l.compared) _ _ l.k (81 - l.k) (81 - (l.k + 1)) (omega arith)
    (rw (c.number-compared.ensures, c.cell_number.ensures, c.unwrap_or-cell.ensures, c.at.ensures, is)) l.invariant

pub returns : goal.returns
unfolding cells_numbers
returns c =
    let l = c.loop-k in
    let a = c.args in
    let g = a.g in
    places_compared (number_at g) _ _ l.k (81 - l.k) (omega arith) l.invariant
