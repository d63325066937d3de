-- A part that can't be read, or all of them and the search.
use mathlib.Core.Path.{◌≡◌, sym, ◌∙◌}
use Prim.Native.Nat.{ℕ}
use lib.ListN.{length, replicate, length-replicate}
use Rattle.decimals.proofs.ListsHeld.{none_read, some_read}
use Rattle.replay_search.proofs.Chains.{first_counted}
use Rattle.replay_search.proofs.ChainsSearched.{no_position, no_depth, no_numbers, is_searched}
use Rattle.replay_search.proofs.chain.searched.Goals as goal

room : length (replicate {A = ℕ} 1024 0) ≡ 1024
room = length-replicate {A = ℕ} 1024 0

pub returns-in_default : goal.returns-in_default
returns-in_default c =
    let a = c.args in
    no_position a.line.now a.draw_winner a.allowance a.k a.state a.table.now c.field.result.now c.field.ensures _ c.in_default.ensures

pub returns-in_err-max_depth : goal.returns-in_err-max_depth
returns-in_err-max_depth c =
    let a = c.args in
    rw c.from_residual.ensures (no_depth a.line.now a.draw_winner a.allowance a.k a.state a.table.now c.field.result.now
    c.field.ensures _ c.in-Ok.ensures _ c.field-2.ensures
    (sym c.read_number.ensures ∙ c.in_err-max_depth.was))

pub returns-in_err-n : goal.returns-in_err-n
returns-in_err-n c =
    let a = c.args in
    rw c.from_residual-in_err-n.ensures (no_numbers a.line.now a.draw_winner a.allowance a.k a.state a.table.now c.field.result.now
    c.field.ensures _ c.in-Ok.ensures _ _ c.field-2.ensures
    (sym c.read_number.ensures ∙ c.in_ok-max_depth.was) _ c.field-3.ensures
    (rw room at (none_read _ _ _ _ c.numbers.ensures c.in_err-n.was)))

pub slice_bounds-agrees-end : goal.slice_bounds-agrees-end
slice_bounds-agrees-end c = first_counted _ _ _ _ c.numbers.ensures c.numbers.auto.words _ c.in_ok-n.was

pub returns : goal.returns
returns c =
    let a = c.args in
    let after = c.analyze-found.new.words in
    rw c.then_some.ensures
    (is_searched a.line.now a.draw_winner a.allowance a.k a.state a.table.now c.field.result.now c.field.ensures _ c.in-Ok.ensures
    _ _ c.field-2.ensures (sym c.read_number.ensures ∙ c.in_ok-max_depth.was) _ c.field-3.ensures _ after c.analyze-found.result _
    (rw room at (some_read _ _ _ _ c.numbers.ensures _ c.in_ok-n.was)) c.analyze-found.ensures c.agrees.ensures)
