-- What stands before the searches can't be read, or all of it and the searches.
use lib.ListN.{length}
use Rattle.replay_search.proofs.ChainsLines.{run_no_draw, run_no_allowance, run_no_start, run_is}
use Rattle.replay_search.proofs.chain.run.Goals as goal

pub returns-in_default : goal.returns-in_default
returns-in_default c =
    let a = c.args in
    run_no_draw a.line.now a.count (length a.table.now) _ c.field.ensures _
    c.draw_of.ensures c.in_default.is

pub returns-in_default-read_number : goal.returns-in_default-read_number
returns-in_default-read_number c =
    let a = c.args in
    run_no_allowance a.line.now a.count (length a.table.now) _ c.field.ensures _ _
    c.draw_of.ensures c.in-Some.is
    _ c.field-2.ensures _ c.read_number.ensures c.in_default-read_number.is

pub returns-in_default-begin : goal.returns-in_default-begin
returns-in_default-begin c =
    let a = c.args in
    run_no_start a.line.now a.count (length a.table.now) _ c.field.ensures _ _ c.draw_of.ensures c.in-Some.is
    _ c.field-2.ensures _ c.read_number.ensures _ c.in-Some-read_number.is _ c.field-3.ensures _ c.begin.ensures
    c.in_default-begin.is

pub returns : goal.returns
returns c =
    let a = c.args in
    run_is a.line.now a.count (length a.table.now) _ c.field.ensures _ _ c.draw_of.ensures c.in-Some.is
    _ c.field-2.ensures _ c.read_number.ensures _ c.in-Some-read_number.is _ c.field-3.ensures _ c.begin.ensures
    _ c.in-Some-begin.is _ _ (c.fill.ensures.after (λ y h. h)) c.replayed.ensures
