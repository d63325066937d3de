-- The tests are the definition's.
use mathlib.Core.Path.{ap, ◌∙◌}
use native.Mathlib.Omega.{arith}
use lib.ListN.{length}
use lib.Seq.{length-take-le}
use Rattle.replay_search.specs.Chains.{run_of}
use Rattle.replay_search.proofs.ChainsLines.{not_thirds, too_few, too_many, no_entries, no_room, is_run}
use Rattle.replay_search.proofs.chain.outcome.Goals as goal

pub returns-then-tabs-ne0 : goal.returns-then-tabs-ne0
returns-then-tabs-ne0 c =
    let a = c.args in
    not_thirds (length a.words.now) a.line.now _ c.tabs-tabs.ensures c.if-tabs-ne0.true

pub returns-then-thirds-lt2 : goal.returns-then-thirds-lt2
returns-then-thirds-lt2 c =
    let a = c.args in
    too_few (length a.words.now) a.line.now _ c.tabs-tabs.ensures c.if-tabs-ne0.false c.if-thirds-lt2.true

pub returns-then-thirds-gt1000 : goal.returns-then-thirds-gt1000
returns-then-thirds-gt1000 c =
    let a = c.args in
    too_many (length a.words.now) a.line.now _ c.tabs-tabs.ensures c.if-tabs-ne0.false c.if-thirds-lt2.false
    c.if-thirds-gt1000.true

pub returns-in_default : goal.returns-in_default
returns-in_default c =
    let a = c.args in
    no_entries (length a.words.now) a.line.now _ c.tabs-tabs.ensures
    c.if-tabs-ne0.false c.if-thirds-lt2.false
    c.if-thirds-gt1000.false _
    c.field.ensures _ c.read_number.ensures c.in_default.is

pub returns-then-entries-room : goal.returns-then-entries-room
returns-then-entries-room c =
    let a = c.args in
    no_room (length a.words.now) a.line.now _ c.tabs-tabs.ensures c.if-tabs-ne0.false c.if-thirds-lt2.false c.if-thirds-gt1000.false _
    c.field.ensures _ c.read_number.ensures _ c.in-Some.is (omega (arith, c.if-entries-room.true))

pub returns : goal.returns
returns c =
    let a = c.args in
    is_run (length a.words.now) a.line.now _ c.tabs-tabs.ensures c.if-tabs-ne0.false c.if-thirds-lt2.false c.if-thirds-gt1000.false _
    c.field.ensures _ c.read_number.ensures _ c.in-Some.is _ (omega (arith, c.if-entries-room.false))
    (c.run.ensures ∙ ap (run_of a.line.now _) (length-take-le _ a.words.now (omega (arith, c.if-entries-room.false))))
