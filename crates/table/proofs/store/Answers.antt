-- With fewer than three words nothing is written; otherwise the three words of the slot are, where the entry replaces what they say.
use mathlib.Core.Path.{sym, ap, ◌∙◌}
use Rattle.theory.specs.Table.{to_word, replaces}
use Rattle.table.specs.Entries.{entry_means}
use Rattle.table.proofs.EntriesRows.{store_off, store_refused, store_wrote}
use mir.Facts.{to_z-of_z}
use mir.Syntax.{w64}
use Rattle.table.proofs.store.Goals as goal

pub returns-in_default : goal.returns-in_default
returns-in_default c = sym (store_off _ _ c.in_default.ensures _)

pub returns-then-replaces : goal.returns-then-replaces
returns-then-replaces c =
    let e = c.args.e in
    let value = to_z-of_z {w = w64} {z = e.value} (record { sfits = c.struct_told-1.given.0.1 }) in
    store_wrote _ _ _ c.in-Some.ensures.0 c.in-Some.ensures.1 (entry_means e) _ _
    (c.to_word.ensures ∙ ap to_word value) c.rest_of.ensures
    (sym (ap (replaces e.depth) c.entry_of.ensures) ∙ sym c.replaces.ensures ∙ c.if-replaces.true)

pub returns-else-replaces : goal.returns-else-replaces
returns-else-replaces c =
    sym (store_refused _ _ _ c.in-Some.ensures.0 c.in-Some.ensures.1 (entry_means c.args.e)
    (sym (ap (replaces c.args.e.depth) c.entry_of.ensures) ∙ sym c.replaces.ensures ∙ c.if-replaces.false))
