-- The remainder is below the number of entries, so that three words from three times it are within the row.
use mathlib.Core.Path.{refl}
use Rattle.table.proofs.EntriesRows.{begins_within}
use Rattle.theory.specs.Table.{begins}
use Rattle.table.proofs.slot.Goals as goal

pub returns : goal.returns
unfolding begins
returns c = (c.if-words-lt3.false, refl, begins_within c.args.words c.args.hash c.if-words-lt3.false)
