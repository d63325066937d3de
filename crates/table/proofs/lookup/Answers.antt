-- With fewer than three words, or another hash in the slot, nothing is there; otherwise the slot says what is.
use mathlib.Core.Path.{sym, ap, ◌∙◌}
use native.Mathlib.Omega.{arith}
use Rattle.std.specs.Prelude.{option_map}
use Rattle.table.specs.Entries.{entry_means}
use Rattle.table.proofs.EntriesRows.{look_up_off, look_up_other, look_up_same}
use Rattle.table.proofs.lookup.Goals as goal

pub returns-in_err-i : goal.returns-in_err-i
returns-in_err-i c = ap (option_map entry_means) c.from_residual.ensures ∙ sym (look_up_off _ _ c.in_err-i.ensures)

pub returns-then-words-i : goal.returns-then-words-i
returns-then-words-i c = sym (look_up_other _ _ _ c.in_ok-i.ensures.0 c.in_ok-i.ensures.1 (λ p. omega arith))

pub returns : goal.returns
returns c = c.entry_of.ensures ∙ sym (look_up_same _ _ _ c.in_ok-i.ensures.0 c.in_ok-i.ensures.1 (omega arith))
