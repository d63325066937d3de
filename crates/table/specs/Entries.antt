-- What the structs of the table mean.
use Rattle.std.specs.Prelude.{ℕ}
use Rattle.theory.specs.Table.{Entry as Meant}
use Rattle.table.specs.declared.Bound.{Bound}
use Rattle.table.specs.declared.Bound.TheVariants.{Exact, AtLeast, AtMost}
use Rattle.table.specs.declared.Entry.{Entry}

-- document 01's numbers
abbrev pub bound_number : Bound → ℕ
bound_number Exact = 0
bound_number AtLeast = 1
bound_number AtMost = 2

abbrev pub entry_means : Entry → Meant
entry_means e = record { value = e.value; depth = e.depth; bound = bound_number e.bound; move = e.pv.bits }
