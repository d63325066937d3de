-- The digits that are left make of the number so far what the text is read as.
use Rattle.std.proofs.Common.{◌≡◌, drop}
use Rattle.decimals.specs.Numbers.{digits_after, read_number}
use Rattle.decimals.proofs.number.read_number.Given as goal

abbrev pub invariant-loop-b : goal.invariant-loop-b
invariant-loop-b l = digits_after l.value (drop l.b-index l.text) ≡ read_number l.text
