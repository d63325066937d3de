use Rattle.std.proofs.Common.{◌≡◌, drop}
use Rattle.decimals.specs.Lists.{scanned_all}
use Rattle.decimals.proofs.list.numbers.Given as goal

abbrev pub invariant-loop-b : goal.invariant-loop-b
invariant-loop-b l = scanned_all l.initial.scan l.fn.words l.text ≡ scanned_all l.scan l.words (drop l.b-index l.text)
