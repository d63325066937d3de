use Rattle.std.proofs.Common.{◌≡◌, take}
use Rattle.replay.specs.Agreement.{left_of, compared_all}
use Rattle.replay.proofs.agreement.Agreement.numbers.Given as goal

abbrev pub invariant-loop-n : goal.invariant-loop-n
invariant-loop-n l = left_of l.agreement ≡ compared_all (left_of l.fn.self) (take l.n-index l.ns)
