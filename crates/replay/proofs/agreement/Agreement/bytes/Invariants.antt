use Rattle.std.proofs.Common.{◌≡◌, take}
use Rattle.replay.specs.Agreement.{left_of, compared_all}
use Rattle.replay.proofs.agreement.Agreement.bytes.Given as goal

abbrev pub invariant-loop-b : goal.invariant-loop-b
invariant-loop-b l = left_of l.agreement ≡ compared_all (left_of l.fn.self) (take l.b-index l.bytes)
