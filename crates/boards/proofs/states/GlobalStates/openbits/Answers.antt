-- Nine digits, all that the closed boards do not have.
use Rattle.base.proofs.Bits.{digits_le, digits_left}
use Rattle.boards.proofs.states.GlobalStates.openbits.Goals as goal

pub overflow_sub-result : goal.overflow_sub-result
overflow_sub-result c = digits_le _ 9 _ c.donebits.ensures

pub returns : goal.returns
returns c = rw c.donebits.ensures (digits_left _ 9)
