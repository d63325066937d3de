-- Nine digits, all that the taken cells do not have.
use Rattle.base.proofs.Bits.{digits_le, digits_left}
use Rattle.boards.proofs.local.LocalBoards.free_squares.Goals as goal

pub overflow_sub-result : goal.overflow_sub-result
overflow_sub-result c = digits_le _ 9 _ c.mask.ensures

pub returns : goal.returns
returns c = rw c.mask.ensures (digits_left _ 9)
