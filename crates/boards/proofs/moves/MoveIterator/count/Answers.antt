-- The set bits of each row are the moves that it has left.
use Rattle.boards.proofs.Cursor.{left_length}
use Rattle.boards.proofs.moves.MoveIterator.count.Goals as goal

pub returns : goal.returns
returns c = left_length _
