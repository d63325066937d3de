use Rattle.boards.specs.Cursor.{moves_left}
use Rattle.demands.proofs.Demand2Listing.{Listing}
use Rattle.demands.proofs.list_moves.Given as goal

abbrev pub invariant-loop-place : goal.invariant-loop-place
invariant-loop-place l = Listing (moves_left l.initial.left) l.place-index l.place-items l.left
