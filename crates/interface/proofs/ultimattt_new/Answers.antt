-- Twelve words, if there is room.
use Rattle.interface.proofs.Calls.{begins_short, begins_well}
use Rattle.interface.proofs.ultimattt_new.Goals as goal

pub returns-then-position-lt12 : goal.returns-then-position-lt12
returns-then-position-lt12 c = begins_short c.args.position.now c.if-position-lt12.true

pub returns : goal.returns
returns c =
    begins_well c.args.position.now _ _
    c.if-position-lt12.false c.new.ensures c.put.ensures
