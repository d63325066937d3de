-- The bit of the word is the mark.
use Rattle.order.proofs.OrderMarks.{mark_read}
use Rattle.order.proofs.Seen.has.Goals as goal

pub returns : goal.returns
returns c = mark_read c.args.self c.args.m.bits
