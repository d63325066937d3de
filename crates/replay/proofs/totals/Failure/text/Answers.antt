-- A message and a line feed.
use Rattle.text.specs.Bytes.{quoted}
use Rattle.replay.proofs.totals.Failure.text.Goals as goal

pub returns-in-Reading : goal.returns-in-Reading
unfolding quoted
returns-in-Reading c = rw (c.in-Reading.is, c.text.ensures, c.new-said.ensures)

pub returns-in-Writing : goal.returns-in-Writing
unfolding quoted
returns-in-Writing c = rw (c.in-Writing.is, c.text-in-Writing.ensures, c.new-said.ensures)
