-- By how the run stands.
use Rattle.text.specs.Bytes.{quoted}
use Rattle.ultimattt.proofs.Progress.told.Goals as goal

pub returns-in-InputEnded-false : goal.returns-in-InputEnded-false
unfolding quoted
returns-in-InputEnded-false c = let x = c.in-InputEnded-false in rw (x.is-0, x.is-1, c.text.ensures, c.new-said.ensures)

pub returns-in-Reading-default : goal.returns-in-Reading-default
unfolding quoted
returns-in-Reading-default c = rw (c.in-Reading-default.is-0, c.text-in-Reading-default.ensures, c.new-said.ensures)

pub returns-in-ReadFailed-default : goal.returns-in-ReadFailed-default
unfolding quoted
returns-in-ReadFailed-default c = rw (c.in-ReadFailed-default.is-0, c.text-in-ReadFailed-default.ensures, c.new-said.ensures)

pub returns-in-WriteFailed-default : goal.returns-in-WriteFailed-default
unfolding quoted
returns-in-WriteFailed-default c = rw (c.in-WriteFailed-default.is-0, c.text-in-WriteFailed-default.ensures, c.new-said.ensures)
