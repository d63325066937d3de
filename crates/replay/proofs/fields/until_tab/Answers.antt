-- Up to the first tab, or all.
use Rattle.replay.proofs.FieldsParted.{until_here, until_end}
use Rattle.replay.proofs.fields.until_tab.Goals as goal

pub returns-in-Some : goal.returns-in-Some
returns-in-Some c = until_here c.args.line.now c.in-Some.at c.in-Some.ensures

pub returns-in-None : goal.returns-in-None
returns-in-None c = until_end c.args.line.now c.in-None.ensures
