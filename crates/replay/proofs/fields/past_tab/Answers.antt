-- Past the first tab, or nothing.
use Rattle.replay.proofs.FieldsParted.{past_here, past_end}
use Rattle.replay.proofs.fields.past_tab.Goals as goal

pub returns-in-Some : goal.returns-in-Some
returns-in-Some c = past_here c.args.line.now c.in-Some.at c.in-Some.ensures

pub returns-in-None : goal.returns-in-None
returns-in-None c = past_end c.args.line.now c.in-None.ensures
