-- The responses to O's moves follow those to X's.
use mathlib.Core.Path.{ap, ◌∙◌}
use lib.Seq.{sets}
use Rattle.interface.proofs.CallsReport.{both_put}
use native.Mathlib.Omega.{arith}
use Rattle.interface.proofs.report.put_memory.Goals as goal

pub returns : goal.returns
returns c =
    both_put c.args.responses.now _ _ c.args.state.responses.x c.args.state.responses.o
    (omega arith) (omega arith)
    (c.put.ensures ∙ ap (sets c.args.responses.now 0) c.bytes_of.ensures) (c.put-2.ensures ∙ ap (sets _ 256) c.bytes_of-2.ensures)
