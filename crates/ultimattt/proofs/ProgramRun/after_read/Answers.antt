-- By what `read` returned.
use mathlib.Core.Path.{ap, ◌∙◌}
use native.Mathlib.Omega.{arith}
use lib.ListN.{length-take}
use Rattle.std.specs.Prelude.{Some}
use Rattle.std.specs.Result.{result_ok}
use Rattle.ultimattt.proofs.Runs.{read_failed, input_ended, bytes_fed}
use Rattle.ultimattt.proofs.ProgramRun.after_read.Goals as goal

pub returns-in-Err : goal.returns-in-Err
returns-in-Err c = read_failed _ _ _ (ap result_ok c.in-Err.is)

pub returns-in-Ok-eq0 : goal.returns-in-Ok-eq0
returns-in-Ok-eq0 c =
    let x = c.in-Ok-eq0 in input_ended _ _ _ (ap result_ok x.is ∙ ap Some (omega (arith, x.field-0-is, x.field-0-test)))

pub returns-in-Ok : goal.returns-in-Ok
returns-in-Ok c =
    let x = c.in-Ok in
    let h = rw x.is at c.requires in
    let t = rw x.is at x.n-test.1 in
    bytes_fed _ _ _ x.n _ (ap result_ok x.is) (omega (arith, length-take x.n c.args.buffer.now, t, h)) c.feed.ensures
