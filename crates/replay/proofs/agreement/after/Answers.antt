-- The first number is tested, or is lacking.
use mathlib.Core.List.{List}
use Prim.Native.Nat.{ℕ}
use Rattle.std.proofs.Common.{Bor}
use Rattle.replay.proofs.AgreementCompared.{number_tested, number_lacks}
use Rattle.replay.proofs.agreement.after.Goals as goal

pub returns-in_err-first : goal.returns-in_err-first
returns-in_err-first c = rw c.from_residual.ensures (number_lacks c.args.numbers.now c.args.n c.in_err-first.ensures.cases)

pub returns : goal.returns
returns c =
    let k = c.in_ok-first.ensures.cases in
    rw (k.0, c.then_some.ensures) (number_tested (λ (r : Bor (List ℕ)). r.now) c.in_ok-first.left c.in_ok-first.first.now c.args.n)
