-- One record more, as long as records may go on, brings the end nearer.
use mathlib.Core.Path.{◌≡◌, refl, ap, ◌∙◌}
use mathlib.Core.Bool.{true}
use Prim.Native.Nat.{◌+◌, ◌-◌, ◌<◌}
use native.Mathlib.Omega.{arith}
use borrow.Author.Tests.{ltb-true}
use Rattle.input.proofs.LinesWhole.{count_on_is}
use Rattle.input.specs.Lines.{count_on, longest}
use Rattle.replay.specs.declared.totals.Totals.{Totals}
use Rattle.replay.specs.declared.totals.Comparison.{Comparison}
use Rattle.replay.specs.declared.totals.Comparison.TheVariants.{Agrees, Apart, Differs}
use Rattle.replay.specs.Totals.{with_record, may_go_on}

records_on : (t : Totals) (outcome : Comparison) → (with_record t outcome).records ≡ count_on t.records
records_on t Agrees = refl
records_on t Apart = refl
records_on t Differs = refl

pub fewer_left : (t u : Totals) (outcome : Comparison) → u ≡ with_record t outcome → may_go_on t ≡ true →
    longest - u.records < longest - t.records
fewer_left t u outcome e go =
    let room : t.records < longest = ltb-true t.records longest go in
    let more : u.records ≡ t.records + 1 =
    ap (λ (z : Totals). z.records) e ∙ records_on t outcome ∙ count_on_is t.records room ∙ omega arith in
    omega arith
