-- The numbers are those of the record, in their order.
use mathlib.Core.Path.{ap, ◌∙◌}
use mir.Val.{bool_byte}
use Rattle.status.specs.declared.Status.{Status}
use Rattle.replay.specs.Agreement.{left_of}
use Rattle.replay_notation.specs.Records.{won_record}
use Rattle.replay.proofs.AgreementCompared.{truth_number}
use Rattle.replay_notation.proofs.RecordsCompared.{whole_record}
use Rattle.replay_notation.proofs.same_won.Goals as goal

pub returns : goal.returns
returns c =
    let a = c.args in
    let x = c.from-2.ensures ∙ ap bool_byte c.is_won.ensures ∙ truth_number _ in
    let o = c.from-3.ensures ∙ ap bool_byte c.is_won-2.ensures ∙ truth_number _ in
    let draw = c.from-4.ensures ∙ c.as_byte.ensures ∙ ap (λ (s : Status). s.bits) c.draw-draw.ensures in
    whole_record a.words.now (won_record a.byte) (left_of c.number-5.result) _ (cc) c.is_whole.ensures
