-- The numbers are those of the record, in their order.
use Rattle.replay.specs.Agreement.{left_of}
use Rattle.replay_notation.specs.Records.{merge_record}
use Rattle.replay_notation.proofs.RecordsCompared.{whole_record}
use Rattle.replay_notation.proofs.same_merge.Goals as goal

pub returns : goal.returns
returns c =
    let a = c.args in
    whole_record a.words.now (merge_record a.a a.b) (left_of c.number-4.result) _ (cc) c.is_whole.ensures
