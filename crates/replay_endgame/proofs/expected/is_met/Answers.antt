-- All numbers were compared, so the record is the expected one.
use Rattle.replay_endgame.proofs.RecordsCompared.{whole_is_record}
use Rattle.replay_endgame.proofs.expected.is_met.Goals as goal

pub returns : goal.returns
returns c = whole_is_record _ _ c.new.ensures c.with_analysis-analysed.ensures c.with_moves.ensures c.is_whole.ensures
