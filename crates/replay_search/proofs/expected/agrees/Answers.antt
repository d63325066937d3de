-- All numbers, compared one after the other.
use Rattle.minimax.specs.Report.{report_of}
use Rattle.replay_search.proofs.Records.{whole_agrees}
use Rattle.replay_search.proofs.expected.agrees.Goals as goal

pub returns : goal.returns
returns c =
    let a = c.args in
    whole_agrees a.numbers.now (report_of a.found a.table.now) _ _ _ _ _ c.head_numbers-head.ensures
    (rw c.new.ensures at c.numbers-begun.ensures) c.with_line-so_far.ensures c.with_stats.ensures c.is_whole.ensures
