-- The depths left, compared from where the loop stands, lead where all lead.
use mathlib.Core.Path.{sym, ◌∙◌}
use Rattle.replay_search.proofs.Records.{stats_go_on, stats_end}
use Rattle.replay_search.proofs.expected.with_stats.Goals as goal

pub loop-s-preserved : goal.loop-s-preserved
loop-s-preserved c =
    let s = c.in-Some.ensures.steps in
    stats_go_on _ _ _ _ _ _ _ _ s.0 s.1 c.depth_numbers.ensures c.numbers-so_far.ensures ∙ c.loop-s.invariant

pub returns : goal.returns
returns c = sym (stats_end _ _ _ (λ h. (c.in-None.ensures.steps h).0)) ∙ c.loop-s.invariant
