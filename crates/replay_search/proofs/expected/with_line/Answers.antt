-- The moves left, compared from where the loop stands, lead where all lead.
use mathlib.Core.Path.{sym, ◌∙◌}
use Rattle.replay_search.proofs.Records.{line_goes_on, line_ends}
use Rattle.replay_search.proofs.expected.with_line.Goals as goal

pub loop-m-preserved : goal.loop-m-preserved
loop-m-preserved c =
    let s = c.in-Some.ensures.steps in line_goes_on _ _ _ _ _ _ _ _ s.0 s.1 c.from.ensures c.number-so_far.ensures ∙ c.loop-m.invariant

pub returns : goal.returns
returns c = sym (line_ends _ _ _ (λ h. (c.in-None.ensures.steps h).0)) ∙ c.loop-m.invariant
