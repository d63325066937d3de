-- Each line that is found leaves fewer bytes, and what is left to come is what the whole read comes to.
use mathlib.Core.Path.{◌∙◌}
use Rattle.program_reads.proofs.Promises.{next_found, next_shorter}
use Rattle.program_reads.proofs.Feeding.{fed_on, fed_whole}
use Rattle.ultimattt.proofs.Runs.{all_fed}
use Rattle.ultimattt.proofs.feed.Goals as goal

pub loop-text-smaller : goal.loop-text-smaller
loop-text-smaller c = next_shorter _ _ _ _ _ c.in-Some.ensures

pub loop-text-preserved : goal.loop-text-preserved
loop-text-preserved c =
    let l = c.loop-text in (
      fed_on _ _ _ _ _ c.in-Some.ensures ∙ l.invariant.0,
      λ _. l.invariant.1 (next_found _ _ _ _ _ c.in-Some.ensures),
    )

pub returns : goal.returns
returns c = all_fed _ _ _ (fed_whole _ _ _ c.in_default.ensures ∙ c.loop-text.invariant.0)
