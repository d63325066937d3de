-- The triples that are left are to be taken.
use mathlib.Core.Path.{sym, ◌∙◌}
use Prim.Native.Nat.{◌<◌}
use native.Mathlib.Omega.{arith}
use lib.ListN.{length}
use Rattle.minimax.specs.Report.{responses_of}
use Rattle.replay_search.proofs.Chains.{triple_next, triples_end}
use Rattle.replay_search.proofs.chain.from_triples.Goals as goal

pub loop-triple-preserved : goal.loop-triple-preserved
loop-triple-preserved c =
    let l = c.loop-triple in
    let s = c.in-Some.ensures.steps in
    (s.0 ∙ l.invariant.0, triple_next _ _ _ _ _ s.1.0 (s.1.1 ∙ l.invariant.0) c.with_response-state.ensures ∙ l.invariant.1)

pub returns : goal.returns
returns c =
    let l = c.loop-triple in
    let left = l.triple-iterator.rest.now in
    let ended : length left < 3 = omega (arith, c.in-None.ensures.steps.1.0, l.invariant.0) in
    sym (triples_end (responses_of l.state.responses) left ended) ∙ l.invariant.1
