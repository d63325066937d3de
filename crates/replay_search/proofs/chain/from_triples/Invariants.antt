use mathlib.Core.Path.{◌≡◌}
use Rattle.theory.specs.Memory.{no_responses}
use Rattle.minimax.specs.Report.{responses_of}
use Rattle.replay_search.specs.Chains.{with_responses}
use Rattle.replay_search.proofs.chain.from_triples.Given as goal

abbrev pub invariant-loop-triple : goal.invariant-loop-triple
invariant-loop-triple l =
    (l.triple-iterator.size ≡ 3)
    × (with_responses (responses_of l.state.responses) l.triple-iterator.rest.now ≡ with_responses no_responses l.numbers)
