use mathlib.Core.Path.{◌≡◌}
use Prim.Native.Nat.{◌+◌, ◌≤◌}
use lib.ListN.{length}
use Rattle.replay_search.specs.Digests.{entry_count}
use Rattle.replay_search.proofs.digest.entry_count.Given as goal

abbrev pub invariant-loop-entry : goal.invariant-loop-entry
invariant-loop-entry l =
    let left = l.entry-iterator.rest.now in
    (l.entry-iterator.size ≡ 3) × (l.n + entry_count left ≡ entry_count l.words) × (l.n + length left ≤ length l.words)
