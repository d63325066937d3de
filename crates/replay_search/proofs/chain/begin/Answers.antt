-- An empty text, a list of triples, or neither.
use mathlib.Core.Path.{◌≡◌, sym}
use Prim.Native.Nat.{ℕ, ◌<◌}
use native.Mathlib.Omega.{arith}
use lib.ListN.{length, replicate, length-replicate}
use borrow.Author.Tests.{eqb-true, eqb-false}
use Rattle.decimals.proofs.ListsHeld.{none_read, some_read}
use Rattle.replay_search.proofs.Chains.{first_counted, begun_none, begun_bad, begun_uneven, begun_read}
use Rattle.replay_search.proofs.chain.begin.Goals as goal

room : length (replicate {A = ℕ} 1024 0) ≡ 1024
room = length-replicate {A = ℕ} 1024 0

pub returns-then-is_empty : goal.returns-then-is_empty
returns-then-is_empty c = begun_none c.args.text.now _ (eqb-true _ 0 (sym c.if-is_empty.ensures)) c.new.ensures

pub returns-in_err-n : goal.returns-in_err-n
returns-in_err-n c =
    let text = c.args.text.now in
    let some : 0 < length text = omega (arith, eqb-false _ 0 (sym c.if-is_empty.ensures)) in
    rw c.from_residual.ensures (begun_bad text some (rw room at (none_read _ _ _ _ c.numbers.ensures c.in_err-n.was)))

pub returns-then-n-ne0 : goal.returns-then-n-ne0
returns-then-n-ne0 c =
    let text = c.args.text.now in
    let some : 0 < length text = omega (arith, eqb-false _ 0 (sym c.if-is_empty.ensures)) in
    begun_uneven text some _ (rw room at (some_read _ _ _ _ c.numbers.ensures _ c.in_ok-n.was)) _
    (first_counted _ _ _ _ c.numbers.ensures c.numbers.auto.words _ c.in_ok-n.was) c.if-n-ne0.true

pub slice_bounds-from_triples-end : goal.slice_bounds-from_triples-end
slice_bounds-from_triples-end c = first_counted _ _ _ _ c.numbers.ensures c.numbers.auto.words _ c.in_ok-n.was

pub returns : goal.returns
returns c =
    let text = c.args.text.now in
    let some : 0 < length text = omega (arith, eqb-false _ 0 (sym c.if-is_empty.ensures)) in
    begun_read text some _ (rw room at (some_read _ _ _ _ c.numbers.ensures _ c.in_ok-n.was)) _
    (first_counted _ _ _ _ c.numbers.ensures c.numbers.auto.words _ c.in_ok-n.was) _ c.if-n-ne0.false c.from_triples.ensures
