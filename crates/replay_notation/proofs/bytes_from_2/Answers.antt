-- The bytes are those of the places from 2 on.
use mathlib.Core.Path.{◌≡◌}
use Prim.Native.Nat.{◌+◌}
use native.Mathlib.Omega.{arith}
use borrow.Author.Rules.{rules}
use Rattle.base.proofs.Arrays.{from_fn_each}
use Rattle.replay_notation.specs.Records.{byte_in}
use Rattle.replay_notation.proofs.RecordsBytes.{all_bytes}
use Rattle.replay_notation.proofs.bytes_from_2.Goals as goal

pub returns : goal.returns
returns c =
    let r = c.from_fn.ensures.items in
    all_bytes c.args.words.now c.from_fn.result r.long
    (λ k h. from_fn_each _ _ (λ i y. y ≡ byte_in c.args.words.now (i + 2)) (λ i y q e. search rules) 0
    c.from_fn.result 0 512 r.each k (omega arith) (omega arith))
