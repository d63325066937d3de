-- The bytes of a record are those of its places.
use mathlib.Core.Path.{◌≡◌, sym, ap, ◌∙◌}
use mathlib.Core.List.{List, map}
use Prim.Native.Nat.{ℕ, ◌+◌, ◌<◌}
use native.Mathlib.Omega.{arith}
use lib.ListN.{length, get_or}
use lib.Seq.{ext_get_or}
use Rattle.base.specs.Lists.{from}
use Rattle.base.proofs.ListsPlaces.{run_length, run_at}
use Rattle.replay_notation.specs.Records.{byte_in, bytes_from_2}

pub all_bytes : (ns bytes : List ℕ) → length bytes ≡ 512 → ((k : ℕ) → k < 512 → get_or bytes k 0 ≡ byte_in ns (k + 2)) →
    bytes ≡ bytes_from_2 ns
unfolding bytes_from_2
all_bytes ns bytes n each =
    ext_get_or 0 bytes (map (byte_in ns) (from 2 512)) (n ∙ sym (run_length (byte_in ns) 2 512))
    (λ k h. let l : k < 512 = omega (arith, n) in each k l ∙ sym (run_at (byte_in ns) 0 2 512 k l ∙ ap (byte_in ns) (omega arith)))
