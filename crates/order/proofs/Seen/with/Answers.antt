-- One bit more in one word.
use mathlib.Core.Path.{ap}
use Prim.Native.Nat.{ℕ, ◌/◌, ◌%◌}
use native.Mathlib.Omega.{arith}
use lib.Bits.{bit_or}
use lib.ListN.{get_or, set}
use Rattle.base.proofs.Bits.{shl_one}
use Rattle.order.specs.Order.{set_mark}
use Rattle.order.proofs.Seen.with.Goals as goal

pub returns : goal.returns
unfolding set_mark
returns c =
    let marks = c.args.self.marks in
    let m = c.args.m.bits in
    ap (λ (bit : ℕ). record { marks = set marks (m / 64) (bit_or (get_or marks (m / 64) 0) bit) }) (shl_one 64 (m % 64) (omega arith))
