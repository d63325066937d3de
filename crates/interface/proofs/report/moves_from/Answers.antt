-- A move of each byte.
use Rattle.std.proofs.Common.{rules}
use mathlib.Core.Path.{refl}
use Prim.Native.Nat.{ℕ, ◌+◌}
use lib.ListN.{get_or}
use Rattle.interface.proofs.CallsReport.{moves_made}
use Rattle.interface.proofs.report.moves_from.Goals as goal

pub returns : goal.returns
returns c =
    let bs = c.args.bytes.now in
    moves_made _ _ (λ (i : ℕ). get_or bs (c.args.at + i) 0) (λ i y q k. search rules) c.from_fn.result bs c.args.at 256 c.requires
    c.from_fn.ensures.items (λ k l. refl)
