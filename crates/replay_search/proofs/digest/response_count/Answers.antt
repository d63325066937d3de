-- The responses to X's moves, and those to O's.
use mathlib.Core.Bool.{Bool, not}
use Prim.Native.Nat.{ℕ}
use native.Mathlib.Omega.{arith}
use lib.Dec.{eqb}
use Rattle.std.proofs.lemmas.List.Sums.{sum_by-append}
use mathlib.Core.Bool.{cond}
use Rattle.rules.specs.Play.{no_move}
use Rattle.minimax.specs.Report.{bytes_of}
use Rattle.replay_search.proofs.Digests.{bytes_counted}
use Rattle.replay_search.proofs.digest.response_count.Goals as goal

abbrev is_response : ℕ → Bool
is_response m = not (eqb m no_move)

pub returns : goal.returns
returns c =
    let rs = c.args.state.responses in
    omega (
      arith,
      c.responses_to-2.ensures.0,
      c.responses_to.ensures.0,
      bytes_counted is_response rs.x,
      bytes_counted is_response rs.o,
      sum_by-append (λ m. cond (is_response m) 1 0) (bytes_of rs.x) (bytes_of rs.o),
    )
