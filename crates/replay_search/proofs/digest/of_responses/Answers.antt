-- The responses to X's moves, then those to O's.
use mathlib.Core.Path.{sym, ap, ◌∙◌}
use Prim.Native.Nat.{ℕ}
use Rattle.std.proofs.lemmas.List.Sums.{fold-append}
use Rattle.minimax.specs.Report.{bytes_of}
use Rattle.replay_search.specs.Digests.{mixed, mixed_all}
use Rattle.replay_search.proofs.digest.of_responses.Goals as goal

pub returns : goal.returns
returns c =
    let rs = c.args.state.responses in
    c.mixed_moves-2.ensures ∙ ap (λ (h : ℕ). mixed_all h (bytes_of rs.o)) c.mixed_moves.ensures
    ∙ sym (fold-append mixed 14695981039346656037 (bytes_of rs.x) (bytes_of rs.o))
