-- The second move is the response, or lacking one the variation's.
use mathlib.Core.Path.{ap, ◌∙◌}
use Prim.Native.Nat.{ℕ}
use Rattle.theory.specs.Memory.{some_move}
use Rattle.minimax.proofs.StateOutcomes.{order_candidates}
use Rattle.minimax.proofs.search.Node.order.Goals as goal

pub returns : goal.returns
returns c =
    λ words. order_candidates c.args.self c.args.state.now words c.args.pv.now _ _ (c.response_to-response.ensures words)
    (c.unless_empty.ensures ∙ ap (λ (n : ℕ). some_move n) (c.first.ensures _ c.requires.0)) c.args.first
    c.or-second.ensures c.new.ensures
