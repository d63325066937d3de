-- The entry has the score, its bound and the variation's first move.
use mathlib.Core.Path.{refl, ap, ◌∙◌}
use lib.IntN.{ℤ}
use native.Mathlib.Omega.{arith}
use Rattle.theory.specs.Table.{bound_of}
use Rattle.minimax.proofs.StateScores.{told}
use Rattle.minimax.proofs.StateOutcomes.{told_found}
use Rattle.minimax.proofs.search.Node.store.Goals as goal

pub returns : goal.returns
returns c =
    let a = c.args.self in
    let z = told c.args.score (omega arith) in
    λ s. told_found a s c.args.pv.now c.args.score _ _ _ _ c.zobrist.ensures c.store.ensures z refl
    (c.bound_of.ensures ∙ ap (λ (y : ℤ). bound_of a.alpha a.beta y) z) (c.first.ensures _ c.requires.0)
