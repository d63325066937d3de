-- The tests are the definition's.
use native.Mathlib.Omega.{arith}
use Rattle.minimax.proofs.StateScores.{tested}
use Rattle.minimax.proofs.StateEntries.{bound_low, bound_high, bound_exact}
use Rattle.minimax.proofs.search.Node.bound_of.Goals as goal

pub returns-then-score-self : goal.returns-then-score-self
returns-then-score-self c =
    let a = c.args in
    bound_low a.self.alpha a.self.beta a.score (tested a.score a.self.alpha (omega arith) (omega arith) _ c.if-score-self.true)

pub returns-then-score-self-2 : goal.returns-then-score-self-2
returns-then-score-self-2 c =
    let a = c.args in
    bound_high a.self.alpha a.self.beta a.score (tested a.score a.self.alpha (omega arith) (omega arith) _ c.if-score-self.false)
    (tested a.self.beta a.score (omega arith) (omega arith) _ c.if-score-self-2.true)

pub returns-else-score-self-2 : goal.returns-else-score-self-2
returns-else-score-self-2 c =
    let a = c.args in
    bound_exact a.self.alpha a.self.beta a.score (tested a.score a.self.alpha (omega arith) (omega arith) _ c.if-score-self.false)
    (tested a.self.beta a.score (omega arith) (omega arith) _ c.if-score-self-2.false)
