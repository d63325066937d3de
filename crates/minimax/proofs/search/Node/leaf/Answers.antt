-- It is entered and evaluated, where a position more may be entered.
use mathlib.Core.List.{[]}
use native.Mathlib.Omega.{arith}
use Rattle.base.proofs.Signed.{result}
use Rattle.minimax.proofs.StateSteps.{leaf_reached}
use Rattle.minimax.proofs.StateEntering.{may_leaf, stop_gives, leaf_gives}
use Rattle.minimax.proofs.search.Node.leaf.Goals as goal

pub returns-then-state-self : goal.returns-then-state-self
returns-then-state-self c = λ l words. stop_gives c.args.self c.args.state.now l words c.if-state-self.true

pub overflow_add-state : goal.overflow_add-state
overflow_add-state c =
    let h = may_leaf c.args.self c.args.state.now c.enter.new.self c.requires.0 c.requires.1 c.if-state-self.false (c.enter.ensures []) in
    omega (arith, h)

pub returns : goal.returns
returns c =
    λ l words. leaf_gives c.args.self c.args.state.now l words c.if-state-self.false c.enter.new.self c.enter.ensures _
    (leaf_reached c.enter.new.self) c.requires.2 _ (result c.evaluate.type_inv c.evaluate.ensures)
