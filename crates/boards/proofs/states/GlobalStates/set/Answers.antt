-- Over range nothing changes; else one bit more for each side that the state names.
use mathlib.Core.Path.{refl, ap, ◌∙◌}
use Prim.Native.Nat.{ℕ}
use Rattle.rules.specs.declared.GameState.TheVariants.{Won}
use Rattle.rules.specs.declared.Player.TheVariants.{X, O}
use lib.Bits.{bit_or}
use native.Mathlib.Omega.{arith}
use Rattle.base.proofs.Bits.{shl_one}
use Rattle.boards.proofs.With.{with_state_past, with_state_as}
use Rattle.boards.proofs.states.GlobalStates.set.Goals as goal

pub returns-then-board-gt8 : goal.returns-then-board-gt8
returns-then-board-gt8 c = with_state_past _ _ _ c.if-board-gt8.true

pub returns-in-InPlay : goal.returns-in-InPlay
returns-in-InPlay c = with_state_as _ _ _ _ _ (omega arith) c.in-InPlay.is refl

pub returns-in-Drawn : goal.returns-in-Drawn
returns-in-Drawn c =
    with_state_as _ _ _ _ _ (omega arith) c.in-Drawn.is
    (rw (shl_one 16 c.args.board (omega arith)))

pub returns-in-Won-X : goal.returns-in-Won-X
returns-in-Won-X c =
    with_state_as _ _ _ (Won X) _ (omega arith) (c.in-Won-X.is ∙ ap Won (rw c.in-Won-X.is at c.in-Won-X.field-0-is))
    (ap (λ (k : ℕ). record { x = bit_or c.args.self.x k; o = c.args.self.o }) (shl_one 16 c.args.board (omega arith)))

pub returns-in-Won-O : goal.returns-in-Won-O
returns-in-Won-O c =
    with_state_as _ _ _ (Won O) _ (omega arith) (c.in-Won-O.is ∙ ap Won (rw c.in-Won-O.is at c.in-Won-O.field-0-is))
    (ap (λ (k : ℕ). record { x = c.args.self.x; o = bit_or c.args.self.o k }) (shl_one 16 c.args.board (omega arith)))
