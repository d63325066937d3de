-- The state is what its two digits say.
use mathlib.Core.Path.{sym}
use mathlib.Core.Bool.{true, false}
use native.Mathlib.Omega.{arith}
use Rattle.boards.proofs.Packed.{state_past, reads_state}
use Rattle.boards.proofs.states.GlobalStates.at.Goals as goal

pub returns-then-board-gt8 : goal.returns-then-board-gt8
returns-then-board-gt8 c = sym (state_past _ _ c.if-board-gt8.true)

pub returns-in-true-true : goal.returns-in-true-true
returns-in-true-true c = reads_state _ _ true true (omega arith) c.in-true-true.is-0 c.in-true-true.is-1

pub returns-in-true-false : goal.returns-in-true-false
returns-in-true-false c = reads_state _ _ true false (omega arith) c.in-true-false.is-0 c.in-true-false.is-1

pub returns-in-false-true : goal.returns-in-false-true
returns-in-false-true c = reads_state _ _ false true (omega arith) c.in-false-true.is-0 c.in-false-true.is-1

pub returns-in-false-false : goal.returns-in-false-false
returns-in-false-false c = reads_state _ _ false false (omega arith) c.in-false-false.is-0 c.in-false-false.is-1
