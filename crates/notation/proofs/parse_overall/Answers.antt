-- The marks before the next one are known, and say what is due so far.
use Rattle.std.specs.Prelude.{Err, None, Some}
use mathlib.Core.Path.{◌≡◌, ◌∙◌}
use lib.Dec.{eqb}
use lib.ListN.{get_or}
use borrow.Author.Tests.{eq-eqb, ne_eqb}
use Rattle.base.specs.Branch.{when◌then◌else◌}
use Rattle.text.specs.Bytes.{at_mark}
use Rattle.text.specs.Reading.{overall_mark}
use Rattle.notation.proofs.PartsOverall.{none_marked, bad_found, one_marked, all_marked}
use borrow.Author.Rules.{rules}
use native.Mathlib.Omega.{arith}
use Rattle.notation.proofs.parse_overall.Goals as goal
use Rattle.notation.proofs.parse_overall.Goals.{Joined-byte-eq64, then-byte-eq64, else-byte-eq64}

pub loop-board-init : goal.loop-board-init
loop-board-init c = (search rules, none_marked _)

pub returns-in_err-state : goal.returns-in_err-state
returns-in_err-state c =
    let l = c.loop-board in
    let e : c.from_residual.result ≡ Err c.at.result = search rules in
    let n : overall_mark (get_or c.args.overall.now l.board 0) ≡ None = search rules in
    rw e (record {
      i = l.board;
      first = bad_found _ _ _ _ c.requires l.invariant.1 (omega (arith, c.loop-board-test.true)) n;
      error_is = c.at.ensures;
    })

-- what is due after the mark
due : (c : Joined-byte-eq64) → let i = c.loop-board.board in c.if-byte-eq64.next_board ≡
    (when eqb (get_or c.args.overall.now i 0) at_mark then (λ _. Some i) else λ _. c.loop-board.next_board)
unfolding when◌then◌else◌
due c = elim c.if-byte-eq64.branch [
  | then-byte-eq64 w ↦ w.next_board-is ∙ rw (eq-eqb _ at_mark w.if-byte-eq64.true) (search rules)
  | else-byte-eq64 w ↦ w.next_board-is ∙ rw (ne_eqb _ at_mark w.if-byte-eq64.false)
]

pub loop-board-preserved : goal.loop-board-preserved
loop-board-preserved c = let l = c.loop-board in (
  omega (arith, c.loop-board-test.true),
  rw c.set-states.ensures (one_marked _ _ _ _ c.requires l.invariant.1 (omega (arith, c.loop-board-test.true)) _ (search rules) _ (due c)),
)

pub returns : goal.returns
returns c = let l = c.loop-board in let e : l.board ≡ 9 = omega arith in all_marked _ _ _ c.requires (rw e at l.invariant.1)
