-- Two letters, the first one first.
use Rattle.std.specs.Prelude.{Ok, Err}
use Rattle.std.proofs.lemmas.Grind.{common_steps}
use mathlib.Core.Path.{◌≡◌, sym}
use lib.ListN.{get_or}
use Rattle.notation.specs.Parts.{coordinate_of}
use Rattle.notation.proofs.ParsedMoves.{coordinate_small, names_itself, first_bad, second_bad, both_good}
use borrow.Author.Rules.{rules}
use native.Mathlib.Omega.{arith}
use Rattle.notation.proofs.parse_move.Goals as goal

pub returns-in_err-board : goal.returns-in_err-board
returns-in_err-board c =
    let e : c.from_residual.result ≡ Err c.in_err-board.field-0.0 = search rules in
    let n : coordinate_of (get_or c.args.text.now 0 0) ≡ Err c.in_err-board.field-0.0 = grind (arith, common_steps, names_itself) in
    rw e (first_bad _ (omega (arith, c.in-len2)) _ n)

pub returns-in_err-cell : goal.returns-in_err-cell
returns-in_err-cell c =
    let m : coordinate_of (get_or c.args.text.now 0 0) ≡ Ok c.in_ok-board.board = grind (arith, common_steps) in
    let e : c.from_residual-in_err-cell.result ≡ Err c.in_err-cell.field-0.0 = search rules in
    rw e (second_bad _ (omega (arith, c.in-len2)) _ m _ (sym c.in_err-cell.ensures))

pub overflow_mul-result : goal.overflow_mul-result
overflow_mul-result c =
    let b : coordinate_of (get_or c.args.text.now 0 0) ≡ Ok c.in_ok-board.board = grind (arith, common_steps) in
    let m = coordinate_small _ _ b in omega arith

pub overflow_add-result : goal.overflow_add-result
overflow_add-result c =
    let b : coordinate_of (get_or c.args.text.now 0 0) ≡ Ok c.in_ok-board.board = grind (arith, common_steps) in
    let m = coordinate_small _ _ b in let n = coordinate_small _ _ (sym c.in_ok-cell.ensures) in omega arith

pub returns : goal.returns
returns c =
    let b : coordinate_of (get_or c.args.text.now 0 0) ≡ Ok c.in_ok-board.board = grind (arith, common_steps) in
    both_good _ (omega (arith, c.in-len2)) _ b _ (sym c.in_ok-cell.ensures)
