-- Each way out is an answer of reading three sections.
use Rattle.std.specs.Prelude.{Err, Some}
use mathlib.Core.Path.{◌≡◌, ap, ◌∙◌}
use Rattle.text.specs.Reading.{lone_side}
use Rattle.notation.specs.declared.ErrorKind.TheVariants.{TooFewSquares, BadBoard}
use Rattle.game.specs.Built.{recalculated}
use Rattle.notation.proofs.ParsedAnswers.{refusal_gives, fault_read, cells_read, marks_not_nine, mark_bad, cells_bad}
use Rattle.notation.proofs.ParsedAnswers.{all_good, accepted_gives}
use borrow.Author.Rules.{rules}
use Rattle.notation.proofs.parse_sections.Goals as goal

pub returns-then-overall-ne9 : goal.returns-then-overall-ne9
returns-then-overall-ne9 c =
    let a = c.args in
    let side_is : lone_side a.side.now ≡ Some c.in_ok-next_player.next_player = search rules in
    refusal_gives _ _ TooFewSquares _ _ c.at-then-overall-ne9.ensures
    (marks_not_nine a.side.now a.overall.now a.cells.now _ side_is c.if-overall-ne9.true)

pub returns-in_err-global_states : goal.returns-in_err-global_states
returns-in_err-global_states c =
    let a = c.args in
    let side_is : lone_side a.side.now ≡ Some c.in_ok-next_player.next_player = search rules in
    let e : c.from_residual-in_err-global_states.result ≡ Err c.in_err-global_states.field-0.0 = search rules in
    let r = c.in_err-global_states.ensures in
    rw e (refusal_gives _ _ BadBoard _ _ r.error_is
    (mark_bad a.side.now a.overall.now a.cells.now _ side_is c.if-overall-ne9.false r.i r.first))

pub returns-in_err-local_boards : goal.returns-in_err-local_boards
returns-in_err-local_boards c =
    let a = c.args in
    let side_is : lone_side a.side.now ≡ Some c.in_ok-next_player.next_player = search rules in
    let e : c.from_residual-in_err-local_boards.result ≡ Err c.in_err-local_boards.field-0.0 = search rules in
    let r = fault_read _ _ c.parse_cells.ensures c.map_err.result (search rules) _ c.in_err-local_boards.was in
    rw e (refusal_gives _ _ r.0 _ _ r.2
    (cells_bad a.side.now a.overall.now a.cells.now _ side_is c.if-overall-ne9.false c.in_ok-global_states.ensures.none_bad r.0 r.1))

pub returns : goal.returns
returns c =
    let a = c.args in
    let side_is : lone_side a.side.now ≡ Some c.in_ok-next_player.next_player = search rules in
    let marks_are = c.in_ok-global_states.ensures in
    let r = cells_read _ _ c.parse_cells.ensures c.map_err.result (search rules) _ c.in_ok-local_boards.was in
    let nine = c.if-overall-ne9.false in
    accepted_gives _ _ _ _ _ _ nine marks_are r _ _
    (all_good a.side.now a.overall.now a.cells.now _ side_is nine marks_are.none_bad r.faultless)
    (c.recalc_winner.ensures ∙ ap recalculated c.pack-game.ensures)
