-- At the end no move is left to add.
use mathlib.Core.Path.{sym, ◌∙◌}
use lib.ListN.{take, drop_of_length-le}
use Rattle.answer_text.proofs.AnswerBytesMoves.{some_shown}
use Rattle.answer_text.proofs.AnswerText.moves.Goals as goal

pub returns : goal.returns
returns c =
    let l = c.loop-m in
    let moves = take c.shown_moves.result c.args.line in
    rw (some_shown c.args.line _ c.shown_moves.ensures.value (sym c.is_empty.ensures ∙ c.if-is_empty.false))
    (rw (drop_of_length-le moves c.loop-m-test.false) at l.invariant)
