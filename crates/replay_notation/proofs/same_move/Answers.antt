-- The answer is that of the definition.
use mathlib.Core.Path.{ap, ◌∙◌}
use Rattle.boards.specs.declared.moves.Move.{Move}
use Rattle.replay_notation.proofs.RecordsCompared.{move_compared}
use Rattle.replay_notation.proofs.same_move.Goals as goal

pub returns : goal.returns
returns c =
    let a = c.args in
    move_compared a.words.now a.text.now _ c.parse_move-read.ensures _ _ _ _ _ c.question.ensures
    (rw c.number.ensures at c.number-2.ensures) (rw (c.from.ensures ∙ c.named_byte.ensures) at c.number-3.ensures)
    (rw (c.from-2.ensures ∙ ap (λ (m : Move). m.bits) c.unwrap_or-m.ensures) at c.number-4.ensures) c.is_whole.ensures
