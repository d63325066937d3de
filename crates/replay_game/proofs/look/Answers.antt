-- The kind, the position, its cells, its states and the drawn boards.
use mathlib.Core.List.{[], ◌∷◌, ◌++◌}
use Rattle.base.specs.Bits.{digits}
use Rattle.rules.specs.Board.{drawn}
use Rattle.game.specs.Meaning.{position_of}
use Rattle.replay.specs.Agreement.{left_of}
use Rattle.replay_game.specs.Records.{position_numbers, cells_numbers, states_numbers, looked_numbers}
use Rattle.replay_game.proofs.Records.{joined, whole_record}
use Rattle.replay_game.proofs.look.Goals as goal

pub returns : goal.returns
returns c =
    let ns = c.args.words.now in
    let g = c.game_in-g.result in
    let p = position_of g in
    let last = digits (λ b. drawn (p.states b)) 9 ∷ [] in
    let k = left_of c.number-kind.result in
    let one = left_of c.position.result in
    let two = left_of c.cells.result in
    let three = left_of c.states-looked.result in
    let r = left_of c.number-all.result in
    let all = joined (left_of c.new.result) k r (10 ∷ []) (position_numbers g ++ (cells_numbers p ++ (states_numbers p ++ last)))
    c.number-kind.ensures
    (joined k one r (position_numbers g) (cells_numbers p ++ (states_numbers p ++ last)) c.position.ensures
    (joined one two r (cells_numbers p) (states_numbers p ++ last) c.cells.ensures
    (joined two three r (states_numbers p) last c.states-looked.ensures
    (rw (c.number-all.ensures, c.drawbits.ensures))))) in
    rw (← c.game_in-g.ensures)
    (whole_record ns (10 ∷ looked_numbers g) r c.is_whole.result _ (rw c.new.ensures at all) c.is_whole.ensures c.of.ensures)
