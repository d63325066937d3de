-- The four numbers; the move is built, since both are below 9.
use mathlib.Core.Path.{ap, ◌∙◌}
use mathlib.Core.List.{[], ◌∷◌}
use Prim.Native.Nat.{ℕ, ◌%◌}
use native.Mathlib.Omega.{arith}
use Rattle.std.specs.Prelude.{Some}
use Rattle.rules.specs.Play.{move_of}
use Rattle.boards.specs.declared.moves.Move.{Move}
use Rattle.replay.specs.Agreement.{left_of, compared_all}
use Rattle.replay_game.proofs.Records.{in_range_cell, whole_record}
use Rattle.replay_game.proofs.coordinates.Goals as goal

pub returns : goal.returns
returns c =
    let ns = c.args.words.now in
    let b = c.at-board.result in
    let k = c.at-cell.result in
    let m = c.bits.ensures ∙ ap (λ (m : Move). m.bits) (rw (c.unwrap_or-m.ensures, c.from_coords.ensures)
    (in_range_cell (record { bits = move_of (b % 9) (k % 9) }) (record { bits = 255 }) (b % 9) (k % 9) (omega arith) (omega arith))) in
    whole_record ns _ (left_of c.numbers-all.result) c.is_whole.result _
    (rw (← c.at-board.ensures, ← c.at-cell.ensures) ((rw c.new.ensures at c.numbers-all.ensures)
    ∙ ap (λ (n : ℕ). compared_all (Some ns) (11 ∷ b % 9 ∷ k % 9 ∷ n ∷ [])) m))
    c.is_whole.ensures c.of.ensures
