-- The moves left, compared from where the loop stands, lead where all lead.
use mathlib.Core.Path.{sym, ap, ◌∙◌}
use mathlib.Core.List.{List}
use Prim.Native.Nat.{ℕ}
use Rattle.std.specs.Prelude.{Option}
use Rattle.replay.specs.Agreement.{left_of, compared, compared_all}
use Rattle.boards.specs.Cursor.{moves_left}
use Rattle.replay_game.proofs.listed.Goals as goal

pub loop-m-preserved : goal.loop-m-preserved
loop-m-preserved c =
    let l = c.loop-m in
    ap (λ (q : Option (List ℕ)). compared_all q (moves_left c.next.new.self))
    (c.number-compared.ensures ∙ ap (compared (left_of l.compared)) c.from.ensures)
    ∙ sym (ap (compared_all (left_of l.compared)) c.in-Some.ensures.steps.0) ∙ l.invariant
