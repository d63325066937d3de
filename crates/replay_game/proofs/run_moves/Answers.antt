-- Whatever the moves left run to, all run to.
use mathlib.Core.Path.{◌≡◌, sym, subst}
use mathlib.Core.List.{List, [], ◌∷◌}
use Prim.Native.Nat.{ℕ, ◌+◌, ◌-◌, ◌%◌}
use native.Mathlib.Omega.{arith}
use lib.ListN.{get_or}
use Rattle.replay.specs.Agreement.{left_of}
use Rattle.replay_game.specs.Records.{moves_from, Runs}
use Rattle.replay_game.proofs.Records.{first_place, none_run, more_run}
use Rattle.replay_game.proofs.run_moves.Goals as goal

pub loop-at-init : goal.loop-at-init
loop-at-init c =
    let a = c.args in
    let n : a.from + a.count - a.from ≡ a.count = omega arith in
    λ q h. subst (λ (k : ℕ). Runs (left_of a.begun) a.start (moves_from a.words.now a.from k) q) n h

pub loop-at-preserved : goal.loop-at-preserved
loop-at-preserved c =
    let l = c.loop-at in
    let a = c.args in
    let one = subst (λ (n : ℕ). Runs (left_of l.run.compared) l.run.game (n % 256 ∷ []) c.tried-run.result) c.at.ensures
    c.tried-run.ensures in
    λ q h. l.invariant q (subst (λ (ms : List ℕ). Runs (left_of l.run.compared) l.run.game ms q)
    (sym (first_place (λ (j : ℕ). get_or a.words.now j 0 % 256) l.at (a.from + a.count - l.at) (a.from + a.count - (l.at + 1))
    (omega arith)))
    (more_run _ _ _ _ _ q one h))

pub returns : goal.returns
returns c =
    let l = c.loop-at in
    let a = c.args in
    let none : 0 ≡ a.from + a.count - l.at = omega arith in
    l.invariant l.run (subst (λ (k : ℕ). Runs (left_of l.run.compared) l.run.game (moves_from a.words.now l.at k) l.run)
    none (none_run l.run))
