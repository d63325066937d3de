-- Those left, compared from where the loop stands, lead where all lead.
use mathlib.Core.Path.{◌≡◌, ap, ◌∙◌}
use Prim.Native.Nat.{ℕ, ◌+◌, ◌-◌, ◌%◌}
use native.Mathlib.Omega.{arith}
use lib.ListN.{get_or}
use Rattle.replay.specs.Agreement.{left_of, compared, compared_all}
use Rattle.replay_game.specs.Records.{moves_from}
use Rattle.replay_game.proofs.Records.{place_compared, places_compared}
use Rattle.replay_game.proofs.asked.Goals as goal

pub loop-at-init : goal.loop-at-init
loop-at-init c =
    let a = c.args in
    let n : a.from + a.count - a.from ≡ a.count = omega arith in
    ap (λ (k : ℕ). compared_all (left_of a.begun) (moves_from a.words.now a.from k)) n

pub loop-at-preserved : goal.loop-at-preserved
loop-at-preserved c =
    let l = c.loop-at in
    let a = c.args in
    place_compared (λ (j : ℕ). get_or a.words.now j 0 % 256) (left_of l.compared) _ _ l.at (a.from + a.count - l.at)
    (a.from + a.count - (l.at + 1)) (omega arith)
    (c.number-compared.ensures ∙ ap (λ (n : ℕ). compared (left_of l.compared) (n % 256)) c.at.ensures) l.invariant

pub returns : goal.returns
returns c =
    let l = c.loop-at in
    let a = c.args in
    places_compared (λ (j : ℕ). get_or a.words.now j 0 % 256) _ _ l.at (a.from + a.count - l.at) (omega arith) l.invariant
