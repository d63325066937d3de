-- Those left, compared from where the loop stands, lead where all lead.
use mathlib.Core.Path.{refl}
use native.Mathlib.Omega.{arith}
use Rattle.replay.specs.Agreement.{left_of}
use Rattle.replay_game.proofs.Records.{place_compared, places_compared, in_range_board}
use Prim.Native.Nat.{◌+◌, ◌-◌}
use Rattle.rules.specs.declared.GameState.TheVariants.{InPlay}
use Rattle.game.specs.Meaning.{position_of}
use Rattle.replay_game.specs.Records.{states_numbers}
use Rattle.replay_game.proofs.states.Invariants.{number_at}
use Rattle.replay_game.proofs.states.Goals as goal

pub loop-b-init : goal.loop-b-init
unfolding states_numbers
loop-b-init c = refl

pub loop-b-preserved : goal.loop-b-preserved
unfolding states_numbers
loop-b-preserved c =
    let l = c.loop-b in
    let a = c.args in
    let g = a.g in
    place_compared (number_at g) (left_of l.compared) _ _ l.b (9 - l.b) (9 - (l.b + 1)) (omega arith)
    (rw (
      c.number-compared.ensures,
      c.from.ensures,
      c.unwrap_or-state.ensures,
      c.board_state.ensures,
      in_range_board ((position_of g).states l.b) InPlay l.b (omega arith),
    )) l.invariant

pub returns : goal.returns
unfolding states_numbers
returns c =
    let l = c.loop-b in
    let a = c.args in
    let g = a.g in
    places_compared (number_at g) _ _ l.b (9 - l.b) (omega arith) l.invariant
