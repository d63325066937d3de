-- The kind, the two positions, and the two answers.
use mathlib.Core.Bool.{cond}
use mathlib.Core.List.{List, [], ◌∷◌, ◌++◌}
use Prim.Native.Nat.{ℕ}
use Rattle.rules.specs.Compare.{equivalent}
use Rattle.game.specs.Meaning.{position_of}
use Rattle.replay.specs.Agreement.{left_of}
use Rattle.replay.proofs.AgreementCompared.{truth_number}
use Rattle.replay_game.specs.Records.{position_numbers, equivalence_record}
use Rattle.replay_game.proofs.Records.{joined, whole_record}
use Rattle.replay_game.proofs.equivalence.Goals as goal

pub returns : goal.returns
returns c =
    let ns = c.args.words.now in
    let g = c.game_in-a.result in
    let h = c.game_in-b.result in
    let p = position_of g in
    let q = position_of h in
    let last : List ℕ = cond (equivalent p q) 1 0 ∷ cond (equivalent q p) 1 0 ∷ [] in
    let k = left_of c.number-kind.result in
    let one = left_of c.position.result in
    let two = left_of c.position-positions.result in
    let r = left_of c.numbers-all.result in
    let all = joined (left_of c.new.result) k r (3 ∷ []) (position_numbers g ++ (position_numbers h ++ last)) c.number-kind.ensures
    (joined k one r (position_numbers g) (position_numbers h ++ last) c.position.ensures
    (joined one two r (position_numbers h) last c.position-positions.ensures
    (rw (
      c.numbers-all.ensures,
      c.from.ensures,
      c.from-2.ensures,
      c.equivalent.ensures,
      c.equivalent-2.ensures,
      truth_number (equivalent p q),
      truth_number (equivalent q p),
    )))) in
    rw (← c.game_in-b.ensures, ← c.game_in-a.ensures)
    (whole_record ns (equivalence_record g h) r c.is_whole.result _ (rw c.new.ensures at all) c.is_whole.ensures c.of.ensures)
