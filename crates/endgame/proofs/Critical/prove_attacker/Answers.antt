-- With a critical board to play in, and by a lure; a due board over 8 is in no set and reads as empty.
use mathlib.Core.Path.{sym, ◌∙◌}
use Rattle.game.specs.Meaning.{position_of}
use Rattle.endgame.proofs.PartsAttack.{any_critical, known_critical, attack_here, attack_by_lure, lures}
use Rattle.endgame.proofs.Critical.prove_attacker.Goals as goal

pub returns-then-holds : goal.returns-then-holds
returns-then-holds c =
    let k = c.args.self in
    attack_here _ (any_critical _ _ _ k.of_attacker c.if-self-eq0.false) _ (sym c.in-Some.ensures)
    (known_critical _ _ _ k.of_attacker k.is_sound _ _ c.if-holds.ensures)

pub returns : goal.returns
returns c =
    let k = c.args.self in
    c.any_sends_to.ensures
    ∙ lures (position_of k.pos) _ _ _ _ _ _ k.of_attacker k.of_defender c.donebits.ensures c.dests_of-dests.ensures
    ∙ attack_by_lure _ (any_critical _ _ _ k.of_attacker c.if-self-eq0.false) _ (sym c.in-Some.ensures)
    (known_critical _ _ _ k.of_attacker k.is_sound _ _ c.if-holds.ensures)
