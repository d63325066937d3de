-- Out of the critical boards, and in one; a due board over 8 is in no set and reads as empty.
use mathlib.Core.Path.{sym, ap, ◌∙◌}
use mathlib.Core.Bool.{not}
use Rattle.game.specs.Meaning.{position_of}
use Rattle.endgame.proofs.PartsAttack.{any_critical, known_critical, sends_suit, blockable, all_lose}
use Rattle.endgame.proofs.Critical.forced_loss.Goals as goal

pub returns-then-not-holds : goal.returns-then-not-holds
returns-then-not-holds c =
    let k = c.args.self in
    c.sends_to.ensures
    ∙ sends_suit (position_of k.pos) _ _ k.of_defender _ c.donebits.ensures _
    ∙ all_lose _ (any_critical _ _ _ k.of_defender c.if-self-eq0.false) _ (sym c.in-Some.ensures)
    (known_critical _ _ _ k.of_defender k.is_sound _ _ c.if-not-holds.ensures)

pub returns-else-not-holds : goal.returns-else-not-holds
returns-else-not-holds c =
    let k = c.args.self in
    ap not c.if-not-holds.false
    ∙ blockable _ (any_critical _ _ _ k.of_defender c.if-self-eq0.false) _ (sym c.in-Some.ensures)
    (known_critical _ _ _ k.of_defender k.is_sound _ _ c.if-not-holds.ensures)
