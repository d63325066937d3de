-- The moves left, tried from where the loop stands, lead where the whole list leads, and their answers complete the list's.
use mathlib.Core.Path.{refl, sym, ap, ◌∙◌}
use Prim.Native.Nat.{◌+◌}
use lib.ListN.{drop, length-set}
use Rattle.game.specs.declared.Game.{Game}
use Rattle.game.specs.After.{games_after}
use Rattle.game.proofs.AfterList.{left_as_tried, games_more, games_all}
use Rattle.interface.proofs.CallsPlay.{answers_next, answers_end}
use Rattle.interface.proofs.position.play.Goals as goal

pub loop-i-preserved : goal.loop-i-preserved
loop-i-preserved c =
    let l = c.loop-i in
    let ms = c.args.moves.now in
    let made = c.make_move-made in
    let h = c.loop-i-test.true in
    let more = games_more l.game ms l.i 0 h in
    let said = c.number.ensures ∙ made.ensures.number in
    let left = c.unwrap_or-game.ensures ∙ left_as_tried l.game _ made.result made.ensures in (
      refl,
      simp length-set l.invariant.1,
      ap (λ (g : Game). games_after g (drop (l.i + 1) ms)) left ∙ more ∙ l.invariant.2,
      answers_next l.answers ms l.game _ l.i _ h said left ∙ l.invariant.3,
    )

pub returns : goal.returns
returns c =
    let l = c.loop-i in
    let ms = c.args.moves.now in (
      sym (games_all l.game ms l.i c.loop-i-test.false) ∙ l.invariant.2,
      answers_end l.answers ms _ l.game l.i c.loop-i-test.false l.invariant.3,
    )
