-- What was read, if there is room.
use Rattle.interface.specs.Position.{words_of}
use Rattle.interface.specs.Lent.{Puts}
use Rattle.game.specs.declared.Game.{Game}
use Rattle.std.specs.Result.{result_unwrap_or}
use mathlib.Core.Path.{ap, ◌∙◌, subst}
use lib.Seq.{sets}
use Rattle.interface.proofs.Calls.{reads_short, reads_no_place, reads_well}
use Rattle.interface.proofs.ultimattt_read.Goals as goal

pub returns-then-position-lt12 : goal.returns-then-position-lt12
returns-then-position-lt12 c =
    let s = c.args in
    reads_short s.text.now s.position.now s.place.now c.if-position-lt12.true

pub returns-then-place-lt2 : goal.returns-then-place-lt2
returns-then-place-lt2 c =
    let s = c.args in
    reads_no_place s.text.now s.position.now s.place.now c.if-position-lt12.false c.if-place-lt2.true

pub returns : goal.returns
returns c =
    let s = c.args in
    reads_well s.text.now s.position.now s.place.now _ _ _ _ c.parse-parsed.ensures c.if-position-lt12.false c.if-place-lt2.false
    (subst (λ (g : Game). Puts s.position.now (words_of g) 12 c.put.new.out)
    (c.unwrap_or.ensures ∙ ap (result_unwrap_or c.parse-parsed.result) c.new.ensures) c.put.ensures)
    (c.put-2.ensures ∙ ap (sets s.place.now 0) c.place.ensures) c.number.ensures
