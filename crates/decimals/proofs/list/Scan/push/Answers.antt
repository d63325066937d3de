-- The ways of a byte.
use Rattle.decimals.proofs.Lists.{goes_on, nothing, room, no_room}
use Rattle.decimals.proofs.list.Scan.push.Goals.{in_default-via-in-Some+else-self-words, in_default-via-in_default}
use Rattle.decimals.proofs.list.Scan.push.Goals as goal

pub returns-then-b-ne32 : goal.returns-then-b-ne32
returns-then-b-ne32 c = let a = c.args in goes_on a.self a.b a.words.now _ c.if-b-ne32.true c.longer.ensures

pub returns-in-Some : goal.returns-in-Some
returns-in-Some c =
    let a = c.args in room a.self a.b a.words.now c.in-Some.number c.if-b-ne32.false c.in-Some.is c.if-self-words.true

pub returns-in_default : goal.returns-in_default
returns-in_default c =
    let a = c.args in
    elim c.in_default.branch [
      | in_default-via-in-Some+else-self-words w ↦
          no_room a.self a.b a.words.now _ w.in-Some.number c.if-b-ne32.false w.in-Some.is w.if-self-words.false c.spoilt.ensures
      | in_default-via-in_default w ↦ nothing a.self a.b a.words.now _ c.if-b-ne32.false w.in_default.is c.spoilt.ensures
    ]
