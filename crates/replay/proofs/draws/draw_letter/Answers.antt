-- Three bytes, and no other.
use Rattle.std.proofs.Common.{rules}
use borrow.Author.Tests.{ne_eqb}
use Rattle.base.specs.Branch.{when◌then◌else◌}
use Rattle.replay.specs.Draws.{draw_letter}
use Rattle.replay.proofs.draws.draw_letter.Goals as goal

pub returns-in-45 : goal.returns-in-45
unfolding draw_letter when◌then◌else◌
returns-in-45 c = rw c.in-45.is

pub returns-in-88 : goal.returns-in-88
unfolding draw_letter when◌then◌else◌
returns-in-88 c = rw c.in-88.is

pub returns-in-79 : goal.returns-in-79
unfolding draw_letter when◌then◌else◌
returns-in-79 c = rw c.in-79.is

pub returns-in_default : goal.returns-in_default
unfolding draw_letter when◌then◌else◌
returns-in_default c =
    let b = c.args.b in
    rw (ne_eqb b 0x2d (search rules), ne_eqb b 0x58 (search rules), ne_eqb b 0x4f (search rules))
