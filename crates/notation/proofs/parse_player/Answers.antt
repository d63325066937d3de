-- One byte names the side.
use mathlib.Core.Path.{◌≡◌, sym, ◌∙◌}
use lib.ListN.{get_or}
use Rattle.base.specs.Branch.{when◌then◌else◌}
use Rattle.text.specs.Reading.{side_of}
use Rattle.text.proofs.ReadingScan.{lone_byte}
use Rattle.notation.proofs.PartsMarks.{no_side}
use borrow.Author.Rules.{rules}
use native.Mathlib.Omega.{arith}
use Rattle.notation.proofs.parse_player.Goals as goal

pub returns-in-88 : goal.returns-in-88
unfolding side_of when◌then◌else◌
returns-in-88 c =
    let e : get_or c.args.side.now 0 0 ≡ 0x58 = search rules in sym (lone_byte c.args.side.now (omega (arith, c.in-88)) ∙ rw e)

pub returns-in-79 : goal.returns-in-79
unfolding side_of when◌then◌else◌
returns-in-79 c =
    let e : get_or c.args.side.now 0 0 ≡ 0x4f = search rules in sym (lone_byte c.args.side.now (omega (arith, c.in-79)) ∙ rw e)

pub returns-in_default-2 : goal.returns-in_default-2
returns-in_default-2 c = sym (lone_byte c.args.side.now (omega (arith, c.in_default)) ∙ no_side _ (search rules) (search rules))
