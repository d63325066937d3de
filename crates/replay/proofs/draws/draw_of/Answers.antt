-- The text's one byte.
use native.Mathlib.Omega.{arith}
use lib.ListN.{length}
use borrow.Author.Tests.{eq-eqb, ne_eqb}
use Rattle.base.specs.Branch.{when◌then◌else◌}
use Rattle.replay.specs.Draws.{draw_of}
use Rattle.replay.proofs.draws.draw_of.Goals as goal

pub returns-in_default : goal.returns-in_default
unfolding draw_of when◌then◌else◌
returns-in_default c = rw (ne_eqb (length c.args.text.now) 1 (λ q. omega (arith, c.in_default.len_below)))

pub returns-in_default-2 : goal.returns-in_default-2
unfolding draw_of when◌then◌else◌
returns-in_default-2 c = rw (ne_eqb (length c.args.text.now) 1 (λ q. omega (arith, c.in_default.len_at_least)))

pub returns : goal.returns
unfolding draw_of when◌then◌else◌
returns c =
    let l = c.in-len1 in
    rw (eq-eqb (length c.args.text.now) 1 (omega (arith, l.len_at_least, l.len_below))) c.draw_letter.ensures
