-- By the kind.
use mathlib.Core.Path.{sym, ◌∙◌}
use borrow.Author.Rules.{rules}
use Rattle.base.specs.Branch.{when◌then◌else◌}
use Rattle.replay_game.specs.Records.{comparison_of}
use Rattle.replay_game.proofs.comparison.Goals as goal

pub returns-in-1 : goal.returns-in-1
unfolding comparison_of when◌then◌else◌
returns-in-1 c = rw (c.play_from_start.ensures, sym c.at.ensures ∙ c.in-1.is)

pub returns-in-2 : goal.returns-in-2
unfolding comparison_of when◌then◌else◌
returns-in-2 c = rw (c.play_from_position.ensures, sym c.at.ensures ∙ c.in-2.is)

pub returns-in-3 : goal.returns-in-3
unfolding comparison_of when◌then◌else◌
returns-in-3 c = rw (c.equivalence.ensures, sym c.at.ensures ∙ c.in-3.is)

pub returns-in-10 : goal.returns-in-10
unfolding comparison_of when◌then◌else◌
returns-in-10 c = rw (c.look.ensures, sym c.at.ensures ∙ c.in-10.is)

pub returns-in-11 : goal.returns-in-11
unfolding comparison_of when◌then◌else◌
returns-in-11 c = rw (c.coordinates.ensures, sym c.at.ensures ∙ c.in-11.is)

pub returns-in_default : goal.returns-in_default
unfolding comparison_of when◌then◌else◌
returns-in_default c =
    rw (← c.at.ensures) (search rules)
