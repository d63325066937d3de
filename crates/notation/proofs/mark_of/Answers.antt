-- The five overall marks, and no other byte.
use Rattle.std.proofs.Common.{rules}
use mathlib.Core.Path.{sym}
use mathlib.Core.Logic.{⊎_elim}
use Rattle.notation.proofs.PartsMarks.{no_mark}
use Rattle.text.specs.Reading.{side_of, overall_mark}
use Rattle.base.specs.Branch.{when◌then◌else◌}
use Rattle.notation.proofs.mark_of.Goals as goal

pub returns-in-88 : goal.returns-in-88
unfolding overall_mark side_of when◌then◌else◌
returns-in-88 c = rw c.in-88.is

pub returns-in-79 : goal.returns-in-79
unfolding overall_mark side_of when◌then◌else◌
returns-in-79 c = rw c.in-79.is

pub returns-in-35 : goal.returns-in-35
unfolding overall_mark side_of when◌then◌else◌
returns-in-35 c = rw c.in-35.is

pub returns-in-46 : goal.returns-in-46
unfolding overall_mark side_of when◌then◌else◌
returns-in-46 c = ⊎_elim (λ e. rw e) (λ e. rw e) c.in-46.is

pub returns-in_default : goal.returns-in_default
returns-in_default c = sym (no_mark _ (search rules) (search rules) (search rules) (search rules) (search rules))
