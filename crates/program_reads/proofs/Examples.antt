-- Lines worked out: an empty one counts, a last one without a line feed counts, nothing after a line feed does not.
use mathlib.Core.Path.{◌≡◌, refl}
use mathlib.Core.List.{[], ◌∷◌}
use Rattle.base.specs.Branch.{when◌then◌else◌}
use Rattle.program_reads.specs.Lines.{split, input_lines}

pub no_line : input_lines [] ≡ []
unfolding split
no_line = refl

pub last_without_feed : input_lines (97 ∷ 98 ∷ 10 ∷ 10 ∷ 99 ∷ []) ≡ (97 ∷ 98 ∷ []) ∷ [] ∷ (99 ∷ []) ∷ []
unfolding split when◌then◌else◌
last_without_feed = refl

pub last_with_feed : input_lines (97 ∷ 13 ∷ 10 ∷ 10 ∷ []) ≡ (97 ∷ 13 ∷ []) ∷ [] ∷ []
unfolding split when◌then◌else◌
last_with_feed = refl
