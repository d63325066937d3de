-- A record of the evaluation, and what is found of it: a position's text, the draw winner and the score, parted by tabs.
use Rattle.std.specs.Prelude.{Bool, false, ◌&&◌, List, ℕ, eqb, ℤ, pos, negsuc, Option, Some, None}
use Rattle.base.specs.Branch.{when◌then◌else◌}
use Rattle.rules.specs.Evaluation.{default_weights, scoring_with, evaluate}
use Rattle.rules.specs.declared.Player.{Player}
use Rattle.text.specs.Reading.{Reading, reads, refuses, read}
use Rattle.decimals.specs.Numbers.{read_signed}
use Rattle.replay.specs.declared.totals.Comparison.{Comparison}
use Rattle.replay.specs.declared.totals.Comparison.TheVariants.{Agrees, Differs}
use Rattle.replay.specs.Draws.{draw_of}
use Rattle.replay.specs.Fields.{field, tabs}

abbrev pub same_integer : ℤ → ℤ → Bool
same_integer (pos m) (pos n) = eqb m n
same_integer (negsuc m) (negsuc n) = eqb m n
same_integer (pos m) (negsuc n) = false
same_integer (negsuc m) (pos n) = false

-- a text says a score
abbrev pub is_score : Option ℤ → ℤ → Bool
is_score (Some z) score = same_integer z score
is_score None score = false

-- the score is that of a position, with this draw winner and the default weights
abbrev pub is_evaluation : Reading → Option (Option Player) → Option ℤ → Bool
is_evaluation (refuses n offset size) draw said = false
is_evaluation (reads p) None said = false
is_evaluation (reads p) (Some w) said = is_score said (evaluate (scoring_with w default_weights) p)

-- what three fields say
abbrev pub agrees : List ℕ → List ℕ → List ℕ → Bool
agrees position draw score = is_evaluation (read position) (draw_of draw) (read_signed score)

-- of a line: it agrees if it has three fields, and they do
unfoldable pub outcome_of : List ℕ → Comparison
outcome_of line =
    when eqb (tabs line) 2 && agrees (field 0 line) (field 1 line) (field 2 line) then (λ _. Agrees) else
    λ _. Differs
