-- The tests are the definition's, in its order.
use mathlib.Core.Path.{sym, ◌∙◌}
use Rattle.base.specs.Branch.{when◌then◌else◌}
use Rattle.minimax.specs.Report.{settings_of}
use Rattle.minimax.proofs.ReportRefusals.{no_depth, too_deep, no_allowance, too_many, not_threes, too_long, weights_decide}
use Rattle.minimax.proofs.Config.check.Goals.{then-self-eq0-via-then-self-eq0, then-self-eq0-via-else-self-eq0+then-self-gt-DEEPEST}
use Rattle.minimax.proofs.Config.check.Goals.{
  then-self-eq0-2-via-then-self-eq0-2,
  then-self-eq0-2-via-else-self-eq0-2+then-self-gt-MOST_POSITIONS,
}
use Rattle.minimax.proofs.Config.check.Goals.{then-words-ne0-via-then-words-ne0, then-words-ne0-via-else-words-ne0+then-words-gt-MOST_WORDS}
use Rattle.minimax.proofs.Config.check.Goals as goal

pub returns-then-self-eq0 : goal.returns-then-self-eq0
returns-then-self-eq0 c = elim c.then-self-eq0.branch [
  | then-self-eq0-via-then-self-eq0 w ↦ no_depth (settings_of c.args.self) c.args.words w.if-self-eq0.true
  | then-self-eq0-via-else-self-eq0+then-self-gt-DEEPEST w ↦ too_deep (settings_of c.args.self) c.args.words w.if-self-eq0.false
      w.if-self-gt-DEEPEST.true
]

pub returns-then-self-eq0-2 : goal.returns-then-self-eq0-2
returns-then-self-eq0-2 c = let s = settings_of c.args.self in elim c.then-self-eq0-2.branch [
  | then-self-eq0-2-via-then-self-eq0-2 w ↦ no_allowance s c.args.words c.if-self-eq0.false c.if-self-gt-DEEPEST.false
      w.if-self-eq0-2.true
  | then-self-eq0-2-via-else-self-eq0-2+then-self-gt-MOST_POSITIONS w ↦ too_many s c.args.words c.if-self-eq0.false
      c.if-self-gt-DEEPEST.false w.if-self-eq0-2.false w.if-self-gt-MOST_POSITIONS.true
]

pub returns-then-words-ne0 : goal.returns-then-words-ne0
returns-then-words-ne0 c = let s = settings_of c.args.self in elim c.then-words-ne0.branch [
  | then-words-ne0-via-then-words-ne0 w ↦ not_threes s c.args.words c.if-self-eq0.false c.if-self-gt-DEEPEST.false
      c.if-self-eq0-2.false c.if-self-gt-MOST_POSITIONS.false w.if-words-ne0.true
  | then-words-ne0-via-else-words-ne0+then-words-gt-MOST_WORDS w ↦ too_long s c.args.words c.if-self-eq0.false
      c.if-self-gt-DEEPEST.false c.if-self-eq0-2.false c.if-self-gt-MOST_POSITIONS.false w.if-words-ne0.false
      w.if-words-gt-MOST_WORDS.true
]

-- the weights decide where all before them passed
pub returns-then-not-are_accepted : goal.returns-then-not-are_accepted
unfolding when◌then◌else◌
returns-then-not-are_accepted c =
    weights_decide (settings_of c.args.self) c.args.words c.if-self-eq0.false c.if-self-gt-DEEPEST.false
    c.if-self-eq0-2.false c.if-self-gt-MOST_POSITIONS.false c.if-words-ne0.false c.if-words-gt-MOST_WORDS.false
    (sym c.are_accepted.ensures ∙ c.if-not-are_accepted.true)

pub returns : goal.returns
unfolding when◌then◌else◌
returns c =
    weights_decide (settings_of c.args.self) c.args.words c.if-self-eq0.false c.if-self-gt-DEEPEST.false
    c.if-self-eq0-2.false c.if-self-gt-MOST_POSITIONS.false c.if-words-ne0.false c.if-words-gt-MOST_WORDS.false
    (sym c.are_accepted.ensures ∙ c.if-not-are_accepted.false)
