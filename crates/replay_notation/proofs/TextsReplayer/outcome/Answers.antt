-- The words hold the list of numbers that the line is, if it is one.
use mathlib.Core.Path.{sym, ap, ◌∙◌}
use Rattle.decimals.proofs.ListsHeld.{none_read, some_read}
use Rattle.replay_notation.specs.Records.{comparison_for}
use Rattle.replay_notation.proofs.TextsReplayer.outcome.Goals as goal

pub returns-in_default : goal.returns-in_default
returns-in_default c =
    sym (ap comparison_for (none_read c.args.line.now _ _ _ c.numbers.ensures c.in_default.is))

pub returns : goal.returns
returns c =
    c.comparison.ensures ∙ sym
    (ap comparison_for (some_read c.args.line.now _ _ _ c.numbers.ensures _ c.in-Some.is))
