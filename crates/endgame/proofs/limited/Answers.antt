-- A side that can win takes nothing away; else the two sets are merged, if there are two.
use mathlib.Core.Path.{sym, ap, ◌∙◌}
use Rattle.std.specs.Prelude.{option_map}
use Rattle.status.specs.Sets.{status_of}
use Rattle.endgame.proofs.MeansStatuses.{narrow_can, narrow_set, narrow_none}
use Rattle.endgame.proofs.limited.Goals as goal

pub returns-then-can : goal.returns-then-can
returns-then-can c = record { narrowed = λ t s l e. e ∙ ap (option_map status_of) (narrow_can _ t s c.if-can.true) }

pub returns-in_err-proven : goal.returns-in_err-proven
returns-in_err-proven c = record { narrowed = λ t s l e. c.from_residual.ensures ∙ narrow_none _ _ t s l (sym c.in_err-proven.was ∙ e) }

pub returns-in_ok-proven : goal.returns-in_ok-proven
returns-in_ok-proven c =
    record { narrowed = λ t s l e. c.merge.ensures ∙ narrow_set _ _ t s l c.if-can.false _ (sym c.in_ok-proven.was ∙ e) }
