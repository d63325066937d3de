-- Refused at the entry, or searched.
use mathlib.Core.Path.{sym, ap, ◌∙◌}
use Rattle.minimax.specs.Structs.{structs}
use Rattle.rules.specs.Refusal.{answer_number}
use Rattle.minimax.specs.Report.{search_error_number, scoring_of, settings_of}
use Rattle.minimax.proofs.ReportRefusals.{limits, refused_reported, accepted_reported}
use Rattle.minimax.proofs.Minimax.analyze.Goals as goal

pub deepen-requires : goal.deepen-requires
deepen-requires c =
    limits (settings_of c.args.config) _
    (sym (ap (answer_number search_error_number) c.in-Ok.is) ∙ c.check.ensures)

pub returns-in-Err : goal.returns-in-Err
returns-in-Err c =
    c.refused.ensures _ ∙ refused_reported (structs (scoring_of c.args.config)) (settings_of c.args.config) c.args.game _ _
    c.in-Err.why (sym (ap (answer_number search_error_number) c.in-Err.is)
    ∙ c.check.ensures)

pub returns-in-Ok : goal.returns-in-Ok
returns-in-Ok c =
    c.deepen.ensures ∙ accepted_reported (structs (scoring_of c.args.config)) (settings_of c.args.config)
    c.args.game _ _ (sym (ap (answer_number search_error_number) c.in-Ok.is)
    ∙ c.check.ensures)
