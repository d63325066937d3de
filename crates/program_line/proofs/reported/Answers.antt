-- The number is 0 where the search was not refused.
use mathlib.Core.Path.{◌≡◌, sym, ap, ◌∙◌}
use mathlib.Core.List.{[]}
use mathlib.Core.Logic.{inl, inr}
use native.Mathlib.Omega.{arith}
use mir.Facts.{to_z-of_z}
use mir.Syntax.{w64}
use Rattle.status.specs.Sets.{set_of}
use Rattle.minimax.specs.Report.{ending_number, report_of}
use Rattle.answer_text.specs.AnswerBytes.{text_of_bytes}
use Rattle.program_line.proofs.Answered.{report_refused, report_whole}
use Rattle.program_line.proofs.reported.Goals as goal

pub returns-in-Refused : goal.returns-in-Refused
returns-in-Refused c =
    c.refused.ensures
    ∙ ap text_of_bytes (report_refused (set_of c.args.status) _ (report_of c.args.report []) c.in-Refused.why _ c.number.ensures
    (sym (ap ending_number c.in-Refused.is)))

pub returns-in-Whole : goal.returns-in-Whole
returns-in-Whole c =
    let s = set_of c.args.status in
    let r = report_of c.args.report [] in
    let number : r.number ≡ 0 = elim c.in-Whole.is [ inl e ↦ ap ending_number e | inr e ↦ ap ending_number e ] in
    let back = to_z-of_z {w = w64} {z = c.args.report.score} (record { sfits = omega arith }) in
    rw (c.answer.ensures, c.legal_moves.ensures, back)
    (ap text_of_bytes (report_whole s _ r number))
