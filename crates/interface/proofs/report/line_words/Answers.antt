-- Each move's byte.
use Rattle.std.proofs.Common.{rules}
use native.Mathlib.Omega.{arith}
use Rattle.minimax.specs.Report.{byte_of}
use Rattle.interface.proofs.CallsReport.{each_made}
use Rattle.interface.proofs.report.line_words.Goals as goal

pub returns : goal.returns
returns c =
    each_made _ _ byte_of c.args.line (record { bits = 0 }) (λ i y q k. search rules) _ _ (omega arith) c.from_fn.ensures.items
