use mathlib.Core.Path.{◌≡◌}
use lib.ListN.{drop}
use Rattle.line_buffer.specs.Buffer.{pushed_all}
use Rattle.line_buffer.proofs.LineBuffer.push_all.Given as goal

abbrev pub invariant-loop-b : goal.invariant-loop-b
invariant-loop-b l = pushed_all l.self (drop l.b-index l.bytes) ≡ pushed_all l.initial.self l.bytes
