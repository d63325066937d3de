use mathlib.Core.Path.{◌≡◌}
use mathlib.Core.Bool.{true}
use lib.ListN.{length}
use Rattle.line_buffer.specs.Taking.{buffered}
use Rattle.program_reads.specs.Promises.{fed}
use Rattle.ultimattt.proofs.feed.Given as goal

-- a line that ends in what is left is one that ends in all
abbrev pub invariant-loop-text : goal.invariant-loop-text
invariant-loop-text l =
    (fed l.program l.left ≡ fed l.initial.program l.initial.left) ×
    ((buffered l.program.line l.left).found ≡ true → (buffered l.initial.program.line l.initial.left).found ≡ true)

abbrev pub decreases-loop-text : goal.decreases-loop-text
decreases-loop-text l = length l.left
