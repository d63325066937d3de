use Rattle.input.proofs.Lines.{Went}
use Rattle.input.proofs.Input.next_line.Given as goal

abbrev pub invariant-loop-turn : goal.invariant-loop-turn
invariant-loop-turn l = Went l._turn l.fn.self l.fn.buffer l.fn.kept l.self l.line l.buffer l.kept
