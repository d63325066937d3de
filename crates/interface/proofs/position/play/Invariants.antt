use mathlib.Core.Path.{◌≡◌}
use lib.ListN.{length, drop}
use lib.Seq.{sets}
use Rattle.game.specs.After.{games_after, answers_each}
use Rattle.interface.proofs.position.play.Given as goal

abbrev pub invariant-loop-i : goal.invariant-loop-i
invariant-loop-i l =
    (l.i-end ≡ length l.moves) × (length l.answers ≡ length l.initial.answers) ×
    (games_after l.game (drop l.i l.moves) ≡ games_after l.initial.game l.moves) ×
    (sets l.answers l.i (answers_each l.game (drop l.i l.moves)) ≡ sets l.initial.answers 0 (answers_each l.initial.game l.moves))
