use Prim.Native.Nat.{◌≤◌}
use mathlib.Core.Path.{◌≡◌}
use lib.ListN.{drop}
use Rattle.base.specs.Lists.{all}
use Rattle.rules.specs.Board.{nine}
use Rattle.game.specs.Meaning.{position_of}
use Rattle.endgame.specs.Parts.{live}
use Rattle.endgame.proofs.all_live.Given as goal

abbrev pub invariant-loop-board : goal.invariant-loop-board
invariant-loop-board l =
    (l.board ≤ 9) × (all (live (position_of l.pos)) (drop l.board nine) ≡ all (live (position_of l.pos)) nine)
