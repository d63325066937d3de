-- The boards from the loop's on are live exactly if all are, as those before it are.
use mathlib.Core.Path.{◌≡◌, refl, sym, ◌∙◌}
use native.Mathlib.Omega.{arith}
use Rattle.base.specs.Lists.{all}
use Rattle.game.specs.Meaning.{position_of}
use Rattle.endgame.specs.Parts.{live}
use Rattle.endgame.proofs.PartsSound.{board_fails, board_passes}
use borrow.Author.Rules.{rules}
use Rattle.endgame.proofs.all_live.Goals as goal

pub loop-board-init : goal.loop-board-init
loop-board-init c = (search rules, refl)

pub returns-then-not-is_live : goal.returns-then-not-is_live
returns-then-not-is_live c =
    board_fails (live (position_of c.args.pos)) _ c.loop-board-test.true _ c.loop-board.invariant.1
    (sym c.is_live.ensures ∙ c.if-not-is_live.true)

pub loop-board-preserved : goal.loop-board-preserved
loop-board-preserved c = (
  search rules,
  board_passes (live (position_of c.args.pos)) _ c.loop-board-test.true _ c.loop-board.invariant.1
      (sym c.is_live.ensures ∙ c.if-not-is_live.false),
)

pub returns : goal.returns
unfolding all
returns c = let e : c.loop-board.board ≡ 9 = omega arith in rw e at c.loop-board.invariant.1
