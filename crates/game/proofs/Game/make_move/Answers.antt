-- An accepted move is played, and a refused one leaves the game.
use mathlib.Core.Path.{◌≡◌}
use lib.ListN.{length}
use Rattle.std.proofs.Common.{rules, Err}
use native.Mathlib.Omega.{arith}
use Rattle.game.proofs.After.{may_play, plays_accepted, plays_refused}
use Rattle.game.proofs.Game.make_move.Goals as goal

pub returns-in_err-check_move : goal.returns-in_err-check_move
returns-in_err-check_move c =
    let n : length c.args.self.local_boards.rows ≡ 3 = omega arith in
    let e : c.from_residual.result ≡ Err c.in_err-check_move.field-0.0 = search rules in
    rw e (plays_refused _ _ _ c.in_err-check_move.ensures n)

pub play-requires : goal.play-requires
play-requires c = may_play c.args.self c.args.m c.in_ok-check_move.ensures _ _ c.global.ensures c.local.ensures

pub returns : goal.returns
returns c =
    let n : length c.args.self.local_boards.rows ≡ 3 = omega arith in
    plays_accepted _ _ c.in_ok-check_move.ensures _ _ c.global.ensures c.local.ensures _ c.play.ensures n
