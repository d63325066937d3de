-- Refused as unsound, refused by play, or judged.
use Rattle.std.specs.Prelude.{Err}
use mathlib.Core.Path.{◌≡◌, refl, sym}
use Rattle.std.proofs.Common.{rules}
use Rattle.endgame.specs.declared.MoveStatusError.TheVariants.{Unsound as NotSound, Refused}
use Rattle.game.specs.Meaning.{position_of}
use Rattle.boards.proofs.Answers.{error_not_0}
use Rattle.endgame.proofs.MeansAnswers.{judges_as, tried_first, may_judge, judged_played, judged_refused}
use Rattle.endgame.proofs.evaluate_move.Goals as goal

pub returns-in_err-check_sound : goal.returns-in_err-check_sound
returns-in_err-check_sound c =
    let e : c.from_residual.result ≡ Err NotSound = search rules in
    rw e (judges_as _ _ _ _ (tried_first (position_of c.args.game) _ c.in_err-check_sound.ensures) refl refl)

pub returns-in_err-make_move : goal.returns-in_err-make_move
returns-in_err-make_move c =
    let why = c.in_err-make_move.field-0.0 in
    let e : c.from_residual-in_err-make_move.result ≡ Err (Refused why) = search rules in
    rw e (judges_as _ _ _ _ (judged_refused (position_of c.args.game) _ (sym c.in_ok-check_sound.ensures) _ (error_not_0 why)
    c.in_err-make_move.ensures.number) refl refl)

pub move_status-requires : goal.move_status-requires
move_status-requires c =
    may_judge (position_of c.args.game) _ (sym c.in_ok-check_sound.ensures) (sym c.in_ok-make_move.ensures.number)

pub returns : goal.returns
returns c =
    judges_as _ _ _ _ (judged_played (position_of c.args.game) _ (sym c.in_ok-check_sound.ensures) (sym c.in_ok-make_move.ensures.number))
    refl c.move_status.ensures
