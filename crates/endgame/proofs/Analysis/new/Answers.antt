-- Refused, finished or analysed.
use Rattle.std.specs.Prelude.{Err}
use mathlib.Core.Path.{◌≡◌, refl, sym, ap, ◌∙◌}
use Rattle.std.proofs.Common.{rules}
use denote.Floats.{passes}
use Rattle.rules.specs.Endgame.{merged, endgame_stats, or_unproven}
use Rattle.rules.proofs.Endgame.{analysis_finished}
use Rattle.status.specs.Sets.{status_of}
use Rattle.game.specs.declared.Game.{Game}
use Rattle.game.specs.Meaning.{position_of}
use Rattle.endgame.proofs.MeansAnswers.{analyses_as, analysis_refused, analysis_made, goes_on, passed_is_sound}
use Rattle.endgame.proofs.Analysis.new.Goals as goal

pub returns-in_err-check_sound : goal.returns-in_err-check_sound
returns-in_err-check_sound c =
    let e : c.from_residual.result ≡ Err c.in_err-check_sound.field-0.0 = search rules in
    rw e (analyses_as _ _ _ (analysis_refused (position_of c.args.pos) c.in_err-check_sound.ensures) refl refl refl)

pub returns-then-game_over : goal.returns-then-game_over
returns-then-game_over c =
    analyses_as _ _ _ (analysis_finished (position_of c.args.pos) (passes _ (sym c.if-game_over.ensures))) refl refl refl

pub of-requires : goal.of-requires
of-requires c =
    let p = position_of c.args.pos in passed_is_sound p (sym c.in_ok-check_sound.ensures) (goes_on p (sym c.if-game_over.ensures))

pub returns : goal.returns
returns c =
    let p = position_of c.args.pos in
    let t = goes_on p (sym c.if-game_over.ensures) in
    analyses_as _ _ _ (analysis_made p t (passed_is_sound p (sym c.in_ok-check_sound.ensures) t)) refl
    (c.analysis.ensures.0 ∙ ap (λ (g : Game). status_of (or_unproven (merged (position_of g)))) c.of.ensures)
    (c.analysis.ensures.1 ∙ ap (λ (g : Game). endgame_stats (position_of g)) c.of.ensures)
