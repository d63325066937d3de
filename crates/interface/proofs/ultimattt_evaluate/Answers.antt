-- Each refusal in turn, or what the evaluation gives.
use mathlib.Core.Path.{sym, ap, ◌∙◌}
use mathlib.Core.List.{[], ◌∷◌}
use Prim.Native.Nat.{ℕ}
use lib.Seq.{sets}
use mir.Facts.{to_z-of_z}
use mir.Syntax.{w64}
use native.Mathlib.Omega.{arith}
use Rattle.theory.specs.Table.{to_word}
use Rattle.interface.proofs.Calls.{evaluates_none, evaluates_no_draws, evaluates_few_weights, evaluates_no_score, evaluates_well}
use Rattle.interface.proofs.Calls.{value_given}
use Rattle.interface.proofs.ultimattt_evaluate.Goals as goal

pub returns-then-not-is_position : goal.returns-then-not-is_position
returns-then-not-is_position c =
    let s = c.args in
    evaluates_none s.position.now s.draw_winner s.weights.now s.score.now
    (sym c.is_position.ensures ∙ c.if-not-is_position.true)

pub returns-then-draw_winner-gt2 : goal.returns-then-draw_winner-gt2
returns-then-draw_winner-gt2 c =
    let s = c.args in
    evaluates_no_draws s.position.now s.draw_winner s.weights.now s.score.now
    (sym c.is_position.ensures ∙ c.if-not-is_position.false) c.if-draw_winner-gt2.true

pub returns-then-weights-lt3 : goal.returns-then-weights-lt3
returns-then-weights-lt3 c =
    let s = c.args in
    evaluates_few_weights s.position.now s.draw_winner s.weights.now s.score.now
    (sym c.is_position.ensures ∙ c.if-not-is_position.false) c.if-draw_winner-gt2.false c.if-weights-lt3.true

pub returns-then-score-lt1 : goal.returns-then-score-lt1
returns-then-score-lt1 c =
    let s = c.args in
    evaluates_no_score s.position.now s.draw_winner s.weights.now s.score.now
    (sym c.is_position.ensures ∙ c.if-not-is_position.false) c.if-draw_winner-gt2.false c.if-weights-lt3.false c.if-score-lt1.true

pub returns : goal.returns
returns c =
    let s = c.args in
    evaluates_well s.position.now s.draw_winner s.weights.now s.score.now
    (sym c.is_position.ensures ∙ c.if-not-is_position.false) c.if-draw_winner-gt2.false c.if-weights-lt3.false c.if-score-lt1.false
    c.game_from.result c.game_from.ensures c.draws_from.result c.draws_from.ensures
    c.weights_from.result c.weights_from.ensures c.evaluate-found.result c.evaluate-found.ensures
    _ _ (c.put.ensures ∙ ap (λ (z : ℕ). sets s.score.now 0 (z ∷ [])) (c.to_word.ensures ∙ ap to_word
    (to_z-of_z {w = w64} {z = c.unwrap_or.result} (record { sfits = omega arith }) ∙ c.unwrap_or.ensures
    ∙ value_given c.evaluate-found.result))) c.number.ensures
