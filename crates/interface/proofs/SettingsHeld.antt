-- The weights that the engine's struct holds do for the words: accepted ones are held as they are, and the others are refused alike.
use Rattle.std.specs.Prelude.{Option}
use mathlib.Core.Path.{◌≡◌, refl, sym, ap, ◌∙◌, subst}
use mathlib.Core.Bool.{Bool, true, false}
use mathlib.Core.List.{List}
use Prim.Native.Nat.{ℕ, ◌≤◌, min}
use native.Mathlib.Omega.{arith}
use lib.Dec.{T, leb, leb→le, le→leb}
use lib.ListN.{length, get_or, drop}
use denote.Floats.{passes}
use borrow.Author.Tests.{ne_eqb}
use Rattle.rules.specs.declared.Player.{Player}
use Rattle.base.proofs.ListsAgree.{same_by}
use Rattle.rules.specs.declared.Weights.{Weights}
use Rattle.rules.specs.Position.{Position}
use Rattle.rules.specs.Evaluation.{accepted_weights, scoring_with, evaluated}
use Rattle.rules.proofs.Evaluation.{score_most, accepted_most, evaluated_refused}
use Rattle.theory.specs.Memory.{Responses}
use Rattle.theory.specs.Reported.{Settings, entry_refusal, Reported, refused_entry, reported}
use Rattle.game.specs.declared.Game.{Game}
use Rattle.minimax.specs.declared.Minimax.{Minimax}
use Rattle.minimax.specs.Structs.{structs}
use Rattle.minimax.specs.Report.{reported_of, responses_of}
use Rattle.minimax.proofs.ReportRefusals.{limits, turned_reported}
use Rattle.interface.specs.Settings.{draws_from, weights_from, settings_from, scoring_from, held_weights, config_from}

held_within : (n : ℕ) → leb (min n 65535) 1000 ≡ leb n 1000
held_within n =
    same_by _ _ (λ t. let h = leb→le (min n 65535) 1000 t in le→leb n 1000 (omega arith))
    (λ t. let h = leb→le n 1000 t in le→leb (min n 65535) 1000 (omega arith))

pub held_accepted : (w : Weights) → accepted_weights (held_weights w) ≡ accepted_weights w
unfolding accepted_weights
held_accepted w = rw (held_within w.one, held_within w.two, held_within w.board)

pub accepted_held : (w : Weights) → accepted_weights w ≡ true → held_weights w ≡ w
accepted_held w e =
    let h : score_most w ≤ 216000 = accepted_most w (passes _ e) in
    let one : min w.one 65535 ≡ w.one = omega arith in
    let two : min w.two 65535 ≡ w.two = omega arith in
    let board : min w.board 65535 ≡ w.board = omega arith in
    rw (one, two, board)

-- so what is the same of refused weights is the same of all
held_same : {A : Type 0} (f : Weights → A) (w : Weights) → (accepted_weights w ≡ false → f (held_weights w) ≡ f w) →
    f (held_weights w) ≡ f w
held_same f w refused = by (accepted_weights w) refl
  where
    by : (b : Bool) → accepted_weights w ≡ b → f (held_weights w) ≡ f w
    by true e = ap f (accepted_held w e)
    by false e = refused e

-- ---- the evaluation
pub held_evaluated : (d : Option Player) (w : Weights) (p : Position) →
    evaluated (scoring_with d (held_weights w)) p ≡ evaluated (scoring_with d w) p
held_evaluated d w p = held_same (λ v. evaluated (scoring_with d v) p) w λ e.
    evaluated_refused (scoring_with d (held_weights w)) p (held_accepted w ∙ e) ∙ sym (evaluated_refused (scoring_with d w) p e)

-- ---- the search: refused by one number, since 15, 16 and 17 do not look at the weights
module _ (d : Option Player) (depth allowance : ℕ) (g : Game) (rs : Responses) (words : List ℕ) where
  abbrev asked : Weights → Settings
  asked w = record { max_depth = depth; allowance = allowance; weights = w }

  abbrev told : Weights → Reported
  told w = reported (structs (scoring_with d w)) (asked w) g rs words

  not_begun : (w : Weights) → accepted_weights w ≡ false → told w ≡ refused_entry (entry_refusal (asked w) (length words)) rs words
  not_begun w e = turned_reported (structs (scoring_with d w)) (asked w) g rs words
      (ne_eqb _ 0 λ z. subst T e (limits (asked w) (length words) (sym z)).2)

  same_number : (w : Weights) (n : ℕ) → entry_refusal (asked (held_weights w)) n ≡ entry_refusal (asked w) n
  unfolding entry_refusal
  same_number w n = rw (held_accepted w)

  held_reported : (w : Weights) → told (held_weights w) ≡ told w
  held_reported w = held_same told w λ e.
      not_begun (held_weights w) (held_accepted w ∙ e)
      ∙ ap (λ (n : ℕ). refused_entry n rs words) (same_number w (length words))
      ∙ sym (not_begun w e)

-- ---- words, read and held
pub settings_reported : (ws : List ℕ) (m : Minimax) (g : Game) (words : List ℕ) →
    reported_of m g (config_from ws) words
    ≡ reported (structs (scoring_from ws)) (settings_from ws) g (responses_of m.responses) words
settings_reported ws m g words =
    held_reported (draws_from (get_or ws 2 0)) (get_or ws 0 0) (get_or ws 1 0) g (responses_of m.responses) words (weights_from (drop 3 ws))
