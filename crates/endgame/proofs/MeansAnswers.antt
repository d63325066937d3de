-- The answers of the public functions, case by case: refused, finished or analysed; and a move refused, called lost or not.
use Rattle.std.specs.Prelude.{Result}
use mathlib.Core.Path.{◌≡◌, refl, sym, ap, ◌∙◌}
use mathlib.Core.Bool.{Bool, true, false, not, ◌&&◌}
use mathlib.Core.List.{[], ◌∷◌}
use mathlib.Core.Logic.{inl, inr}
use Prim.Native.Nat.{ℕ, ◌<◌}
use native.Mathlib.Omega.{arith}
use lib.Dec.{T, T_not, not_T}
use borrow.Author.Tests.{not-true, not-false}
use denote.Floats.{passes}
use Rattle.base.specs.Branch.{when◌then◌else◌}
use Rattle.base.specs.Lists.{all}
use Rattle.base.specs.Checks.{all_pass, first_failed}
use Rattle.base.proofs.Bool.{is, and→, →and, not_not}
use Rattle.base.proofs.Checks.{all_pass_0, 0_all_pass}
use Rattle.rules.specs.Position.{Position, unfinished}
use Rattle.rules.specs.Play.{cell_of, play}
use Rattle.rules.specs.Sound.{sound}
use Rattle.rules.specs.Status.{unproven}
use Rattle.rules.specs.Endgame.{merged, no_endgame_stats, endgame_stats, or_unproven, Analysis as Analysed, analysis_checks, analysis}
use Rattle.rules.specs.Endgame.{Judged, judge, evaluate_move}
use Rattle.rules.specs.Refusal.{answer_number}
use Rattle.rules.proofs.Play.{accepts→}
use Rattle.rules.proofs.Endgame.{analysis_cases, analysis_unsound, evaluate_unsound, evaluate_refused, evaluate_judged}
use Rattle.status.specs.declared.Status.{Status}
use Rattle.status.specs.Sets.{status_of}
use Rattle.boards.specs.declared.moves.Move.{Move}
use Rattle.game.specs.declared.Game.{Game}
use Rattle.game.specs.Meaning.{position_of}
use Rattle.game.specs.After.{refusal}
use Rattle.game.proofs.AfterRefusals.{first_is_refusal, nought_accepts, refused_not_accepts}
use Rattle.endgame.specs.declared.Unsound.{Unsound}
use Rattle.endgame.specs.declared.Analysis.{Analysis}
use Rattle.endgame.specs.declared.MoveStatusError.{MoveStatusError}
use Rattle.endgame.specs.Means.{unsound_number, move_status_number, analysis_status, analysis_stats, move_status, Analyses, Judges}

-- ---- what is asked of a position
module _ (p : Position) where
  pub passed_finished : not (unfinished p) ≡ true → 0 ≡ first_failed (analysis_checks p)
  unfolding first_failed when◌then◌else◌
  passed_finished e = rw (not-true (unfinished p) e) refl

  pub passed_sound : sound p ≡ true → 0 ≡ first_failed (analysis_checks p)
  unfolding first_failed when◌then◌else◌
  passed_sound e = rw e (go (unfinished p))
    where
      go : (u : Bool) → 0 ≡ first_failed ((not (u && false), 14) ∷ [])
      go true = refl
      go false = refl

  pub failed_unsound : not (unfinished p) ≡ false → sound p ≡ false → 14 ≡ first_failed (analysis_checks p)
  unfolding first_failed when◌then◌else◌
  failed_unsound e n = rw (not-false (unfinished p) e, n) refl

  failed : 14 ≡ first_failed (analysis_checks p) → T (unfinished p && not (sound p))
  unfolding all_pass all
  failed e = elim (is (unfinished p && not (sound p))) [
    | inl t ↦ t
    | inr f ↦ absurd (omega (arith, e ∙ all_pass_0 (analysis_checks p) (→and (not (unfinished p && not (sound p))) true f tt)))
  ]

  pub passed : first_failed (analysis_checks p) ≡ 0 → T (not (unfinished p && not (sound p)))
  unfolding all_pass all
  passed z = (and→ (not (unfinished p && not (sound p))) _ (0_all_pass (analysis_checks p) tt z)).0

  pub goes_on : not (unfinished p) ≡ false → T (unfinished p)
  goes_on e = passes (unfinished p) (not-false (unfinished p) e)

  pub passed_is_sound : first_failed (analysis_checks p) ≡ 0 → T (unfinished p) → T (sound p)
  passed_is_sound z t =
      not_not (sound p) (not_T (not (sound p)) (λ n. T_not (unfinished p && not (sound p)) (passed z) (→and (unfinished p) _ t n)))

pub ruleset soundness = (passed_finished, passed_sound, failed_unsound)

-- ---- an unfinished sound position, and one that is refused
pub analysis_made : (p : Position) → T (unfinished p) → T (sound p) →
    analysis p ≡ record { refusal = 0; status = or_unproven (merged p); stats = endgame_stats p }
analysis_made p t u = analysis_cases p (λ a. a ≡ record { refusal = 0; status = or_unproven (merged p); stats = endgame_stats p })
    (λ v. absurd (T_not (unfinished p) v t)) (λ _ _. refl) (λ _ v. absurd (T_not (sound p) v u))

pub analysis_refused : (p : Position) → 14 ≡ first_failed (analysis_checks p) → analysis p
    ≡ record { refusal = 14; status = unproven; stats = no_endgame_stats }
analysis_refused p e = let r = and→ (unfinished p) _ (failed p e) in analysis_unsound p r.0 r.1

-- ---- what the code returns, against a case of the analysis
pub analyses_as : (g : Game) (r : Result Analysis Unsound) (a : Analysed) → analysis (position_of g) ≡ a →
    answer_number unsound_number r ≡ a.refusal → analysis_status r ≡ status_of a.status → analysis_stats r ≡ a.stats →
    Analyses g r
analyses_as g r a e n s c = record {
  refusal = n ∙ sym (ap (λ (x : Analysed). x.refusal) e);
  status = s ∙ sym (ap (λ (x : Analysed). status_of x.status) e);
  stats = c ∙ sym (ap (λ (x : Analysed). x.stats) e);
}

pub judges_as : (g : Game) (m : Move) (r : Result Status MoveStatusError) (a : Judged) →
    evaluate_move (position_of g) m.bits ≡ a → answer_number move_status_number r ≡ a.refusal → move_status r ≡ status_of a.status →
    Judges g m r
judges_as g m r a e n s = record {
  number = n ∙ sym (ap (λ (x : Judged). x.refusal) e);
  status = s ∙ sym (ap (λ (x : Judged). status_of x.status) e);
}

-- ---- a move, tried
module _ (p : Position) (m : ℕ) where
  pub tried_first : 14 ≡ first_failed (analysis_checks p) → evaluate_move p m ≡ record { refusal = 14; status = unproven }
  tried_first e = evaluate_unsound p m (failed p e)

  module _ (z : first_failed (analysis_checks p) ≡ 0) where
    pub may_judge : refusal (play p m) ≡ 0 → T (sound p) × (cell_of m < 9)
    may_judge a = let l = accepts→ p m (nought_accepts p m a) in (passed_is_sound p z l.unfinished, l.cell)

    pub judged_played : refusal (play p m) ≡ 0 → evaluate_move p m ≡ record { refusal = 0; status = judge p m }
    judged_played a = evaluate_judged p m (passed p z) (nought_accepts p m a)

    pub judged_refused : (n : ℕ) → 0 < n → n ≡ refusal (play p m) → evaluate_move p m
        ≡ record { refusal = n; status = unproven }
    judged_refused n h q = evaluate_refused p m (passed p z) (refused_not_accepts p m (λ a. omega (arith, q ∙ a)))
        ∙ ap (λ (k : ℕ). record { refusal = k; status = unproven }) (first_is_refusal p m ∙ sym q)
