-- The entry's refusals, by the tests that the code makes.
use mathlib.Core.Path.{◌≡◌, refl, sym, subst}
use mathlib.Core.Bool.{Bool, true, false, not, ◌&&◌}
use mathlib.Core.List.{List}
use mathlib.Core.Logic.{inl, inr}
use Prim.Native.Nat.{ℕ, ◌%◌, ◌≤◌, ◌<◌}
use native.Mathlib.Omega.{arith}
use lib.Dec.{T, leb, eqb, leb→le}
use lib.ListN.{length}
use borrow.Author.Tests.{le-leb, lt-leb, eq-eqb, ne_eqb}
use Rattle.base.specs.Branch.{when◌then◌else◌}
use Rattle.base.specs.Lists.{all}
use Rattle.base.specs.Checks.{all_pass, first_failed}
use Rattle.base.proofs.Bool.{and→, is}
use Rattle.base.proofs.Checks.{all_pass_0, 0_all_pass, failed_number}
use Rattle.rules.specs.Evaluation.{accepted_weights}
use Rattle.theory.specs.Limits.{console}
use Rattle.theory.specs.Game.{Game}
use Rattle.theory.specs.Memory.{Responses, fresh_memory}
use Rattle.theory.specs.OrderedSearch.{at_most}
use Rattle.theory.specs.Deepening.{analyze}
use Rattle.theory.specs.Reported.{Settings, entry_checks, entry_refusal, report, refused_entry, reported}
use Rattle.minimax.specs.declared.SearchError.{SearchError}
use Rattle.minimax.specs.declared.SearchError.TheVariants.{Depth, Allowance, Words, Weights, Spent}
use Rattle.minimax.specs.Completed.{refused_with}
use Rattle.minimax.specs.Report.{search_error_number, is_spent}

-- a number from 1 to k
abbrev from_1 : ℕ → ℕ → Bool
from_1 n k = leb 1 n && leb n k

within : (n k : ℕ) → (n ≡ 0 → ⊥) → n ≤ k → from_1 n k ≡ true
within n k h g = rw (le-leb 1 n (omega arith), le-leb n k g)

none : (n k : ℕ) → n ≡ 0 → from_1 n k ≡ false
none n k h = rw (lt-leb 1 n (omega arith))

beyond : (n k : ℕ) → (n ≡ 0 → ⊥) → k < n → from_1 n k ≡ false
beyond n k h g = rw (le-leb 1 n (omega arith), lt-leb n k g)

module _ (c : Settings) (words : ℕ) where
  refused_15 : from_1 c.max_depth console.deepest ≡ false → ◌≡◌ {A = ℕ} 15 (entry_refusal c words)
  unfolding entry_refusal first_failed when◌then◌else◌
  refused_15 e = rw e

  pub no_depth : c.max_depth ≡ 0 → ◌≡◌ {A = ℕ} 15 (entry_refusal c words)
  no_depth h = refused_15 (none _ console.deepest h)

  module _ (d : c.max_depth ≡ 0 → ⊥) where
    pub too_deep : console.deepest < c.max_depth → ◌≡◌ {A = ℕ} 15 (entry_refusal c words)
    too_deep h = refused_15 (beyond _ console.deepest d h)

    module _ (k : c.max_depth ≤ console.deepest) where
      refused_16 : from_1 c.allowance console.positions ≡ false →
          ◌≡◌ {A = ℕ} 16 (entry_refusal c words)
      unfolding entry_refusal first_failed when◌then◌else◌
      refused_16 e = rw (within _ console.deepest d k, e)

      pub no_allowance : c.allowance ≡ 0 → ◌≡◌ {A = ℕ} 16 (entry_refusal c words)
      no_allowance h = refused_16 (none _ console.positions h)

      module _ (a : c.allowance ≡ 0 → ⊥) where
        pub too_many : console.positions < c.allowance → ◌≡◌ {A = ℕ} 16 (entry_refusal c words)
        too_many h = refused_16 (beyond _ console.positions a h)

        module _ (b : c.allowance ≤ console.positions) where
          pub not_threes : (words % 3 ≡ 0 → ⊥) → ◌≡◌ {A = ℕ} 17 (entry_refusal c words)
          unfolding entry_refusal first_failed when◌then◌else◌
          not_threes h = rw (within _ console.deepest d k, within _ console.positions a b, ne_eqb (words % 3) 0 h)

          module _ (z : words % 3 ≡ 0) where
            pub too_long : console.words < words → ◌≡◌ {A = ℕ} 17 (entry_refusal c words)
            unfolding entry_refusal first_failed when◌then◌else◌
            too_long h =
                rw (
                  within _ console.deepest d k,
                  within _ console.positions a b,
                  eq-eqb (words % 3) 0 z,
                  lt-leb words console.words h,
                )

            pub weights_decide : words ≤ console.words → {b : Bool} → accepted_weights c.weights ≡ b →
                (when b then (λ _. 0) else λ _. 20) ≡ entry_refusal c words
            unfolding entry_refusal first_failed when◌then◌else◌
            weights_decide h e =
                rw (
                  within _ console.deepest d k,
                  within _ console.positions a b,
                  eq-eqb (words % 3) 0 z,
                  le-leb words console.words h,
                  e,
                )

at_most_is : (n k : ℕ) → T (from_1 n k) → n ≤ k
at_most_is n k t = leb→le n k (and→ (leb 1 n) (leb n k) t).1

at_least_one : (n k : ℕ) → T (from_1 n k) → 1 ≤ n
at_least_one n k t = leb→le 1 n (and→ (leb 1 n) (leb n k) t).0

-- ---- what an answer of it means
module _ (c : Settings) (words : ℕ) where
  abbrev checks : List (Bool × ℕ)
  checks = entry_checks console c words

  -- 0 is said where all pass
  module _ (e : 0 ≡ entry_refusal c words) where
    passed : T (all_pass checks)
    unfolding entry_refusal all
    passed = 0_all_pass checks tt (sym e)

    pub limits : (c.max_depth ≤ console.deepest) × (c.allowance ≤ console.positions) × T (accepted_weights c.weights)
    unfolding all_pass all
    limits =
        let t = and→ (from_1 c.max_depth console.deepest) _ passed in
        let u = and→ (from_1 c.allowance console.positions) _ t.1 in
        let v = and→ (eqb (words % 3) 0 && leb words console.words) _ u.1 in
        let w = and→ (accepted_weights c.weights) _ v.1 in
        (at_most_is _ console.deepest t.0, at_most_is _ console.positions u.0, w.0)

    pub some_depth : 1 ≤ c.max_depth
    unfolding all_pass all
    some_depth = at_least_one _ console.deepest (and→ (from_1 c.max_depth console.deepest) _ passed).0

  -- it is never 18
  not_18 : 18 ≡ entry_refusal c words → ⊥
  unfolding entry_refusal all
  not_18 e = elim (is (all_pass checks)) [
    | inl t ↦ omega (arith, all_pass_0 checks t)
    | inr t ↦ subst (λ (n : ℕ). T (not (eqb n 18))) (sym e) (failed_number (λ n. not (eqb n 18)) checks tt t)
  ]

  not_spent : (e : SearchError) → search_error_number e ≡ entry_refusal c words → is_spent e ≡ false
  not_spent Depth q = refl
  not_spent Allowance q = refl
  not_spent Words q = refl
  not_spent Weights q = refl
  not_spent Spent q = absurd (not_18 q)

not_nought : (e : SearchError) → search_error_number e ≡ 0 → ⊥
not_nought Depth q = omega arith
not_nought Allowance q = omega arith
not_nought Words q = omega arith
not_nought Weights q = omega arith
not_nought Spent q = omega arith

module _ (G : Game) (c : Settings) (p : G.Pos) (rs : Responses) (words : List ℕ) where
  pub refused_reported : (e : SearchError) → search_error_number e ≡ entry_refusal c (length words) →
      refused_with e rs words ≡ reported G c p rs words
  unfolding reported when◌then◌else◌
  refused_reported e q = rw (sym q, ne_eqb (search_error_number e) 0 (not_nought e), not_spent c (length words) e q)

  pub accepted_reported : 0 ≡ entry_refusal c (length words) → report G p
      (analyze G (at_most c.allowance) c.max_depth p (fresh_memory rs words)) ≡ reported G c p rs words
  unfolding reported when◌then◌else◌
  accepted_reported q = rw (sym q)

  pub turned_reported : eqb (entry_refusal c (length words)) 0 ≡ false →
      reported G c p rs words ≡ refused_entry (entry_refusal c (length words)) rs words
  unfolding reported when◌then◌else◌
  turned_reported q = rw q
