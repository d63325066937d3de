-- The number of a refusal is that of the first check that fails.
use mathlib.Core.Path.{◌≡◌, refl, sym, ap, ◌∙◌}
use mathlib.Core.Bool.{Bool, true, false, not, cond, ◌&&◌}
use mathlib.Core.List.{[], ◌∷◌}
use mathlib.Core.Logic.{inl, inr}
use Prim.Native.Nat.{ℕ, ◌<◌}
use lib.Dec.{T, ltb, ltb→lt}
use borrow.Author.Tests.{lt-ltb}
use Rattle.base.specs.Branch.{when◌then◌else◌}
use Rattle.base.specs.Lists.{all}
use Rattle.base.specs.Checks.{first_failed}
use Rattle.base.proofs.Bool.{is, and→}
use Rattle.base.proofs.ListsAgree.{false_by}
use Rattle.base.proofs.Checks.{all_pass_0, 0_all_pass, some_failed}
use Rattle.rules.specs.Position.{Position, unfinished, open_board, free_cell}
use Rattle.rules.specs.Play.{board_of, cell_of, may, checks, accepts, play}
use Rattle.rules.proofs.Play.{play_accepted, play_refused}
use Rattle.game.specs.After.{refusal}

pub first_is_refusal : (p : Position) (m : ℕ) → first_failed (checks p (board_of m) (cell_of m)) ≡ refusal (play p m)
unfolding refusal accepts
first_is_refusal p m = elim (is (accepts p m)) [
  | inl t ↦ all_pass_0 (checks p (board_of m) (cell_of m)) t ∙ sym (ap refusal (play_accepted p m t))
  | inr t ↦ sym (ap refusal (play_refused p m t))
]

-- what the five checks say, in their order, gives the number
module _ (p : Position) (m b c : ℕ) (eb : b ≡ board_of m) (ec : c ≡ cell_of m) where
  checked : (r s o a e : Bool) → (ltb b 9 && ltb c 9) ≡ r → unfinished p ≡ s → open_board p b ≡ o →
      may p.next_board b ≡ a → free_cell p b c ≡ e
      → first_failed ((r, 9) ∷ (s, 10) ∷ (o, 11) ∷ (a, 12) ∷ (e, 13) ∷ []) ≡ refusal (play p m)
  checked r s o a e hr hs ho ha he =
      sym (λ i. first_failed ((hr i, 9) ∷ (hs i, 10) ∷ (ho i, 11) ∷ (ha i, 12) ∷ (he i, 13) ∷ []))
      ∙ (λ i. first_failed (checks p (eb i) (ec i))) ∙ first_is_refusal p m

  pub out : (b < 9 → c < 9 → ⊥) → 9 ≡ refusal (play p m)
  unfolding first_failed when◌then◌else◌
  out h =
      let no : T (ltb b 9 && ltb c 9) → ⊥ = λ t. let i = and→ (ltb b 9) _ t in h (ltb→lt b 9 i.0) (ltb→lt c 9 i.1) in
      checked false _ _ _ _ (false_by (ltb b 9 && ltb c 9) no) refl refl refl refl

  module _ (hb : b < 9) (hc : c < 9) where
    ranged : (ltb b 9 && ltb c 9) ≡ true
    ranged = rw (lt-ltb b 9 hb, lt-ltb c 9 hc)

    pub finished : unfinished p ≡ false → 10 ≡ refusal (play p m)
    unfolding first_failed when◌then◌else◌
    finished u = checked true false _ _ _ ranged u refl refl refl

    module _ (u : unfinished p ≡ true) where
      pub shut : open_board p b ≡ false → 11 ≡ refusal (play p m)
      unfolding first_failed when◌then◌else◌
      shut o = checked true true false _ _ ranged u o refl refl

      module _ (o : open_board p b ≡ true) where
        pub elsewhere : may p.next_board b ≡ false → 12 ≡ refusal (play p m)
        unfolding first_failed when◌then◌else◌
        elsewhere a = checked true true true false _ ranged u o a refl

        pub looked : may p.next_board b ≡ true → (e : Bool) → free_cell p b c ≡ e → cond e 0 13 ≡ refusal (play p m)
        unfolding first_failed when◌then◌else◌
        looked a true e = checked true true true true true ranged u o a e
        looked a false e = checked true true true true false ranged u o a e

-- no check has the number 0, so 0 is said of an accepted move alone
pub nought_accepts : (p : Position) (m : ℕ) → refusal (play p m) ≡ 0 → T (accepts p m)
unfolding accepts all
nought_accepts p m e = 0_all_pass (checks p (board_of m) (cell_of m)) tt (first_is_refusal p m ∙ e)

pub refused_not_accepts : (p : Position) (m : ℕ) → (refusal (play p m) ≡ 0 → ⊥) → T (not (accepts p m))
unfolding accepts
refused_not_accepts p m h = some_failed (checks p (board_of m) (cell_of m)) (λ e. h (sym (first_is_refusal p m) ∙ e))
