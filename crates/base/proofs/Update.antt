-- Laws of a function that is changed at one place.
use mathlib.Core.Path.{◌≡◌}
use Prim.Native.Nat.{ℕ}
use lib.Dec.{eqb, eqb→eq, eqb_refl, T_not}
use Rattle.base.specs.Update.{update}
use Rattle.base.proofs.Branch.{if_ind, if_both}

module _ {A : Type 0} where
  pub update_ind {κ} : (P : A → Type κ) (f : ℕ → A) (i : ℕ) (a : A) (j : ℕ) → (i ≡ j → P a) → P (f j) →
      P (update f i a j)
  unfolding update
  update_ind P f i a j x y = if_ind P (eqb i j) _ _ (λ t. x (eqb→eq i j t)) (λ _. y)

  pub update_at {κ} : (P : A → Type κ) (f : ℕ → A) (i : ℕ) (a : A) → P a → P (update f i a i)
  unfolding update
  update_at P f i a x = if_ind P (eqb i i) _ _ (λ _. x) (λ t. absurd (T_not (eqb i i) t (eqb_refl i)))

  pub update_off {κ} : (P : A → Type κ) (f : ℕ → A) (i : ℕ) (a : A) (j : ℕ) → (i ≡ j → ⊥) → P (f j) →
      P (update f i a j)
  update_off P f i a j n y = update_ind P f i a j (λ e. absurd (n e)) y

-- two functions changed at one place
pub update_ind₂ {κ} : {A B : Type 0} (P : A → B → Type κ) (f : ℕ → A) (g : ℕ → B) (i : ℕ) (a : A) (b : B) (j : ℕ) →
    (i ≡ j → P a b) → P (f j) (g j) → P (update f i a j) (update g i b j)
unfolding update
update_ind₂ P f g i a b j x y = if_both P (eqb i j) _ _ _ _ (λ t. x (eqb→eq i j t)) (λ _. y)
