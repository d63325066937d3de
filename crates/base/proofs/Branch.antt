-- What holds of both arms holds of the choice.
use mathlib.Core.Bool.{Bool, true, false, not}
use lib.Dec.{T}
use Rattle.base.specs.Branch.{when◌then◌else◌}

pub if_ind {ℓ κ} : {A : Type ℓ} (P : A → Type κ) (c : Bool) (x y : Unit {0} → A) → (T c → P (x tt)) →
    (T (not c) → P (y tt)) → P (when c then x else y)
unfolding when◌then◌else◌
if_ind P true x y f g = f tt
if_ind P false x y f g = g tt

-- two choices by one test
pub if_both {κ} : {A B : Type 0} (R : A → B → Type κ) (c : Bool) (x y : Unit {0} → A) (x' y' : Unit {0} → B) →
    (T c → R (x tt) (x' tt)) → (T (not c) → R (y tt) (y' tt)) → R (when c then x else y) (when c then x' else y')
unfolding when◌then◌else◌
if_both R true x y x' y' f g = f tt
if_both R false x y x' y' f g = g tt
