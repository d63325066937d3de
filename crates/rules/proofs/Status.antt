-- Facts of the status sets and their bytes, computed over the few cases that there are.
use Rattle.std.specs.Prelude.{Option, None, Some}
use mathlib.Core.Path.{◌≡◌, refl, subst}
use mathlib.Core.Bool.{Bool, true, false, not, ◌&&◌}
use mathlib.Core.List.{[], ◌∷◌}
use mathlib.Core.Logic.{◌⊎◌, inl, inr}
use Prim.Native.Nat.{ℕ, ◌≤◌}
use native.Mathlib.Omega.{arith}
use lib.Dec.{T, eqb, ltb, eqb→eq, ltb→lt, nltb→le}
use Rattle.base.specs.Branch.{when◌then◌else◌}
use Rattle.base.specs.Lists.{all, filter, from}
use Rattle.base.proofs.Bool.{and→, is}
use Rattle.base.proofs.Branch.{if_ind}
use Rattle.base.proofs.Lists.{all_each, in_from}
use Rattle.rules.specs.declared.Player.TheVariants.{X, O}
use Rattle.rules.specs.Status.{Status, unproven, for_player, draw_or_other, as_byte, from_byte, merge}

abbrev pub is_set : Option Status → Bool
is_set None = false
is_set (Some s) = true

-- of all bytes, 1, 2, 4, 5, 6 and 7 are a set's
pub from_byte_takes : filter (λ v. is_set (from_byte v)) (from 0 256) ≡ 1 ∷ 2 ∷ 4 ∷ 5 ∷ 6 ∷ 7 ∷ []
unfolding filter from_byte when◌then◌else◌
from_byte_takes = refl

-- and no number from 8 on
pub from_byte_none : (v : ℕ) → 8 ≤ v → from_byte v ≡ None
unfolding from_byte
from_byte_none v h =
    if_ind (λ r. r ≡ None) (ltb v 8 && (not (eqb v 0) && not (eqb v 3))) _ _
    (λ t. absurd (omega (arith, ltb→lt v 8 (and→ (ltb v 8) _ t).0))) (λ _. refl)

-- back to the byte, where there is a set
back : ℕ → Option Status → Bool
back v None = true
back v (Some s) = eqb (as_byte s) v

all_back : T (all (λ n. back n (from_byte n)) (from 0 8))
unfolding all back from_byte when◌then◌else◌
all_back = tt

-- the byte of the set that a byte stands for is that byte
pub byte_of_from_byte : (v : ℕ) (s : Status) → from_byte v ≡ Some s → as_byte s ≡ v
unfolding back
byte_of_from_byte v s e = elim (is (ltb v 8)) [
  | inl t ↦ eqb→eq (as_byte s) v (subst (λ (r : Option Status). T (back v r)) e
      (all_each (λ n. back n (from_byte n)) v (from 0 8) all_back
      (in_from 0 8 v (omega arith) (omega (arith, ltb→lt v 8 t)))))
  | inr t ↦ (let n = from_byte_none v (nltb→le v 8 t) in let z : ◌≡◌ {A = ℕ} 0 1 = cc in absurd (omega arith))
]

-- a set that a byte stands for comes back from its byte
pub from_byte_of_byte : (s : Status) → (from_byte (as_byte s) ≡ Some s) ⊎ (from_byte (as_byte s) ≡ None)
unfolding from_byte when◌then◌else◌
from_byte_of_byte s = of s.x s.o s.draw
  where
    of : (x o d : Bool) → let s : Status =
        record { x = x; o = o; draw = d } in (from_byte (as_byte s) ≡ Some s) ⊎ (from_byte (as_byte s) ≡ None)
    of true true true = inl refl
    of true true false = inr refl
    of true false true = inl refl
    of true false false = inl refl
    of false true true = inl refl
    of false true false = inl refl
    of false false true = inl refl
    of false false false = inr refl

-- the common part of two sets; where nothing is common, or only both sides without a draw, there is none
abbrev draw_only : Status
draw_only = record { x = false; o = false; draw = true }

pub merge_facts :
    (merge unproven unproven ≡ Some unproven)
    × (merge (for_player X) (draw_or_other O) ≡ Some (for_player X))
    × (merge (for_player X) (draw_or_other X) ≡ None)
    × (merge (for_player X) (for_player O) ≡ None)
    × (merge (draw_or_other X) (draw_or_other O) ≡ Some draw_only)
    × (merge unproven (record { x = true; o = true; draw = false }) ≡ None)
unfolding merge from_byte when◌then◌else◌
merge_facts = (refl, refl, refl, refl, refl, refl)
