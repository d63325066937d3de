-- What stands at a place of a list: a member of it; of a list made from a run of numbers what the number there gives.
use mathlib.Core.Path.{◌≡◌, refl, ap, ◌∙◌}
use mathlib.Core.List.{List, [], ◌∷◌, map}
use mathlib.Core.Logic.{inl, inr}
use Prim.Native.Nat.{ℕ, zero, suc, ◌+◌, ◌<◌}
use native.Mathlib.Omega.{arith}
use lib.ListN.{length, get_or}
use Rattle.base.specs.Lists.{In, from}

pub in_at : {A : Type 0} (xs : List A) (i : ℕ) (d : A) → i < length xs → In (get_or xs i d) xs
in_at [] i d h = absurd (omega arith)
in_at (x ∷ xs) zero d h = inl refl
in_at (x ∷ xs) (suc i) d h = inr (in_at xs i d (omega arith))

-- ---- a list made from a run of numbers
-- it has as many elements
pub run_length : {A : Type 0} (f : ℕ → A) (i n : ℕ) → length (map f (from i n)) ≡ n
run_length f i zero = refl
run_length f i (suc n) = ap suc (run_length f (suc i) n)

-- and at each place what the number there gives
pub run_at : {A : Type 0} (f : ℕ → A) (d : A) (i n k : ℕ) → k < n → get_or (map f (from i n)) k d ≡ f (i + k)
run_at f d i zero k h = absurd (omega arith)
run_at f d i (suc n) zero h = ap f (omega arith)
run_at f d i (suc n) (suc k) h = run_at f d (suc i) n k (omega arith) ∙ ap f (omega arith)
