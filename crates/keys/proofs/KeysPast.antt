-- A `match` on 0 to n - 1 that no arm took: the number is n or more, so it is past the end of a list of n.
use mathlib.Core.Path.{◌≡◌}
use mathlib.Core.List.{[], ◌∷◌}
use Prim.Native.Nat.{ℕ, zero, suc, ◌≤◌}
use native.Mathlib.Omega.{arith}
use types.Run.{OneOf}

-- what the arm for the rest is told
abbrev pub Rest : ℕ → ℕ → Type 0
Rest zero i = Unit {0}
Rest (suc n) i = Rest n i × (OneOf (n ∷ []) i → ⊥)

pub rest_is_past : (n i : ℕ) → Rest n i → n ≤ i
rest_is_past zero i r = omega arith
rest_is_past (suc n) i r = let h = rest_is_past n i r.0 in let k : i ≡ n → ⊥ = r.1 in omega (arith, h, k)
