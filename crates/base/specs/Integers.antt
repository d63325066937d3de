-- The greater of two integers, and sums.
use Rattle.std.specs.Prelude.{cond, List, [], ◌∷◌, ℤ, pos, ◌+ℤ◌}
use Rattle.std.specs.Int.Signed.{le_z}

unfoldable pub max_z : ℤ → ℤ → ℤ
max_z a b = cond (le_z a b) b a

unfoldable pub sum : {A : Type 0} → (A → ℤ) → List A → ℤ
sum f [] = pos 0
sum f (x ∷ xs) = f x +ℤ sum f xs
