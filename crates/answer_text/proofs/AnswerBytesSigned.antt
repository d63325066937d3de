-- The text of a number below 0 is a minus and that of its size, and of another that of its size.
use mathlib.Core.Path.{◌≡◌, refl}
use mathlib.Core.List.{◌∷◌}
use mathlib.Core.Bool.{true, false}
use native.Mathlib.Omega.{arith}
use lib.Dec.{ltb→lt}
use lib.IntN.{ℤ, pos, negsuc, nat_abs}
use lib.Signed.{lt_z}
use Rattle.text.specs.ProgramLine.{decimal, signed}
use Rattle.base.proofs.Signed.{less, not_less}

pub negative_text : (z : ℤ) → lt_z z (pos 0) ≡ true → signed z ≡ 45 ∷ decimal (nat_abs z)
unfolding signed
negative_text (pos n) e = absurd (omega (arith, ltb→lt n 0 (less {a = pos n} {b = pos 0} e).lt))
negative_text (negsuc n) e = refl

pub natural_text : (z : ℤ) → lt_z z (pos 0) ≡ false → signed z ≡ decimal (nat_abs z)
unfolding signed
natural_text (pos n) e = refl
natural_text (negsuc n) e = absurd (not_less {a = negsuc n} {b = pos 0} e).le
