-- Scores within the root's window in the machine: each is read back, and its negative is the exact one.
use mathlib.Core.Path.{◌≡◌, sym, ap₂, ◌∙◌}
use mathlib.Core.Bool.{Bool}
use Prim.Native.Nat.{◌^◌, ◌<◌}
use native.Mathlib.Omega.{arith}
use lib.IntN.{ℤ, pos, negsuc, neg_ℤ, ◌-ℤ◌, +ℤ_idl}
use lib.Signed.{mag, le_z}
use mir.Syntax.{w64}
use mir.Val.{SFits, hbits}
use mir.Facts.{to_z-of_z}
use Rattle.base.proofs.Integers.{hi, lo, zarith, ng, hi_le, lo_le}
use Rattle.base.proofs.Signed.{reads}
use Rattle.minimax.specs.State.{Within}

pub neg_within : (z : ℤ) → Within z → Within (neg_ℤ z)
unfolding hi lo
neg_within z h = record { low = omega (zarith, ng z, h.high); high = omega (zarith, ng z, h.low) }

-- as read from a struct
pub told : (z : ℤ) → mag z < 2 ^ hbits w64 → reads z ≡ z
told z h = to_z-of_z {w = w64} (record { sfits = h })

pub tested : (x y : ℤ) → mag x < 2 ^ hbits w64 → mag y < 2 ^ hbits w64 → (t : Bool) → le_z (reads x) (reads y) ≡ t →
    le_z x y ≡ t
tested x y h k t e = sym (ap₂ le_z (told x h) (told y k)) ∙ e

within_fits : (z : ℤ) → Within z → SFits w64 z
unfolding hi lo
within_fits (pos n) h = record { sfits = omega (arith, hi_le (pos n) _ h.high) }
within_fits (negsuc n) h = record { sfits = omega (arith, lo_le (negsuc n) _ h.low) }

module _ (z : ℤ) (h : Within z) where
  minus : pos 0 -ℤ z ≡ neg_ℤ z
  minus = +ℤ_idl (neg_ℤ z)

  pub minus_fits : SFits w64 (pos 0 -ℤ z)
  minus_fits = rw minus (within_fits (neg_ℤ z) (neg_within z h))

  pub minus_reads : reads (pos 0 -ℤ z) ≡ neg_ℤ z
  minus_reads = to_z-of_z minus_fits ∙ minus
