-- Bytes and the sets that they mean.
use mathlib.Core.Path.{◌≡◌, refl, sym, ap, ◌∙◌}
use mathlib.Core.Bool.{Bool, not, ◌&&◌}
use Prim.Native.Nat.{ℕ, zero, suc, ◌+◌, ◌*◌, ◌/◌, ◌%◌, ◌≤◌, ◌<◌, min}
use native.Mathlib.Omega.{arith}
use mathlib.Core.Logic.{◌⊎◌, inl, inr}
use lib.Bits.{bit_and, and_mask, and_step}
use lib.Dec.{eqb, eqb→eq, eqb-suc-zero}
use Rattle.std.proofs.lemmas.Bool.{ne_eqb}
use Rattle.std.specs.Prelude.{None, Some, option_map}
use Rattle.base.specs.Branch.{when◌then◌else◌}
use Rattle.base.specs.Bits.{bit}
use Rattle.base.proofs.BitsOperations.{bit_low, bit_suc}
use Rattle.base.proofs.Bool.{always}
use Rattle.rules.specs.Status.{Status, as_byte, from_byte, merge}
use Rattle.rules.proofs.Status.{from_byte_none}
use Rattle.status.specs.Sets.{status_of}

-- a byte over 7 is no set's
pub over_7_is_nothing : (v : ℕ) → 8 ≤ v → None ≡ option_map status_of (from_byte v)
over_7_is_nothing v h = sym (ap (option_map status_of) (from_byte_none v h))

-- nor are 3 and 0
pub no_set : (v : ℕ) → (v ≡ 3) ⊎ (v ≡ 0) → None ≡ option_map status_of (from_byte v)
unfolding from_byte when◌then◌else◌
no_set v (inl e) = rw e
no_set v (inr e) = rw e

-- of the others all are
pub byte_is_set : (v : ℕ) → v < 8 → (v ≡ 3 → ⊥) → (v ≡ 0 → ⊥) → Some (record { bits = v }) ≡ option_map status_of (from_byte v)
unfolding from_byte when◌then◌else◌
byte_is_set zero h m n = absurd (n refl)
byte_is_set (suc zero) h m n = refl
byte_is_set (suc (suc zero)) h m n = refl
byte_is_set (suc (suc (suc zero))) h m n = absurd (m refl)
byte_is_set (suc (suc (suc (suc zero)))) h m n = refl
byte_is_set (suc (suc (suc (suc (suc zero))))) h m n = refl
byte_is_set (suc (suc (suc (suc (suc (suc zero)))))) h m n = refl
byte_is_set (suc (suc (suc (suc (suc (suc (suc zero))))))) h m n = refl
byte_is_set (suc (suc (suc (suc (suc (suc (suc (suc v)))))))) h m n = absurd (omega arith)

-- a byte and the mask of one of its three low bits is not 0 exactly where that bit is set
pub lowest_bit_test : (n : ℕ) → not (eqb (bit_and n 1) 0) ≡ bit n 0
lowest_bit_test n = ap (λ (d : ℕ). not (eqb d 0)) (and_mask n 1) ∙ one_or_none (n % 2) (omega arith) ∙ sym (bit_low n)
  where
    one_or_none : (d : ℕ) → d < 2 → not (eqb d 0) ≡ eqb d 1
    one_or_none zero h = refl
    one_or_none (suc zero) h = refl
    one_or_none (suc (suc d)) h = absurd (omega arith)

-- a mask that is even asks for a bit of the half
even_mask : (n m : ℕ) → m % 2 ≡ 0 → not (eqb (bit_and n m) 0) ≡ not (eqb (bit_and (n / 2) (m / 2)) 0)
even_mask n m e =
    ap (λ (d : ℕ). not (eqb d 0)) (and_step n m ∙ ap (λ (d : ℕ). bit_and (n / 2) (m / 2) * 2 + min (n % 2) d) e)
    ∙ halved (bit_and (n / 2) (m / 2)) _ (omega arith)
  where
    halved : (x y : ℕ) → y ≡ 0 → not (eqb (x * 2 + y) 0) ≡ not (eqb x 0)
    halved zero y h = rw h
    halved (suc x) y h = ap not (ne_eqb _ _ (omega arith) ∙ sym (eqb-suc-zero x))

pub next_bit_test : (n : ℕ) → not (eqb (bit_and n 2) 0) ≡ bit n 1
next_bit_test n = even_mask n 2 refl ∙ lowest_bit_test (n / 2) ∙ sym (bit_suc n 0)

pub draw_bit_test : (n : ℕ) → not (eqb (bit_and n 4) 0) ≡ bit n 2
draw_bit_test n = even_mask n 4 refl ∙ next_bit_test (n / 2) ∙ sym (bit_suc n 1)

-- the bytes of two sets have the byte of their common part in common
pub bytes_in_common : (s t : Status) → bit_and (as_byte s) (as_byte t) ≡ as_byte
    (record { x = s.x && t.x; o = s.o && t.o; draw = s.draw && t.draw })
bytes_in_common s t = eqb→eq _ _ (always 6 common tt s.x s.o s.draw t.x t.o t.draw)
  where
    common : Bool → Bool → Bool → Bool → Bool → Bool → Bool
    common a b c d e f =
        eqb (bit_and (as_byte (record { x = a; o = b; draw = c })) (as_byte (record { x = d; o = e; draw = f })))
        (as_byte (record { x = a && d; o = b && e; draw = c && f }))

-- so merging two sets is document 01's merge
pub merge_is_common : (s t : Status) → from_byte (bit_and (as_byte s) (as_byte t)) ≡ merge s t
unfolding merge
merge_is_common s t = ap from_byte (bytes_in_common s t)
