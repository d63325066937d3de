-- Exclusive or is one of digits: so it is associative, and a number twice goes.
use mathlib.Core.Path.{◌≡◌, refl, sym, ap, ◌∙◌}
use mathlib.Core.Bool.{Bool, true, false}
use Prim.Native.Nat.{ℕ}
use lib.Bits.{bit_xor, xor_self, xor_zero_l, xor_comm}
use Rattle.base.specs.Bits.{bit}
use Rattle.base.proofs.BitsOperations.{bit-bit_xor, xor}
use Rattle.base.proofs.Bits.{bit_ext}

xor_assoc_digit : (p q r : Bool) → xor (xor p q) r ≡ xor p (xor q r)
xor_assoc_digit true true true = refl
xor_assoc_digit true true false = refl
xor_assoc_digit true false true = refl
xor_assoc_digit true false false = refl
xor_assoc_digit false true true = refl
xor_assoc_digit false true false = refl
xor_assoc_digit false false true = refl
xor_assoc_digit false false false = refl

pub xor_assoc : (a b c : ℕ) → bit_xor (bit_xor a b) c ≡ bit_xor a (bit_xor b c)
xor_assoc a b c =
    bit_ext (bit_xor (bit_xor a b) c) (bit_xor a (bit_xor b c)) (λ k. simp bit-bit_xor (xor_assoc_digit (bit a k) (bit b k) (bit c k)))

pub xor_cancel : (x r : ℕ) → bit_xor x (bit_xor x r) ≡ r
xor_cancel x r = sym (xor_assoc x x r) ∙ ap (λ (z : ℕ). bit_xor z r) (xor_self x) ∙ xor_zero_l r

pub xor_left_comm : (x y r : ℕ) → bit_xor x (bit_xor y r) ≡ bit_xor y (bit_xor x r)
xor_left_comm x y r = sym (xor_assoc x y r) ∙ ap (λ (z : ℕ). bit_xor z r) (xor_comm x y) ∙ xor_assoc y x r

-- y for x
pub xor_swap : (x y r : ℕ) → bit_xor (bit_xor x y) (bit_xor x r) ≡ bit_xor y r
xor_swap x y r =
    ap (λ (z : ℕ). bit_xor z (bit_xor x r)) (xor_comm x y) ∙ xor_assoc y x (bit_xor x r)
    ∙ ap (λ (z : ℕ). bit_xor y z) (xor_cancel x r)
