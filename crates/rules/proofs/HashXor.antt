-- Exclusive or over a list: a change at one place takes out what stood there and brings in what stands there now.
use mathlib.Core.Path.{◌≡◌, refl, sym, ap, ◌∙◌, subst}
use mathlib.Core.Bool.{not}
use mathlib.Core.List.{List, [], ◌∷◌}
use mathlib.Core.Logic.{inl, inr}
use Prim.Native.Nat.{ℕ}
use lib.Bits.{bit_xor}
use lib.Dec.{T, T_not}
use Rattle.base.specs.Lists.{In, elem, unique}
use Rattle.base.proofs.Bool.{and→}
use Rattle.base.proofs.Lists.{in_elem}
use Rattle.base.proofs.BitsXor.{xor_left_comm, xor_swap}
use Rattle.rules.specs.Hash.{xors}

pub xors_same : (f g : ℕ → ℕ) (xs : List ℕ) → ((i : ℕ) → In i xs → g i ≡ f i) → xors g xs ≡ xors f xs
unfolding xors
xors_same f g [] h = refl
xors_same f g (x ∷ xs) h =
    ap (λ (z : ℕ). bit_xor z (xors g xs)) (h x (inl refl)) ∙ ap (λ (z : ℕ). bit_xor (f x) z) (xors_same f g xs (λ i k. h i (inr k)))

-- changed at one place of a list that has each number once
pub xors_change : (f g : ℕ → ℕ) (b : ℕ) (xs : List ℕ) → T (unique xs) → In b xs →
    ((i : ℕ) → (b ≡ i → ⊥) → g i ≡ f i) → xors g xs ≡ bit_xor (bit_xor (f b) (g b)) (xors f xs)
unfolding xors unique
xors_change f g b [] o k h = absurd k
xors_change f g b (x ∷ xs) o (inl e) h =
    let r = and→ (not (elem x xs)) _ o in
    ap (λ (z : ℕ). bit_xor (g x) z)
    (xors_same f g xs (λ i k. h i
    (λ q. T_not (elem x xs) r.0 (in_elem x xs (subst (λ (z : ℕ). In z xs) (sym (sym e ∙ q)) k)))))
    ∙ sym (xor_swap (f x) (g x) (xors f xs)) ∙ ap (λ (z : ℕ). bit_xor (bit_xor (f z) (g z)) (bit_xor (f x) (xors f xs))) (sym e)
xors_change f g b (x ∷ xs) o (inr k) h =
    let r = and→ (not (elem x xs)) _ o in
    ap (λ (z : ℕ). bit_xor z (xors g xs)) (h x (λ q. T_not (elem x xs) r.0 (in_elem x xs (subst (λ (z : ℕ). In z xs) q k))))
    ∙ ap (λ (z : ℕ). bit_xor (f x) z) (xors_change f g b xs r.1 k h) ∙ xor_left_comm (f x) (bit_xor (f b) (g b)) (xors f xs)
