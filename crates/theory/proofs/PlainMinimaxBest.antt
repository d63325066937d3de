-- The best over a list is its least upper bound from the lowest on, so it rests on the list's members alone.
use mathlib.Core.Path.{◌≡◌, refl, sym, subst}
use mathlib.Core.List.{List, [], ◌∷◌}
use mathlib.Core.Logic.{◌⊎◌, inl, inr}
use Prim.Native.Nat.{ℕ}
use lib.IntN.{ℤ}
use lib.Signed.{◌≤ℤ◌}
use Rattle.base.specs.Integers.{max_z}
use Rattle.base.specs.Lists.{In}
use Rattle.base.proofs.Integers.{zarith, max_l, max_r, max_is}
use Rattle.theory.specs.PlainMinimax.{lowest, best}

-- it is never below the lowest
pub best_lowest : (f : ℕ → ℤ) (ms : List ℕ) → lowest ≤ℤ best f ms
unfolding best
best_lowest f [] = omega zarith
best_lowest f (m ∷ ms) = let h = best_lowest f ms in let k = max_r (f m) (best f ms) in omega zarith

-- no member is above it
pub best_upper : (f : ℕ → ℤ) (m : ℕ) (ms : List ℕ) → In m ms → f m ≤ℤ best f ms
unfolding best
best_upper f m [] h = absurd h
best_upper f m (x ∷ ms) (inl e) = subst (λ (z : ℕ). f z ≤ℤ best f (x ∷ ms)) (sym e) (max_l (f x) (best f ms))
best_upper f m (x ∷ ms) (inr h) = let k = best_upper f m ms h in let l = max_r (f x) (best f ms) in omega zarith

-- nor is it above what no member is above
pub best_least : (f : ℕ → ℤ) (ms : List ℕ) (r : ℤ) → lowest ≤ℤ r → ((m : ℕ) → In m ms → f m ≤ℤ r) →
    best f ms ≤ℤ r
unfolding best
best_least f [] r h k = h
best_least f (m ∷ ms) r h k = max_is (λ z. z ≤ℤ r) (f m) (best f ms) (k m (inl refl)) (best_least f ms r h (λ x i. k x (inr i)))

-- it is the lowest, or a member attains it
pub best_attained : (f : ℕ → ℤ) (ms : List ℕ) → (best f ms ≡ lowest) ⊎ ((m : ℕ) × In m ms × (f m ≡ best f ms))
unfolding best
best_attained f [] = inl refl
best_attained f (m ∷ ms) = max_is (λ z. (z ≡ lowest) ⊎ ((x : ℕ) × In x (m ∷ ms) × (f x ≡ z))) (f m) (best f ms)
    (inr (m, inl refl, refl))
    (elim (best_attained f ms) [ inl e ↦ inl e | inr h ↦ inr (h.0, inr h.1, h.2) ])

-- lists of the same members have the same best, whatever their order
pub best_same : (f : ℕ → ℤ) (xs ys : List ℕ) → ((m : ℕ) → In m xs → In m ys) → ((m : ℕ) → In m ys → In m xs) →
    best f xs ≡ best f ys
best_same f xs ys s t =
    let h = best_least f xs (best f ys) (best_lowest f ys) (λ m i. best_upper f m ys (s m i)) in
    let k = best_least f ys (best f xs) (best_lowest f xs) (λ m i. best_upper f m xs (t m i)) in
    omega zarith

-- nor do others than its members' values count
pub best_agree : (f g : ℕ → ℤ) (ms : List ℕ) → ((m : ℕ) → In m ms → f m ≡ g m) → best f ms ≡ best g ms
unfolding best
best_agree f g [] h = refl
best_agree f g (m ∷ ms) h = λ i. max_z (h m (inl refl) i) (best_agree f g ms (λ x j. h x (inr j)) i)
