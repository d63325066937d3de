-- The places of the digits of a number that are set, in their order: how many there are, the lowest, and those that `n & (n - 1)` leaves.
use mathlib.Core.Path.{◌≡◌, refl, sym, ap, ap₂, ◌∙◌}
use mathlib.Core.List.{List, ◌∷◌, map}
use Prim.Native.Nat.{ℕ, zero, suc, ◌-◌, ◌/◌, ◌%◌, ◌^◌, ◌≤◌, ◌<◌, min}
use native.Mathlib.Nat.{pow-suc, mod-lt}
use native.Mathlib.Omega.{arith}
use lib.Arith.{lt-one}
use lib.Bits.{bit_and, and_step, and_self}
use lib.Count.{ones, ones_step, count_trailing_zeros, under}
use lib.Dec.{lit<}
use lib.ListN.{length, length-map}
use Rattle.base.specs.Branch.{when◌then◌else◌}
use Rattle.base.specs.Bits.{bit}
use Rattle.base.specs.Lists.{filter, from}
use Rattle.base.proofs.ListsAgree.{filter_same}
use Rattle.base.proofs.BitsOperations.{bit_low, bit_suc}
use Rattle.base.proofs.ListsFilter.{filter_map, from_suc}

-- the places below w of the digits of n that are set
abbrev pub set_digits : ℕ → ℕ → List ℕ
set_digits w n = filter (bit n) (from 0 w)

-- ---- the lowest digit, and those of the half
module _ (w n : ℕ) where
  halves : filter (bit n) (from 1 w) ≡ map suc (set_digits w (n / 2))
  halves =
      ap (filter (bit n)) (from_suc 0 w) ∙ filter_map (bit n) suc (from 0 w)
      ∙ ap (map suc) (filter_same (λ k. bit n (suc k)) (bit (n / 2)) (from 0 w) (λ k i. bit_suc n k))

  odd : n % 2 ≡ 1 → set_digits (suc w) n ≡ 0 ∷ map suc (set_digits w (n / 2))
  unfolding filter when◌then◌else◌
  odd e = rw (bit_low n, e) (ap (◌∷◌ 0) halves)

  even : n % 2 ≡ 0 → set_digits (suc w) n ≡ map suc (set_digits w (n / 2))
  unfolding filter when◌then◌else◌
  even e = rw (bit_low n, e) halves

parity : (n : ℕ) (P : Type 0) → (n % 2 ≡ 1 → P) → (n % 2 ≡ 0 → P) → P
parity n P f g = go (n % 2) refl (mod-lt n (lit< tt))
  where
    go : (d : ℕ) → n % 2 ≡ d → d < 2 → P
    go zero e h = g e
    go (suc zero) e h = f e
    go (suc (suc d)) e h = absurd (omega arith)

-- ---- how many there are
pub count_ones : (w n : ℕ) → n < 2 ^ w → ones n ≡ length (set_digits w n)
unfolding filter ones lib.Count.ones_in
count_ones zero n h = ap ones (lt-one h)
count_ones (suc w) n h =
    let p = pow-suc 2 w in
    let r = count_ones w (n / 2) (omega arith) ∙ sym (length-map (set_digits w (n / 2)) suc) in
    let s = ones_step n in
    parity n (ones n ≡ length (set_digits (suc w) n))
    (λ e. omega (arith, ap length (odd w n e)))
    (λ e. omega (arith, ap length (even w n e)))

-- ---- the lowest, and the others
-- the lowest digit of n & (n - 1) is clear
cleared : (n : ℕ) → bit_and n (n - 1) % 2 ≡ 0
cleared n = parity n (bit_and n (n - 1) % 2 ≡ 0)
    (λ e. let d : (n - 1) % 2 ≡ 0 = omega arith in omega (arith, and_step n (n - 1), ap₂ min e d))
    (λ e. omega (arith, and_step n (n - 1), ap (λ (d : ℕ). min d ((n - 1) % 2)) e))

odd_half : (n : ℕ) → n % 2 ≡ 1 → bit_and n (n - 1) / 2 ≡ n / 2
odd_half n e =
    let h : (n - 1) / 2 ≡ n / 2 = omega arith in
    let d : (n - 1) % 2 ≡ 0 = omega arith in
    omega (arith, and_step n (n - 1), ap₂ min e d, ap (bit_and (n / 2)) h, and_self (n / 2))

even_half : (n : ℕ) → n % 2 ≡ 0 → (n ≡ 0 → ⊥) → bit_and n (n - 1) / 2 ≡ bit_and (n / 2) (n / 2 - 1)
even_half n e z =
    let h : (n - 1) / 2 ≡ n / 2 - 1 = omega (arith, z) in
    omega (arith, and_step n (n - 1), ap (λ (d : ℕ). min d ((n - 1) % 2)) e, ap (bit_and (n / 2)) h)

under_odd : (n t : ℕ) → n % 2 ≡ 1 → under (n % 2) t ≡ 0
under_odd n t e = rw e

under_even : (n t : ℕ) → n % 2 ≡ 0 → under (n % 2) t ≡ suc t
under_even n t e = rw e

pub lowest_first : (w v n : ℕ) → w ≤ v → n < 2 ^ w → (n ≡ 0 → ⊥) → set_digits w n ≡ count_trailing_zeros v n ∷
    set_digits w (bit_and n (n - 1))
unfolding count_trailing_zeros
lowest_first zero v n l h z = absurd (z (lt-one h))
lowest_first (suc w) zero n l h z = absurd (omega arith)
lowest_first (suc w) (suc v) n l h z =
    let p = pow-suc 2 w in
    let m = bit_and n (n - 1) in
    parity n (set_digits (suc w) n ≡ under (n % 2) (count_trailing_zeros v (n / 2)) ∷ set_digits (suc w) m)
    (λ e. odd w n e ∙ ap₂ ◌∷◌ (sym (under_odd n (count_trailing_zeros v (n / 2)) e))
    (ap (λ (k : ℕ). map suc (set_digits w k)) (sym (odd_half n e)) ∙ sym (even w m (cleared n))))
    (λ e. even w n e ∙ ap (map suc) (lowest_first w v (n / 2) (omega arith) (omega arith) (λ q. z (omega arith)))
    ∙ ap₂ ◌∷◌ (sym (under_even n (count_trailing_zeros v (n / 2)) e)) (ap (λ (k : ℕ). map suc (set_digits w k)) (sym (even_half n e z))
    ∙ sym (even w m (cleared n))))

pub lowest_lt : (w v n : ℕ) → w ≤ v → n < 2 ^ w → (n ≡ 0 → ⊥) → count_trailing_zeros v n < w
unfolding count_trailing_zeros
lowest_lt zero v n l h z = absurd (z (lt-one h))
lowest_lt (suc w) zero n l h z = absurd (omega arith)
lowest_lt (suc w) (suc v) n l h z =
    let p = pow-suc 2 w in
    parity n (under (n % 2) (count_trailing_zeros v (n / 2)) < suc w)
    (λ e. omega (arith, under_odd n (count_trailing_zeros v (n / 2)) e))
    (λ e. omega (
      arith,
      under_even n (count_trailing_zeros v (n / 2)) e,
      lowest_lt w v (n / 2) (omega arith) (omega arith)
          (λ q. z (omega arith)),
    ))
