-- Signed numbers in the machine: what fits is read back from its bits, and a sum, a negative or a word of it is the exact one.
use mathlib.Core.Path.{◌≡◌, refl, sym, ap, ap₂, ◌∙◌, subst}
use mathlib.Core.Bool.{Bool, true, false, not}
use Prim.Native.Nat.{ℕ, zero, suc, ◌+◌, ◌^◌, ◌≤◌, ◌<◌}
use native.Mathlib.Omega.{arith}
use lib.Dec.{T, ltb, ltb→lt}
use lib.IntN.{ℤ, pos, negsuc, nat_abs, neg_ℤ, suc_ℤ, ◌+ℤ◌, ◌-ℤ◌, +ℤ_idl, +ℤ_one}
use lib.Signed.{mag, lt_z, ◌<ℤ◌, ◌≤ℤ◌, lt_z_yes, lt_z_no}
use mir.Facts.{to_z-of_z}
use mir.Syntax.{Width, w64}
use mir.Val.{SFits, hbits, to_z, of_z}
use Rattle.base.proofs.Integers.{hi, lo, Within, within_abs, within_of, within_+, within_neg}

-- ---- read back
-- what is read back of a number, at a width and at 64 bits
abbrev pub reads_at : Width → ℤ → ℤ
reads_at w z = to_z w (of_z w z)

abbrev pub reads : ℤ → ℤ
reads z = reads_at w64 z

-- one that fits is read back from its bits
pub back : (z : ℤ) → SFits w64 z → reads z ≡ z
back z h = to_z-of_z h

-- what a call gives
pub result_at : (w : Width) {r v : ℤ} → mag r < 2 ^ hbits w → r ≡ v → reads_at w r ≡ v
result_at w h e = to_z-of_z {w = w} (record { sfits = h }) ∙ e

pub result : {r v : ℤ} → mag r < 2 ^ hbits w64 → r ≡ v → reads r ≡ v
result h e = result_at w64 h e

-- the order, from a test
pub less : {a b : ℤ} → lt_z a b ≡ true → a <ℤ b
less e = lt_z_yes (subst T (sym e) tt)

pub not_less : {a b : ℤ} → lt_z a b ≡ false → b ≤ℤ a
not_less e = lt_z_no (subst (λ (b : Bool). T (not b)) (sym e) tt)

-- ---- zero less a number
pub zero_sub : (z : ℤ) → pos 0 -ℤ z ≡ neg_ℤ z
zero_sub z = +ℤ_idl (neg_ℤ z)

pub minus_fits : (n : ℕ) → n < 9223372036854775808 → SFits w64 (pos 0 -ℤ pos n)
minus_fits n h = rw zero_sub (neg n h)
  where
    neg : (n : ℕ) → n < 9223372036854775808 → SFits w64 (neg_ℤ (pos n))
    neg zero h = record { sfits = omega arith }
    neg (suc n) h = record { sfits = omega (arith, h) }

-- ---- to a word
-- -(z + 1), of a negative z
next_fits : (n : ℕ) → n < 2 ^ 63 → SFits w64 (suc_ℤ (negsuc n))
next_fits zero h = record { sfits = omega arith }
next_fits (suc n) h = record { sfits = omega (arith, h) }

minus_next : (n : ℕ) → neg_ℤ (suc_ℤ (negsuc n)) ≡ pos n
minus_next zero = refl
minus_next (suc n) = refl

module _ (z : ℤ) (f : SFits w64 z) (e : lt_z (reads z) (pos 0) ≡ true) where
  pub negative : z ≡ negsuc (mag z)
  negative = go z (subst (λ (y : ℤ). y <ℤ pos 0) (back z f) (less e))
    where
      go : (z : ℤ) → z <ℤ pos 0 → z ≡ negsuc (mag z)
      go (pos n) t = absurd (omega (arith, ltb→lt n 0 t.lt))
      go (negsuc n) t = refl

  pub next_in : SFits w64 (reads z +ℤ pos 1)
  next_in = rw (back z f) (rw (+ℤ_one z) (subst (λ (y : ℤ). SFits w64 (suc_ℤ y)) (sym negative) (next_fits (mag z) f.sfits)))

  next_is : pos 0 -ℤ (z +ℤ pos 1) ≡ pos (mag z)
  next_is = zero_sub (z +ℤ pos 1) ∙ ap neg_ℤ (+ℤ_one z) ∙ ap (λ (y : ℤ). neg_ℤ (suc_ℤ y)) negative ∙ minus_next (mag z)

  inner : pos 0 -ℤ reads (reads z +ℤ pos 1) ≡ pos (mag z)
  inner = ap (λ (y : ℤ). pos 0 -ℤ y) (back _ next_in) ∙ ap (λ (y : ℤ). pos 0 -ℤ (y +ℤ pos 1)) (back z f) ∙ next_is

  pub minus_next_in : SFits w64 (pos 0 -ℤ reads (reads z +ℤ pos 1))
  minus_next_in = rw inner (record { sfits = f.sfits })

  pub minus_next_is : reads (pos 0 -ℤ reads (reads z +ℤ pos 1)) ≡ pos (mag z)
  minus_next_is = back _ minus_next_in ∙ inner

-- ---- within k of zero
-- a number within k fits where k does
near_fits : (w : Width) (k : ℕ) (z : ℤ) → T (ltb k (2 ^ hbits w)) → Within k z → SFits w z
unfolding hi lo
near_fits w k (pos n) t h = record { sfits = omega (arith, ltb→lt k _ t) }
near_fits w k (negsuc n) t h = record { sfits = omega (arith, ltb→lt k _ t) }

-- ---- a number that the machine worked out at a width, within k
pub record Held (w : Width) (k : ℕ) : Type 0 where
  pub machine : ℤ
  pub value : ℤ
  pub same : machine ≡ value
  pub near : Within k value

-- what a call gives that promises a bound too
abbrev pub held_promised : {w : Width} {k : ℕ} {r v : ℤ} → (r ≡ v) × (nat_abs r ≤ k) → Held w k
held_promised {w} {k} {r} {v} e = record {
  machine = r;
  value = v;
  same = e.0;
  near = within_of k v (subst (λ (z : ℤ). nat_abs z ≤ k) e.0 e.1);
}

module _ {w : Width} {k : ℕ} (h : Held w k) (t : T (ltb k (2 ^ hbits w))) where
  pub held_fits : SFits w h.machine
  held_fits = subst (SFits w) (sym h.same) (near_fits w k h.value t h.near)

  pub held_reads : reads_at w h.machine ≡ h.value
  held_reads = to_z-of_z {w = w} held_fits ∙ h.same

  -- as a promise with a bound
  pub held_gives : {v : ℤ} → h.value ≡ v → (reads_at w h.machine ≡ v) × (nat_abs (reads_at w h.machine) ≤ k)
  held_gives e = (held_reads ∙ e, subst (λ (z : ℤ). nat_abs z ≤ k) (sym held_reads) (within_abs k h.value h.near))

-- the sum of two, as the machine takes it
abbrev pub plus : {w : Width} {j k : ℕ} (a : Held w j) (b : Held w k) → T (ltb j (2 ^ hbits w)) → T (ltb k (2 ^ hbits w)) → Held w (j + k)
plus {w} {j} {k} a b t u = record {
  machine = reads_at w a.machine +ℤ reads_at w b.machine;
  value = a.value +ℤ b.value;
  same = ap₂ ◌+ℤ◌ (held_reads a t) (held_reads b u);
  near = within_+ j k a.value b.value a.near b.near;
}

-- the negative of one
abbrev pub minus : {w : Width} {k : ℕ} (a : Held w k) → T (ltb k (2 ^ hbits w)) → Held w k
minus {w} {k} a t = record {
  machine = pos 0 -ℤ reads_at w a.machine;
  value = neg_ℤ a.value;
  same = zero_sub (reads_at w a.machine) ∙ ap neg_ℤ (held_reads a t);
  near = within_neg k a.value a.near;
}
