-- The order of the integers, read by omega: z is hi z - lo z, so each fact of order is a linear one in ℕ.
use mathlib.Core.Path.{◌≡◌, refl, sym, ap, ◌∙◌}
use mathlib.Core.Bool.{Bool, true, false, not, cond}
use mathlib.Core.List.{List, [], ◌∷◌}
use Prim.Native.Nat.{ℕ, zero, suc, ◌+◌, ◌-◌, ◌≤◌, ◌<◌}
use native.Mathlib.Omega.{arith}
use native.Mathlib.Nat.{lt_of_not-le}
use lib.IntN.{ℤ, pos, negsuc, nat_abs, neg_ℤ, ◌+ℤ◌, ◌-ℤ◌, +ℤ_idr, +ℤ_assoc}
use lib.ListN.{length}
use mathlib.Core.Logic.{◌⊎◌, inl, inr}
use lib.Signed.{le_z, lt_z, ◌≤ℤ◌, ◌<ℤ◌, le_z_yes, lt_z_yes, lt_z_no}
use lib.Dec.{T, ltb, leb→le, le→leb, ltb→lt, lt→ltb, nltb→le}
use Rattle.base.specs.Integers.{max_z, sum}

unfoldable pub hi : ℤ → ℕ
hi (pos n) = n
hi (negsuc n) = zero

unfoldable pub lo : ℤ → ℕ
lo (pos n) = zero
lo (negsuc n) = suc n

pub hi_neg : (z : ℤ) → hi (neg_ℤ z) ≡ lo z
unfolding hi lo
hi_neg (pos zero) = refl
hi_neg (pos (suc n)) = refl
hi_neg (negsuc n) = refl

pub lo_neg : (z : ℤ) → lo (neg_ℤ z) ≡ hi z
unfolding hi lo
lo_neg (pos zero) = refl
lo_neg (pos (suc n)) = refl
lo_neg (negsuc n) = refl

le→' : (a b : ℤ) → T (le_z a b) → hi a + lo b ≤ hi b + lo a
unfolding hi lo
le→' (pos a) (pos b) t = omega (arith, leb→le)
le→' (pos a) (negsuc b) t = absurd t
le→' (negsuc a) (pos b) t = omega arith
le→' (negsuc a) (negsuc b) t = omega (arith, leb→le)

→le' : (a b : ℤ) → hi a + lo b ≤ hi b + lo a → T (le_z a b)
unfolding hi lo
→le' (pos a) (pos b) h = omega (arith, le→leb)
→le' (pos a) (negsuc b) h = absurd (omega arith)
→le' (negsuc a) (pos b) h = tt
→le' (negsuc a) (negsuc b) h = omega (arith, le→leb)

lt→' : (a b : ℤ) → T (lt_z a b) → hi a + lo b < hi b + lo a
unfolding hi lo
lt→' (pos a) (pos b) t = omega (arith, ltb→lt)
lt→' (pos a) (negsuc b) t = absurd t
lt→' (negsuc a) (pos b) t = omega arith
lt→' (negsuc a) (negsuc b) t = omega (arith, ltb→lt)

→lt' : (a b : ℤ) → hi a + lo b < hi b + lo a → T (lt_z a b)
unfolding hi lo
→lt' (pos a) (pos b) h = omega (arith, lt→ltb)
→lt' (pos a) (negsuc b) h = absurd (omega arith)
→lt' (negsuc a) (pos b) h = tt
→lt' (negsuc a) (negsuc b) h = omega (arith, lt→ltb)

pub le→ : {a b : ℤ} → a ≤ℤ b → hi a + lo b ≤ hi b + lo a
le→ {a} {b} h = le→' a b h.le

pub →le : {a b : ℤ} → hi a + lo b ≤ hi b + lo a → a ≤ℤ b
→le {a} {b} h = record { le = →le' a b h }

pub lt→ : {a b : ℤ} → a <ℤ b → hi a + lo b < hi b + lo a
lt→ {a} {b} h = lt→' a b h.lt

pub →lt : {a b : ℤ} → hi a + lo b < hi b + lo a → a <ℤ b
→lt {a} {b} h = record { lt = →lt' a b h }

pub eq→ : {a b : ℤ} → a ≡ b → hi a + lo b ≡ hi b + lo a
eq→ {a} {b} e = ap (λ (z : ℤ). hi a + lo z) (sym e) ∙ ap (λ (z : ℤ). hi z + lo a) e

→eq' : (a b : ℤ) → hi a + lo b ≡ hi b + lo a → a ≡ b
unfolding hi lo
→eq' (pos a) (pos b) e = ap pos (omega arith)
→eq' (pos a) (negsuc b) e = absurd (omega arith)
→eq' (negsuc a) (pos b) e = absurd (omega arith)
→eq' (negsuc a) (negsuc b) e = ap negsuc (omega arith)

pub →eq : {a b : ℤ} → hi a + lo b ≡ hi b + lo a → a ≡ b
→eq {a} {b} e = →eq' a b e

-- what omega is handed to read and prove facts of ℤ's order
pub ruleset zarith = (arith, le→, lt→, eq→, →le, →lt, →eq)

-- the negative of z, as omega needs it: list `ng z` for each `neg_ℤ z` in sight
pub ng : (z : ℤ) → (hi (neg_ℤ z) ≡ lo z) × (lo (neg_ℤ z) ≡ hi z)
ng z = (hi_neg z, lo_neg z)

-- the tests, failed
pub nle→ : {a b : ℤ} → T (not (le_z a b)) → b <ℤ a
nle→ {a} {b} t = →lt (go (le_z a b) (λ k. →le' a b k) t)
  where
    go : (c : Bool) → (hi a + lo b ≤ hi b + lo a → T c) → T (not c) → hi b + lo a < hi a + lo b
    go true f t = absurd t
    go false f t = omega (arith, lt_of_not-le f)

-- ---- the greater of two
pub max_l : (a b : ℤ) → a ≤ℤ max_z a b
unfolding max_z
max_l a b = go (le_z a b) le_z_yes
  where
    go : (c : Bool) → (T c → a ≤ℤ b) → a ≤ℤ cond c b a
    go true f = f tt
    go false f = omega zarith

pub max_r : (a b : ℤ) → b ≤ℤ max_z a b
unfolding max_z
max_r a b = go (le_z a b) nle→
  where
    go : (c : Bool) → (T (not c) → b <ℤ a) → b ≤ℤ cond c b a
    go true f = omega zarith
    go false f = let h : b <ℤ a = f tt in omega zarith

-- it is one of the two
pub max_is {ℓ} : (P : ℤ → Type ℓ) (a b : ℤ) → P a → P b → P (max_z a b)
unfolding max_z
max_is P a b x y = go (le_z a b)
  where
    go : (c : Bool) → P (cond c b a)
    go true = y
    go false = x

pub split : (a b : ℤ) → (a <ℤ b) ⊎ (b ≤ℤ a)
split a b = go (lt_z a b) lt_z_yes lt_z_no
  where
    go : (c : Bool) → (T c → a <ℤ b) → (T (not c) → b ≤ℤ a) → (a <ℤ b) ⊎ (b ≤ℤ a)
    go true f g = inl (f tt)
    go false f g = inr (g tt)

-- a bound by a number written out, as a bound of hi or of lo: omega does not know that one of the two is zero
pub hi_le : (z : ℤ) (n : ℕ) → z ≤ℤ pos n → hi z ≤ n
unfolding hi lo
hi_le (pos a) n h = omega zarith
hi_le (negsuc a) n h = omega arith

pub lo_le : (z : ℤ) (n : ℕ) → negsuc n ≤ℤ z → lo z ≤ suc n
unfolding hi lo
lo_le (pos a) n h = omega arith
lo_le (negsuc a) n h = omega zarith

-- the sum, as omega needs it: list `sm a b` for each `a +ℤ b` in sight
sub_of : (c : Bool) (a b : ℕ) → (T c → a < b) → (T (not c) → b ≤ a) → hi (cond c (negsuc (b - suc a)) (pos (a - b))) + b
    ≡ lo (cond c (negsuc (b - suc a)) (pos (a - b))) + a
unfolding hi lo
sub_of true a b f g = omega (arith, f tt)
sub_of false a b f g = omega (arith, g tt)

pub sm : (a b : ℤ) → hi (a +ℤ b) + lo a + lo b ≡ lo (a +ℤ b) + hi a + hi b
unfolding hi lo
sm (pos a) (pos b) = omega arith
sm (pos a) (negsuc b) = omega (arith, sub_of (ltb a (suc b)) a (suc b) (ltb→lt a (suc b)) (nltb→le a (suc b)))
sm (negsuc a) (pos b) = omega (arith, sub_of (ltb b (suc a)) b (suc a) (ltb→lt b (suc a)) (nltb→le b (suc a)))
sm (negsuc a) (negsuc b) = omega arith

-- ---- within k of zero, as omega reads it
abbrev pub Within : ℕ → ℤ → Type 0
Within k z = (hi z ≤ k) × (lo z ≤ k)

pub within_abs : (k : ℕ) (z : ℤ) → Within k z → nat_abs z ≤ k
unfolding hi lo
within_abs k (pos n) h = h.0
within_abs k (negsuc n) h = h.1

pub within_of : (k : ℕ) (z : ℤ) → nat_abs z ≤ k → Within k z
unfolding hi lo
within_of k (pos n) h = (h, omega arith)
within_of k (negsuc n) h = (omega arith, h)

-- z as a difference a - b is within a and b
halves_within : (z : ℤ) (a b : ℕ) → hi z + b ≡ lo z + a → (hi z ≤ a) × (lo z ≤ b)
unfolding hi lo
halves_within (pos n) a b e = (omega arith, omega arith)
halves_within (negsuc n) a b e = (omega arith, omega arith)

pub within_+ : (j k : ℕ) (a b : ℤ) → Within j a → Within k b → Within (j + k) (a +ℤ b)
within_+ j k a b h q = let u = halves_within (a +ℤ b) (hi a + hi b) (lo a + lo b) (omega (arith, sm a b)) in (omega arith, omega arith)

pub within_neg : (k : ℕ) (z : ℤ) → Within k z → Within k (neg_ℤ z)
within_neg k z h = (omega (arith, hi_neg z), omega (arith, lo_neg z))

pub within_pos : (k n : ℕ) → n ≤ k → Within k (pos n)
unfolding hi lo
within_pos k n h = (h, omega arith)

pub within_minus : (k a b : ℕ) → a ≤ k → b ≤ k → Within k (pos a -ℤ pos b)
unfolding hi lo
within_minus k a b h q =
    let u = halves_within (pos a -ℤ pos b) a b (omega (arith, sm (pos a) (neg_ℤ (pos b)), hi_neg (pos b), lo_neg (pos b))) in
    (omega arith, omega arith)

-- n times k
unfoldable pub times : ℕ → ℕ → ℕ
times zero k = 0
times (suc n) k = k + times n k

pub within_sum :
    {A : Type 0} (k : ℕ) (f : A → ℤ) → ((x : A) → Within k (f x)) → (xs : List A) → Within (times (length xs) k) (sum f xs)
unfolding sum times
within_sum k f h [] = within_pos 0 0 (omega arith)
within_sum k f h (x ∷ xs) = within_+ k (times (length xs) k) (f x) (sum f xs) (h x) (within_sum k f h xs)

-- ---- a sum from the left is the sum
abbrev left : ℤ → List ℤ → ℤ
left a [] = a
left a (b ∷ bs) = left (a +ℤ b) bs

pub left_sum : (a : ℤ) (bs : List ℤ) → left a bs ≡ a +ℤ sum (λ z. z) bs
unfolding sum
left_sum a [] = sym (+ℤ_idr a)
left_sum a (b ∷ bs) = left_sum (a +ℤ b) bs ∙ +ℤ_assoc a b (sum (λ z. z) bs)
