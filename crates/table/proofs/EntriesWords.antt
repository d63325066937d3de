-- Words and what they say: a value is read back from its word, and an entry from its two words.
use Rattle.std.specs.Prelude.{Option, None, Some}
use mathlib.Core.Path.{◌≡◌, refl, sym, ap, ◌∙◌, subst}
use mathlib.Core.Bool.{Bool, ◌&&◌}
use Prim.Native.Nat.{ℕ, suc, ◌-◌, ◌/◌, ◌%◌, ◌≤◌, ◌<◌}
use native.Mathlib.Omega.{arith}
use lib.Dec.{T, leb, ltb, leb→le, le→leb, ltb→lt, lt→ltb, nltb→le, T_not}
use lib.IntN.{ℤ, pos, negsuc}
use lib.Signed.{le_z, ◌≤ℤ◌, ◌<ℤ◌, clash_ℤ}
use mir.Syntax.{w64}
use mir.Val.{to_z}
use mir.Facts.{to_z_pos, to_z-neg}
use Rattle.base.proofs.Bool.{and→, →and}
use Rattle.base.proofs.Branch.{if_ind}
use Rattle.base.proofs.Integers.{hi, lo, hi_le, lo_le, zarith}
use Rattle.theory.specs.PlainMinimax.{lowest, highest}
use Rattle.theory.specs.Table.{Entry, from_word, to_word, rest_of, entry_of}
use Rattle.table.specs.declared.Bound.{Bound}
use Rattle.table.specs.declared.Bound.TheVariants.{Exact, AtLeast, AtMost}
use Rattle.table.specs.Entries.{bound_number}

-- ---- values
pub value_low : (w : ℕ) → w < 9223372036854775808 → from_word w ≡ pos w
unfolding from_word
value_low w h =
    if_ind (λ (z : ℤ). z ≡ pos w) (ltb w 9223372036854775808) _ _ (λ _. refl)
    (λ t. absurd (omega (arith, nltb→le w 9223372036854775808 t)))

pub value_high : (w : ℕ) → 9223372036854775808 ≤ w → from_word w ≡ negsuc (18446744073709551615 - w)
unfolding from_word
value_high w h =
    if_ind (λ (z : ℤ). z ≡ negsuc (18446744073709551615 - w)) (ltb w 9223372036854775808) _ _
    (λ t. absurd (omega (arith, ltb→lt w 9223372036854775808 t))) (λ _. refl)

-- the library's reading of a word
pub signed_word : (w : ℕ) → w < 18446744073709551616 → to_z w64 w ≡ from_word w
unfolding from_word
signed_word w h =
    if_ind (λ (z : ℤ). to_z w64 w ≡ z) (ltb w 9223372036854775808) _ _
    (λ t. to_z_pos w64 (ltb→lt w 9223372036854775808 t))
    (λ t. let k = nltb→le w 9223372036854775808 t in
    ap (to_z w64) {y = 18446744073709551616 - suc (18446744073709551615 - w)} (omega arith)
    ∙ to_z-neg w64 (18446744073709551615 - w) (omega arith))

-- the word of a number that 64 bits hold says that number
pub value_back : (z : ℤ) → negsuc 9223372036854775807 ≤ℤ z → z ≤ℤ pos 9223372036854775807 → from_word (to_word z) ≡ z
unfolding hi lo
value_back (pos n) l h = value_low n (omega (arith, hi_le (pos n) 9223372036854775807 h))
value_back (negsuc n) l h =
    let k : n ≤ 9223372036854775807 = omega (arith, lo_le (negsuc n) 9223372036854775807 l) in
    value_high (18446744073709551615 - n) (omega arith) ∙ ap negsuc (omega arith)

-- ---- entries
pub bound_number_most : (b : Bound) → bound_number b ≤ 2
bound_number_most Exact = omega arith
bound_number_most AtLeast = omega arith
bound_number_most AtMost = omega arith

-- what the table keeps: depth 1 to 81, bound 0 to 2, a move of 8 bits, a value from -2^60 - 1 to 2^60 + 1
pub record Kept (e : Entry) : Type 0 where
  pub some_depth : 0 < e.depth
  pub depth_most : e.depth ≤ 81
  pub bound_most : e.bound ≤ 2
  pub move_most : e.move ≤ 255
  pub value_least : lowest ≤ℤ e.value
  pub value_most : e.value ≤ℤ highest

abbrev kept : Entry → Bool
kept e =
    ltb 0 e.depth && (leb e.depth 81 &&
    (leb e.bound 2 && (leb e.move 255 && (le_z lowest e.value && le_z e.value highest))))

kept→ : (e : Entry) → T (kept e) → Kept e
kept→ e t =
    let p = and→ (ltb 0 e.depth) _ t in
    let q = and→ (leb e.depth 81) _ p.1 in
    let r = and→ (leb e.bound 2) _ q.1 in
    let s = and→ (leb e.move 255) _ r.1 in
    let u = and→ (le_z lowest e.value) _ s.1 in
    record {
      some_depth = ltb→lt 0 e.depth p.0;
      depth_most = leb→le e.depth 81 q.0;
      bound_most = leb→le e.bound 2 r.0;
      move_most = leb→le e.move 255 s.0;
      value_least = record { le = u.0 };
      value_most = record { le = u.1 };
    }

→kept : (e : Entry) → Kept e → T (kept e)
→kept e k =
    →and (ltb 0 e.depth) _ (lt→ltb 0 e.depth k.some_depth)
    (→and (leb e.depth 81) _ (le→leb e.depth 81 k.depth_most)
    (→and (leb e.bound 2) _ (le→leb e.bound 2 k.bound_most)
    (→and (leb e.move 255) _ (le→leb e.move 255 k.move_most)
    (→and (le_z lowest e.value) _ k.value_least.le k.value_most.le))))

module _ (value rest : ℕ) where
  abbrev pub says : Entry
  says = record { value = from_word value; depth = rest % 256; bound = rest / 256 % 256; move = rest / 65536 }

  -- two words that say what is not kept are no entry
  pub absent : (Kept says → ⊥) → None ≡ entry_of value rest
  unfolding entry_of
  absent f = if_ind (λ (o : Option Entry). None ≡ o) (kept says) _ _ (λ t. absurd (f (kept→ says t))) (λ _. refl)

  -- nor are they if they say a value that is too low or too high
  pub absent_low : {v : ℤ} → v ≡ from_word value → v <ℤ lowest → None ≡ entry_of value rest
  absent_low e h = absent (λ k. clash_ℤ h (subst (λ (z : ℤ). lowest ≤ℤ z) (sym e) k.value_least))

  pub absent_high : {v : ℤ} → v ≡ from_word value → highest <ℤ v → None ≡ entry_of value rest
  absent_high e h = absent (λ k. clash_ℤ h (subst (λ (z : ℤ). z ≤ℤ highest) (sym e) k.value_most))

  -- two words that say an entry that is kept are that entry
  pub present : (e : Entry) → Kept e → e ≡ says → Some e ≡ entry_of value rest
  unfolding entry_of
  present e k s =
      ap Some s ∙ if_ind (λ (o : Option Entry). Some says ≡ o) (kept says) _ _ (λ _. refl)
      (λ t. absurd (T_not (kept says) t (→kept says (subst Kept s k))))

-- entries with the same four parts are the same
pub same_entry : {v v' : ℤ} {d d' b b' m m' : ℕ} → v ≡ v' → d ≡ d' → b ≡ b' → m ≡ m' →
    ◌≡◌ {A = Entry} (record { value = v; depth = d; bound = b; move = m }) (record { value = v'; depth = d'; bound = b'; move = m' })
same_entry p q r s = cc

-- an entry that the table keeps is read back
pub entry_back : (e : Entry) → Kept e → entry_of (to_word e.value) (rest_of e) ≡ Some e
unfolding hi lo
entry_back e k =
    let v = value_back e.value (omega (zarith, k.value_least)) (omega (zarith, k.value_most)) in
    sym (present (to_word e.value) (rest_of e) e k (same_entry (sym v) (omega arith) (omega arith) (omega arith)))
