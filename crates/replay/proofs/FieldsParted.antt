-- What stands before the first tab, and after it, by its place; and a field, a byte at a time.
use mathlib.Core.Path.{◌≡◌, refl, sym, ap, ◌∙◌}
use mathlib.Core.Bool.{Bool, true, false, cond, not}
use mathlib.Core.List.{List, [], ◌∷◌}
use Prim.Native.Nat.{ℕ, suc, ◌+◌, ◌-◌, ◌<◌, ◌≤◌}
use native.Mathlib.Numerals.{add-one}
use native.Mathlib.Omega.{arith}
use lib.Dec.{eqb, ltb}
use lib.ListN.{length, get_or, take, drop, drop_of_length-le, length-drop}
use lib.Seq.{take_all, drop-cons}
use borrow.Author.Tests.{eq-eqb, ne_eqb, ltb-true, ltb-false}
use Rattle.std.specs.Prelude.{Some, None, ◌==◌, position}
use Rattle.std.proofs.lemmas.Option.{cond_some, none-some}
use Rattle.std.specs.List.{position_or_len}
use Rattle.base.specs.Branch.{when◌then◌else◌}
use Rattle.replay.specs.Fields.{until_tab, past_tab, field}

abbrev first : List ℕ → ℕ
first line = position_or_len (λ b. eqb b 9) line

until_step : (c : Bool) (b : ℕ) (bs u : List ℕ) (n : ℕ) → take n bs ≡ u →
    take (cond (not c) (1 + n) 0) (b ∷ bs) ≡ (when c then (λ _. []) else λ _. b ∷ u)
unfolding when◌then◌else◌
until_step true b bs u n e = refl
until_step false b bs u n e = let one : 1 + n ≡ suc n = omega arith in rw one (ap {B = List ℕ} (λ l. b ∷ l) e)

until_first : (line : List ℕ) → take (first line) line ≡ until_tab line
unfolding until_tab
until_first [] = refl
until_first (b ∷ bs) = until_step (eqb b 9) b bs (until_tab bs) (first bs) (until_first bs)

past_step : (c : Bool) (b : ℕ) (bs p : List ℕ) (n : ℕ) → drop (n + 1) bs ≡ p →
    drop (cond (not c) (1 + n) 0 + 1) (b ∷ bs) ≡ (when c then (λ _. bs) else λ _. p)
unfolding when◌then◌else◌
past_step true b bs p n e = refl
past_step false b bs p n e = let one : 1 + n + 1 ≡ suc (n + 1) = omega arith in rw one e

past_first : (line : List ℕ) → drop (first line + 1) line ≡ past_tab line
unfolding past_tab
past_first [] = refl
past_first (b ∷ bs) = past_step (eqb b 9) b bs (past_tab bs) (first bs) (past_first bs)

-- ---- where the first tab was looked for
tab_at : (line : List ℕ) (at : ℕ) → Some at ≡ position (λ b. b == 9) line → (at ≡ first line) × (at < length line)
tab_at line at e = let p = cond_some _ _ at (sym e) in (sym p.1, rw p.1 at (ltb-true (first line) (length line) p.0))

no_tab : (line : List ℕ) → None ≡ position (λ b. b == 9) line → length line ≤ first line
no_tab line e = go (ltb (first line) (length line)) refl e
  where
    go : (c : Bool) → ltb (first line) (length line) ≡ c → None ≡ cond c (Some (first line)) None → length line ≤ first line
    go true t e = absurd (none-some _ e)
    go false t e = ltb-false (first line) (length line) t

module _ (line : List ℕ) where
  pub tab_within : (at : ℕ) → Some at ≡ position (λ b. b == 9) line → at < length line
  tab_within at e = (tab_at line at e).1

  pub until_here : (at : ℕ) → Some at ≡ position (λ b. b == 9) line → take at line ≡ until_tab line
  until_here at e = rw (tab_at line at e).0 (until_first line)

  pub until_end : None ≡ position (λ b. b == 9) line → line ≡ until_tab line
  until_end e = sym (take_all (first line) line (no_tab line e)) ∙ until_first line

  pub past_here : (at : ℕ) → Some at ≡ position (λ b. b == 9) line →
      take (length line - (at + 1)) (drop (at + 1) line) ≡ past_tab line
  past_here at e =
      take_all (length line - (at + 1)) (drop (at + 1) line) (omega (arith, length-drop (at + 1) line))
      ∙ rw (tab_at line at e).0 (past_first line)

  pub past_end : None ≡ position (λ b. b == 9) line → [] ≡ past_tab line
  past_end e =
      let h : length line ≤ first line + 1 = omega (arith, no_tab line e) in sym (drop_of_length-le line h) ∙ past_first line

-- ---- a byte at a time: a tab ends a field, and no other byte does
module _ (line : List ℕ) (i : ℕ) (h : i < length line) where
  next_byte : drop i line ≡ get_or line i 0 ∷ drop (i + 1) line
  next_byte = drop-cons line i 0 h ∙ rw (add-one i)

  pub until_more : (get_or line i 0 ≡ 9 → ⊥) → length (until_tab (drop i line)) ≡ suc (length (until_tab (drop (i + 1) line)))
  unfolding until_tab when◌then◌else◌
  until_more ne = rw (next_byte, ne_eqb (get_or line i 0) 9 ne)

  pub until_no_more : get_or line i 0 ≡ 9 → length (until_tab (drop i line)) ≡ 0
  unfolding until_tab when◌then◌else◌
  until_no_more e = rw (next_byte, eq-eqb (get_or line i 0) 9 e)

pub until_past_end : (line : List ℕ) (i : ℕ) → length line ≤ i → length (until_tab (drop i line)) ≡ 0
unfolding until_tab
until_past_end line i h = rw (drop_of_length-le line h)

-- ---- field by field
pub field_next : (k : ℕ) (line : List ℕ) → field (suc k) line ≡ field k (past_tab line)
unfolding field
field_next k line = refl

pub field_zero : (line : List ℕ) → field 0 line ≡ until_tab line
unfolding field
field_zero line = refl
