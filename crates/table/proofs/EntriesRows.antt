-- Rows of words: what a look_up finds and what a store writes, by the cases that the code tells apart, and the one after the other.
use Rattle.std.specs.Prelude.{Option, None, Some}
use mathlib.Core.Path.{◌≡◌, refl, sym, ap, ap₂, ◌∙◌}
use mathlib.Core.Bool.{true, false}
use mathlib.Core.List.{List}
use Prim.Native.Nat.{ℕ, ◌+◌, ◌/◌, ◌≤◌, ◌<◌}
use native.Mathlib.Nat.{mod-lt}
use native.Mathlib.Omega.{arith}
use lib.Dec.{eqb, ltb, ltb→lt, nltb→le}
use lib.ListN.{length, get_or, set, length-set}
use lib.Seq.{get_or-set_same, get_or-set_other}
use borrow.Author.Tests.{eq-eqb, ne_eqb}
use Rattle.base.specs.Branch.{when◌then◌else◌}
use Rattle.base.proofs.Branch.{if_ind}
use Rattle.theory.specs.Table.{Entry, to_word, rest_of, entry_of, off, begins, look_up, replaces, store}
use Rattle.table.proofs.EntriesWords.{Kept, entry_back}

-- an entry's three words are within the row
pub begins_within : (n h : ℕ) → 3 ≤ n → begins n h + 2 < n
unfolding begins
begins_within n h k = omega (arith, mod-lt h {m = n / 3} (omega arith))

-- the entry whose words begin at i, whichever position's it is
abbrev pub held_at : List ℕ → ℕ → Option Entry
held_at words i = entry_of (get_or words (i + 1) 0) (get_or words (i + 2) 0)

abbrev pub written : List ℕ → ℕ → ℕ → Entry → List ℕ
written words i h e = set (set (set words i h) (i + 1) (to_word e.value)) (i + 2) (rest_of e)

-- ---- a table that is off: nothing is found, and a store leaves the row as it is
module _ (words : List ℕ) (h : ℕ) (k : length words < 3) where
  pub look_up_off : look_up words h ≡ None
  unfolding look_up off
  look_up_off =
      if_ind (λ (o : Option Entry). o ≡ None) (ltb (length words) 3) _ _ (λ _. refl)
      (λ t. absurd (omega (arith, nltb→le (length words) 3 t)))

  pub store_off : (e : Entry) → store words h e ≡ words
  unfolding store off
  store_off e =
      if_ind (λ (l : List ℕ). l ≡ words) (ltb (length words) 3) _ _ (λ _. refl)
      (λ t. absurd (omega (arith, nltb→le (length words) 3 t)))

-- ---- one that is on, where the words of a hash begin at i
module _ (words : List ℕ) (h i : ℕ) (k : 3 ≤ length words) (at : i ≡ begins (length words) h) where
  look_up_on : look_up words h ≡ (when eqb (get_or words i 0) h then (λ _. held_at words i) else λ _. None)
  unfolding look_up off
  look_up_on =
      if_ind (λ (o : Option Entry). o ≡ (when eqb (get_or words i 0) h then (λ _. held_at words i) else λ _. None)) (ltb (length words) 3)
      _ _
      (λ t. absurd (omega (arith, ltb→lt (length words) 3 t)))
      (λ _. ap (λ (j : ℕ). when eqb (get_or words j 0) h then (λ _. held_at words j) else λ _. None) (sym at))

  -- another position's entry is not taken
  pub look_up_other : (get_or words i 0 ≡ h → ⊥) → look_up words h ≡ None
  unfolding when◌then◌else◌
  look_up_other f = look_up_on ∙ rw (ne_eqb (get_or words i 0) h f)

  pub look_up_same : get_or words i 0 ≡ h → look_up words h ≡ held_at words i
  unfolding when◌then◌else◌
  look_up_same p = look_up_on ∙ rw (eq-eqb (get_or words i 0) h p)

  module _ (e : Entry) where
    store_on : store words h e ≡ (when replaces e.depth (held_at words i) then (λ _. written words i h e) else λ _. words)
    unfolding store off
    store_on =
        if_ind (λ (l : List ℕ). l ≡ (when replaces e.depth (held_at words i) then (λ _. written words i h e) else λ _. words))
        (ltb (length words) 3) _ _
        (λ t. absurd (omega (arith, ltb→lt (length words) 3 t)))
        (λ _. ap (λ (j : ℕ). when replaces e.depth (held_at words j) then (λ _. written words j h e) else λ _. words) (sym at))

    pub store_refused : replaces e.depth (held_at words i) ≡ false → store words h e ≡ words
    unfolding when◌then◌else◌
    store_refused r = store_on ∙ rw r

    pub store_taken : replaces e.depth (held_at words i) ≡ true → store words h e ≡ written words i h e
    unfolding when◌then◌else◌
    store_taken r = store_on ∙ rw r

    -- the same, where the two words are known by equations
    pub store_wrote : (v r : ℕ) → v ≡ to_word e.value → r ≡ rest_of e → replaces e.depth (held_at words i) ≡ true →
        set (set (set words i h) (i + 1) v) (i + 2) r ≡ store words h e
    store_wrote v r p q t = ap₂ (λ (x y : ℕ). set (set (set words i h) (i + 1) x) (i + 2) y) p q ∙ sym (store_taken t)

-- ---- the one after the other
pub written_length : (words : List ℕ) (i h : ℕ) (e : Entry) → length (written words i h e) ≡ length words
written_length words i h e = simp length-set

module _ (words : List ℕ) (i h : ℕ) (e : Entry) (k : i + 2 < length words) where
  first_word : get_or (written words i h e) i 0 ≡ h
  first_word =
      get_or-set_other (set (set words i h) (i + 1) (to_word e.value)) (i + 2) i (rest_of e) 0 (λ p. omega arith)
      ∙ get_or-set_other (set words i h) (i + 1) i (to_word e.value) 0 (λ p. omega arith)
      ∙ get_or-set_same words i h 0 (omega arith)

  second_word : get_or (written words i h e) (i + 1) 0 ≡ to_word e.value
  second_word =
      get_or-set_other (set (set words i h) (i + 1) (to_word e.value)) (i + 2) (i + 1) (rest_of e) 0 (λ p. omega arith)
      ∙ get_or-set_same (set words i h) (i + 1) (to_word e.value) 0 (simp length-set (omega arith))

  third_word : get_or (written words i h e) (i + 2) 0 ≡ rest_of e
  third_word = get_or-set_same (set (set words i h) (i + 1) (to_word e.value)) (i + 2) (rest_of e) 0 (simp length-set (omega arith))

  -- what is written at a hash's slot is found there
  found : 3 ≤ length words → i ≡ begins (length words) h → Kept e → look_up (written words i h e) h ≡ Some e
  found l at f =
      let w = written words i h e in
      let n : length w ≡ length words = written_length words i h e in
      look_up_same w h i (omega arith) (at ∙ ap (λ (m : ℕ). begins m h) (sym n)) first_word
      ∙ ap₂ entry_of second_word third_word
      ∙ entry_back e f

-- an entry that was stored is found
pub look_up_stored : (words : List ℕ) (h : ℕ) (e : Entry) → 3 ≤ length words → Kept e →
    replaces e.depth (held_at words (begins (length words) h)) ≡ true → look_up (store words h e) h ≡ Some e
look_up_stored words h e k f r =
    let i = begins (length words) h in
    ap (λ (w : List ℕ). look_up w h) (store_taken words h i k refl e r) ∙ found words i h e (begins_within (length words) h k) k refl f
