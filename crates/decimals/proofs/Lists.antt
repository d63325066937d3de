-- Lists of numbers, a byte at a time.
use mathlib.Core.Path.{◌≡◌, refl}
use mathlib.Core.List.{List}
use Prim.Native.Nat.{ℕ, ◌+◌, ◌<◌, ◌≤◌}
use native.Mathlib.Numerals.{add-one}
use lib.ListN.{length, get_or, set, drop, drop_of_length-le}
use lib.Seq.{drop-cons}
use borrow.Author.Tests.{eq-eqb, ne_eqb, lt-ltb, le-ltb}
use Rattle.std.specs.Prelude.{Some, None, unwrap_or}
use Rattle.base.specs.Branch.{when◌then◌else◌}
use Rattle.decimals.specs.declared.list.Scan.{Scan}
use Rattle.decimals.specs.Numbers.{with_digit}
use Rattle.decimals.specs.Lists.{spoilt, with_number, scanned, words_after, scanned_all}

abbrev After : Scan → ℕ → List ℕ → Scan → List ℕ → Type 0
After s b words t after = (t ≡ scanned s b (length words)) × (after ≡ words_after s b words)

-- ---- the ways of a byte
module _ (s : Scan) (b : ℕ) (words : List ℕ) where
  pub goes_on : (t : Scan) → (b ≡ 32 → ⊥) → t ≡ with_number s (with_digit (unwrap_or s.number 0) b) → After s b words t words
  unfolding scanned words_after when◌then◌else◌
  goes_on t ne e = rw (ne_eqb b 32 ne) (e, refl)

  pub nothing : (t : Scan) → b ≡ 32 → s.number ≡ None → t ≡ spoilt s → After s b words t words
  unfolding scanned words_after when◌then◌else◌
  nothing t h a e = rw (eq-eqb b 32 h, a) (e, refl)

  pub room : (n : ℕ) → b ≡ 32 → s.number ≡ Some n → s.count < length words → After s b words
      (record { number = None; count = s.count + 1; good = s.good }) (set words s.count n)
  unfolding scanned words_after when◌then◌else◌
  room n h a l = rw (eq-eqb b 32 h, a, lt-ltb s.count (length words) l) (refl, refl)

  pub no_room : (t : Scan) (n : ℕ) → b ≡ 32 → s.number ≡ Some n → length words ≤ s.count → t ≡ spoilt s → After s b words t words
  unfolding scanned words_after when◌then◌else◌
  no_room t n h a l e = rw (eq-eqb b 32 h, a, le-ltb s.count (length words) l) (e, refl)

-- ---- all bytes of a text
module _ (text : List ℕ) (s : Scan) (words : List ℕ) (i : ℕ) where
  pub scan_next : i < length text → scanned_all s words (drop i text) ≡ scanned_all (scanned s (get_or text i 0) (length words))
      (words_after s (get_or text i 0) words) (drop (i + 1) text)
  unfolding scanned_all
  scan_next h = rw (drop-cons text i 0 h, add-one i)

  pub scan_end : length text ≤ i → scanned_all s words (drop i text) ≡ record
      { scan = scanned s 32 (length words); words = words_after s 32 words }
  unfolding scanned_all
  scan_end h = rw (drop_of_length-le text h)
