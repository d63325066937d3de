-- The bytes of a text, read one after the other, give the numbers of its parts.
use mathlib.Core.Path.{◌≡◌, refl, ap, ◌∙◌}
use mathlib.Core.Bool.{Bool, true, false}
use mathlib.Core.List.{List, [], ◌∷◌, ◌++◌, append-nil}
use Prim.Native.Nat.{ℕ, ◌+◌, ◌<◌, ◌≤◌}
use native.Mathlib.Nat.{zero-add}
use native.Mathlib.Omega.{arith}
use lib.Dec.{eqb, eqb→eq}
use lib.ListN.{length, drop, length-append}
use lib.Seq.{append_snoc, set-append_seam}
use borrow.Author.Tests.{lt-ltb, le-ltb, le-leb, lt-leb}
use Rattle.base.specs.Branch.{when◌then◌else◌}
use Rattle.base.proofs.Branch.{if_ind}
use Rattle.text.specs.Bytes.{space}
use Rattle.text.specs.Reading.{first_longer}
use Rattle.std.specs.Prelude.{Option, Some, None, option_map, option_and_then, unwrap_or}
use Rattle.std.proofs.lemmas.Option.{none-some, same_Some}
use Rattle.decimals.specs.declared.list.Scan.{Scan}
use Rattle.decimals.specs.Numbers.{with_digit, digits_after, read_number}
use Rattle.decimals.specs.Lists.{text_parts, number_before, numbers_of, at_most}
use Rattle.decimals.specs.Lists.{new_scan, with_number, ends, scanned, words_after, Scanned, scanned_all, counted, ListRead}

some_length : (ms ns : List ℕ) → ◌≡◌ {A = Option (List ℕ)} (Some ms) (Some ns) → length ms ≡ length ns
some_length ms ns e = ap length (same_Some ms ns e)

-- ---- what was refused stays so
with_number_bad : (s : Scan) (n : Option ℕ) → s.good ≡ false → (with_number s n).good ≡ false
with_number_bad s (Some n) e = e
with_number_bad s None e = refl

scanned_bad : (s : Scan) (b n : ℕ) → s.good ≡ false → (scanned s b n).good ≡ false
unfolding scanned
scanned_bad s b n e =
    if_ind (λ (t : Scan). t.good ≡ false) _ _ _ (λ _. with_number_bad s (with_digit (unwrap_or s.number 0) b) e)
    (λ _. if_ind (λ (t : Scan). t.good ≡ false) (ends s n) _ _ (λ _. e) (λ _. refl))

all_bad : (text : List ℕ) (s : Scan) (words : List ℕ) → s.good ≡ false → (scanned_all s words text).scan.good ≡ false
unfolding scanned_all
all_bad [] s words e = scanned_bad s 32 (length words) e
all_bad (b ∷ bs) s words e = all_bad bs (scanned s b (length words)) (words_after s b words) (scanned_bad s b (length words) e)

-- ---- a scan within a part
abbrev state : Option ℕ → List ℕ → Scan
state number done = record { number = number; count = length done; good = true }

-- the part's number, whose first digits make a number
abbrev part_from : Option ℕ → List ℕ → Option ℕ
part_from (Some value) p = digits_after value p
part_from None p = read_number p

abbrev numbers_from : Option ℕ → List (List ℕ) → Option (List ℕ)
numbers_from number [] = None
numbers_from number (p ∷ ps) = number_before (part_from number p) (numbers_of ps)

pub first_part : (text : List ℕ) → (p : List ℕ) × (ps : List (List ℕ)) × (text_parts text ≡ p ∷ ps)
unfolding text_parts
first_part [] = ([], [], refl)
first_part (b ∷ bs) =
    if_ind (λ (qs : List (List ℕ)). (p : List ℕ) × (ps : List (List ℕ)) × (qs ≡ p ∷ ps)) (eqb b space) _ _
    (λ _. ([], text_parts bs, refl)) (λ _. let f = first_part bs in (b ∷ f.0, f.1, rw f.2))

new_part : (text : List ℕ) → numbers_from None (text_parts text) ≡ numbers_of (text_parts text)
unfolding numbers_of
new_part text = let f = first_part text in rw f.2

longer_part : (number : Option ℕ) (b : ℕ) (p : List ℕ) →
    part_from number (b ∷ p) ≡ option_and_then (λ more. digits_after more p) (with_digit (unwrap_or number 0) b)
unfolding digits_after read_number
longer_part (Some value) b p = refl
longer_part None b p = refl

-- ---- how a text ends
data Outcome (done rest : List ℕ) (said : Option (List ℕ)) (r : Scanned) : Type 0 where
  all_read : (ns : List ℕ) → said ≡ Some ns → length ns ≤ length rest → r.scan.good ≡ true →
      r.scan.count ≡ length done + length ns → r.words ≡ done ++ (ns ++ drop (length ns) rest) → Outcome done rest said r
  refused : ((ns : List ℕ) → said ≡ Some ns → length rest < length ns) → r.scan.good ≡ false → Outcome done rest said r

-- a number before others
one_before : (done rest : List ℕ) (value w : ℕ) (said : Option (List ℕ)) (r : Scanned) →
    Outcome (done ++ (value ∷ [])) rest said r → Outcome done (w ∷ rest) (number_before (Some value) said) r
one_before done rest value w said r (all_read ns e l g c ws) =
    all_read (value ∷ ns) (rw e) (omega arith) g (c ∙ simp length-append (omega arith))
    (ws ∙ append_snoc done value (ns ++ drop (length ns) rest))
one_before done rest value w None r (refused h g) = refused (λ ns e. absurd (none-some ns e)) g
one_before done rest value w (Some ms) r (refused h g) =
    refused (λ ns e. omega (arith, h ms refl, some_length (value ∷ ms) ns e)) g

no_room_before : (value : ℕ) (said : Option (List ℕ)) (ns : List ℕ) → number_before (Some value) said ≡ Some ns → 0 < length ns
no_room_before value None ns e = absurd (none-some ns e)
no_room_before value (Some ms) ns e = omega (arith, some_length (value ∷ ms) ns e)

-- the end of a part: what comes after it is said by `next`
part_ends : (number : Option ℕ) (done rest : List ℕ) (said : Option (List ℕ)) (next : Scan → List ℕ → Scanned) →
    ((s : Scan) (words : List ℕ) → s.good ≡ false → (next s words).scan.good ≡ false) →
    ((done rest : List ℕ) → Outcome done rest said (next (state None done) (done ++ rest))) →
    Outcome done rest (number_before (part_from number []) said)
    (next (scanned (state number done) space (length (done ++ rest))) (words_after (state number done) space (done ++ rest)))
unfolding scanned words_after when◌then◌else◌ digits_after read_number
part_ends None done rest said next bad more = refused (λ ns e. absurd (none-some ns e)) (bad _ _ refl)
part_ends (Some value) done [] said next bad more =
    let h : length (done ++ []) ≤ length done = rw (append-nil done) (omega arith) in
    rw (le-ltb (length done) (length (done ++ [])) h) (refused (no_room_before value said) (bad _ _ refl))
part_ends (Some value) done (w ∷ rest) said next bad more =
    let h : length done < length (done ++ (w ∷ rest)) = simp length-append (omega arith) in
    let n : length (done ++ (value ∷ [])) ≡ length done + 1 = simp length-append (omega arith) in
    rw (lt-ltb (length done) (length (done ++ (w ∷ rest))) h, set-append_seam done w rest value)
    (one_before done rest value w said _ (rw (n, append_snoc done value rest) at (more (done ++ (value ∷ [])) rest)))

-- ---- a text
digit_read : (number : Option ℕ) (b : ℕ) (bs done rest : List ℕ) (n : Option ℕ) → with_digit (unwrap_or number 0) b ≡ n →
    ((more : ℕ) → Outcome done rest (numbers_from (Some more) (text_parts bs))
    (scanned_all (state (Some more) done) (done ++ rest) bs)) →
    Outcome done rest (numbers_from number (first_longer b (text_parts bs)))
    (scanned_all (with_number (state number done) n) (done ++ rest) bs)
digit_read number b bs done rest n e more = let f = first_part bs in go n e f
  where
    go : (n : Option ℕ) → with_digit (unwrap_or number 0) b ≡ n → (p : List ℕ) × (ps : List (List ℕ)) × (text_parts bs ≡ p ∷ ps) →
        Outcome done rest (numbers_from number (first_longer b (text_parts bs)))
        (scanned_all (with_number (state number done) n) (done ++ rest) bs)
    go (Some m) e f = rw (f.2, longer_part number b f.0, e) (rw f.2 at (more m))
    go None e f =
        rw (f.2, longer_part number b f.0, e)
        (refused (λ ns h. absurd (none-some ns h)) (all_bad bs _ (done ++ rest) refl))

abbrev TextRead : List ℕ → Option ℕ → List ℕ → List ℕ → Type 0
TextRead text number done rest =
    Outcome done rest (numbers_from number (text_parts text)) (scanned_all (state number done) (done ++ rest) text)

byte_read : (number : Option ℕ) (b : ℕ) (bs done rest : List ℕ) →
    ((number : Option ℕ) (done rest : List ℕ) → TextRead bs number done rest) → (c : Bool) → eqb b space ≡ c →
    Outcome done rest (numbers_from number (when c then (λ _. [] ∷ text_parts bs) else λ _. first_longer b (text_parts bs)))
    (scanned_all (scanned (state number done) b (length (done ++ rest))) (words_after (state number done) b (done ++ rest)) bs)
unfolding when◌then◌else◌ scanned words_after
byte_read number b bs done rest more true e =
    let s : b ≡ space = eqb→eq b space (rw e tt) in
    rw s (part_ends number done rest (numbers_of (text_parts bs)) (λ s words. scanned_all s words bs) (all_bad bs)
    (λ done rest. rw (new_part bs) at (more None done rest)))
byte_read number b bs done rest more false e =
    rw e (digit_read number b bs done rest (with_digit (unwrap_or number 0) b) refl (λ m. more (Some m) done rest))

text_read : (text : List ℕ) (number : Option ℕ) (done rest : List ℕ) → TextRead text number done rest
unfolding scanned_all text_parts numbers_of
text_read [] number done rest =
    part_ends number done rest (Some []) (λ s words. record { scan = s; words = words }) (λ s words e. e)
    (λ done rest. all_read [] refl (omega arith) refl (omega arith) refl)
text_read (b ∷ bs) number done rest = byte_read number b bs done rest (text_read bs) (eqb b space) refl

-- ---- what is answered
module _ (text words : List ℕ) where
  outcome : Outcome [] words (numbers_of (text_parts text)) (scanned_all new_scan words text)
  outcome = rw (new_part text) at (text_read text None [] words)

  answered : (said : Option (List ℕ)) (r : Scanned) → Outcome [] words said r →
      (counted r.scan ≡ option_map length (at_most (length words) said)) ×
      ((ns : List ℕ) → at_most (length words) said ≡ Some ns → r.words ≡ ns ++ drop (length ns) words)
  unfolding when◌then◌else◌
  answered said r (all_read ns e l g c ws) = rw (e, g, le-leb (length ns) (length words) l) (
    rw c (ap Some (zero-add (length ns))),
    λ ms h. let same = same_Some ns ms h in rw (← same) ws,
  )
  answered None r (refused h g) = rw g (refl, λ ns e. absurd (none-some ns e))
  answered (Some ms) r (refused h g) =
      rw (g, lt-leb (length ms) (length words) (h ms refl)) (refl, λ ns e. absurd (none-some ns e))

  pub list_read : (r : Option ℕ) (after : List ℕ) → r ≡ counted (scanned_all new_scan words text).scan →
      after ≡ (scanned_all new_scan words text).words → ListRead text words r after
  list_read r after c w =
      let a = answered (numbers_of (text_parts text)) (scanned_all new_scan words text) outcome in
      record { count_is = c ∙ a.0; written = λ ns e. w ∙ a.1 ns e; words_are = w }
