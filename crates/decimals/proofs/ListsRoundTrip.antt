-- The parts of a text make the text; a list of numbers is read back from its text; refused texts, computed.
use mathlib.Core.Path.{◌≡◌, refl, ap, ◌∙◌}
use mathlib.Core.Bool.{Bool, true, false}
use mathlib.Core.List.{List, [], ◌∷◌, ◌++◌, map}
use Prim.Native.Nat.{ℕ, ◌^◌, ◌<◌, ◌≤◌}
use native.Mathlib.Omega.{arith}
use lib.Dec.{eqb, leb, eqb→eq}
use lib.ListN.{length, drop}
use borrow.Author.Tests.{le-leb, leb-true, ne_eqb}
use Rattle.base.specs.Branch.{when◌then◌else◌}
use Rattle.base.proofs.Branch.{if_ind}
use Rattle.text.specs.Bytes.{space, quoted}
use Rattle.text.specs.ProgramLine.{decimal, spaced}
use Rattle.std.specs.Prelude.{Option, Some, None, option_map}
use Rattle.std.proofs.lemmas.Option.{none-some, same_Some}
use Rattle.decimals.specs.Numbers.{with_digit, digits_after, read_number}
use Rattle.decimals.specs.Lists.{text_parts, number_before, numbers_of, at_most, list_of, list_text, ListRead}
use Rattle.decimals.proofs.NumbersRoundTrip.{digit_read, first_digit_read, number_reads_back, AfterZeros, read_is_decimal}
use Rattle.decimals.proofs.ListsRead.{first_part}

-- ---- parts
spaced_first : (b : ℕ) (q : List ℕ) (qs : List (List ℕ)) → spaced ((b ∷ q) ∷ qs) ≡ b ∷ spaced (q ∷ qs)
spaced_first b q [] = refl
spaced_first b q (r ∷ rs) = refl

pub parts_make_text : (text : List ℕ) → spaced (text_parts text) ≡ text
unfolding text_parts
parts_make_text [] = refl
parts_make_text (b ∷ bs) =
    let f = first_part bs in
    let same : spaced (f.0 ∷ f.1) ≡ bs = rw f.2 at (parts_make_text bs) in
    if_ind (λ (qs : List (List ℕ)). spaced qs ≡ b ∷ bs) (eqb b space) _ _
    (λ t. rw (f.2, eqb→eq b space t) (ap (◌∷◌ space) same))
    (λ _. rw f.2 (spaced_first b f.0 f.1 ∙ ap (◌∷◌ b) same))

abbrev pub Blankless : List ℕ → Type 0
Blankless [] = Unit {0}
Blankless (b ∷ bs) = (b ≡ space → ⊥) × Blankless bs

abbrev pub EachBlankless : List (List ℕ) → Type 0
EachBlankless [] = Unit {0}
EachBlankless (p ∷ ps) = Blankless p × EachBlankless ps

one_part : (p : List ℕ) → Blankless p → text_parts p ≡ p ∷ []
unfolding text_parts when◌then◌else◌
one_part [] h = refl
one_part (b ∷ bs) h = rw (ne_eqb b space h.0, one_part bs h.1)

part_before : (p rest : List ℕ) → Blankless p → text_parts (p ++ (space ∷ rest)) ≡ p ∷ text_parts rest
unfolding text_parts when◌then◌else◌
part_before [] rest h = refl
part_before (b ∷ bs) rest h = rw (ne_eqb b space h.0, part_before bs rest h.1)

pub spaced_parts : (p : List ℕ) (ps : List (List ℕ)) → EachBlankless (p ∷ ps) → text_parts (spaced (p ∷ ps)) ≡ p ∷ ps
spaced_parts p [] h = one_part p h.0
spaced_parts p (q ∷ qs) h = part_before p (spaced (q ∷ qs)) h.0 ∙ ap (◌∷◌ p) (spaced_parts q qs h.1)

-- ---- a list of numbers
digits_blankless : (value : ℕ) (p : List ℕ) (n : ℕ) → digits_after value p ≡ Some n → Blankless p
digits_blankless value [] n e = tt
digits_blankless value (b ∷ bs) n e =
    let d = first_digit_read value b bs n e in
    let low = (digit_read value b d.0 d.1).0 in
    (λ h. omega arith, digits_blankless d.0 bs n d.2)

number_blankless : (p : List ℕ) (n : ℕ) → read_number p ≡ Some n → Blankless p
unfolding read_number
number_blankless [] n e = tt
number_blankless (b ∷ bs) n e = digits_blankless 0 (b ∷ bs) n e

abbrev pub EachBelow : ℕ → List ℕ → Type 0
EachBelow limit [] = Unit {0}
EachBelow limit (n ∷ ns) = (n < limit) × EachBelow limit ns

decimals_blankless : (ns : List ℕ) → EachBelow (2 ^ 64) ns → EachBlankless (map decimal ns)
decimals_blankless [] h = tt
decimals_blankless (n ∷ ns) h = (number_blankless (decimal n) n (number_reads_back n h.0), decimals_blankless ns h.1)

decimals_read : (ns : List ℕ) → EachBelow (2 ^ 64) ns → numbers_of (map decimal ns) ≡ Some ns
unfolding numbers_of
decimals_read [] h = refl
decimals_read (n ∷ ns) h = rw (number_reads_back n h.0, decimals_read ns h.1)

module _ (room n : ℕ) (ns : List ℕ) (small : EachBelow (2 ^ 64) (n ∷ ns)) where
  pub list_reads_back : length (n ∷ ns) ≤ room → list_of room (list_text (n ∷ ns)) ≡ Some (n ∷ ns)
  unfolding when◌then◌else◌
  list_reads_back fits =
      rw (
        spaced_parts (decimal n) (map decimal ns) (decimals_blankless (n ∷ ns) small),
        decimals_read (n ∷ ns) small,
        le-leb _ room fits,
      )

-- as `numbers` promises
pub text_is_read : (n : ℕ) (ns words : List ℕ) → EachBelow (2 ^ 64) (n ∷ ns) → length (n ∷ ns) ≤ length words →
    (r : Option ℕ) (after : List ℕ) →
    ListRead (list_text (n ∷ ns)) words r after →
    (r ≡ Some (length (n ∷ ns))) × (after ≡ (n ∷ ns) ++ drop (length (n ∷ ns)) words)
text_is_read n ns words small fits r after h =
    let e = list_reads_back (length words) n ns small fits in (h.count_is ∙ ap (option_map length) e, h.written (n ∷ ns) e)

-- ---- what is read is such a text, but for zeros before a number
abbrev pub EachAfterZeros : List (List ℕ) → List ℕ → Type 0
EachAfterZeros [] [] = Unit {0}
EachAfterZeros [] (n ∷ ns) = ⊥
EachAfterZeros (p ∷ ps) [] = ⊥
EachAfterZeros (p ∷ ps) (n ∷ ns) = AfterZeros p n × EachAfterZeros ps ns

parts_are_decimals : (ps : List (List ℕ)) (ns : List ℕ) → numbers_of ps ≡ Some ns → EachAfterZeros ps ns
unfolding numbers_of
parts_are_decimals [] ns e = rw (← same_Some [] ns e) tt
parts_are_decimals (p ∷ ps) ns e = go (read_number p) refl (numbers_of ps) refl (parts_are_decimals ps) e
  where
    go : (m : Option ℕ) → read_number p ≡ m → (ms : Option (List ℕ)) → numbers_of ps ≡ ms →
        ((ns : List ℕ) → numbers_of ps ≡ Some ns → EachAfterZeros ps ns) → number_before m ms ≡ Some ns →
        EachAfterZeros (p ∷ ps) ns
    go None h ms k more e = absurd (none-some ns e)
    go (Some n) h None k more e = absurd (none-some ns e)
    go (Some n) h (Some ms) k more e = rw (← same_Some (n ∷ ms) ns e) (read_is_decimal p n h, more ms k)

said_by : (room : ℕ) (said : Option (List ℕ)) (ns : List ℕ) → at_most room said ≡ Some ns →
    (said ≡ Some ns) × (length ns ≤ room)
unfolding when◌then◌else◌
said_by room None ns e = absurd (none-some ns e)
said_by room (Some ms) ns e = go (leb (length ms) room) refl e
  where
    go : (c : Bool) → leb (length ms) room ≡ c → (when c then (λ _. Some ms) else λ _. None) ≡ Some ns →
        (Some ms ≡ Some ns) × (length ns ≤ room)
    go true h e = (e, rw (← same_Some ms ns e) (leb-true (length ms) room h))
    go false h e = absurd (none-some ns e)

pub read_is_text : (room : ℕ) (text ns : List ℕ) → list_of room text ≡ Some ns →
    EachAfterZeros (text_parts text) ns × (length ns ≤ room)
read_is_text room text ns e =
    let s = said_by room (numbers_of (text_parts text)) ns e in (parts_are_decimals (text_parts text) ns s.0, s.1)

-- ---- texts at the edges
computing : Unit {0}
unfolding quoted text_parts numbers_of read_number digits_after with_digit when◌then◌else◌
computing = tt

-- leading zeros count for nothing; the largest number; as many as there is room for
pub accepted : (list_of 3 (quoted "7") ≡ Some (7 ∷ [])) × (list_of 3 (quoted "007 0 10") ≡ Some (7 ∷ 0 ∷ 10 ∷ []))
    × (list_of 1 (quoted "18446744073709551615") ≡ Some (18446744073709551615 ∷ []))
unfolding computing
accepted = (refl, refl, refl)

-- an empty text, one blank, two blanks between numbers, a blank before or after, a letter, a sign, a tab, 2^64, more numbers than room
pub refused : (list_of 3 [] ≡ None) × (list_of 3 (quoted " ") ≡ None) × (list_of 3 (quoted "1  2") ≡ None)
    × (list_of 3 (quoted " 1") ≡ None)
    × (list_of 3 (quoted "1 ") ≡ None) × (list_of 3 (quoted "1x") ≡ None) × (list_of 3 (quoted "-1") ≡ None)
    × (list_of 3 (0x31 ∷ 0x09 ∷ 0x32 ∷ []) ≡ None) × (list_of 3 (quoted "18446744073709551616") ≡ None)
    × (list_of 3 (quoted "1 2 3 4") ≡ None)
unfolding computing
refused = (refl, refl, refl, refl, refl, refl, refl, refl, refl, refl)
