-- Lists of numbers parted by single blanks: what a text says, and the same read byte by byte into lent words.
use Rattle.std.specs.Prelude.{◌≡◌, Bool, true, false, not, ◌&&◌, List, [], ◌∷◌, ◌++◌, map, ℕ, ◌+◌, eqb, leb, ltb, length, set, drop}
use Rattle.std.specs.Prelude.{Option, Some, None, is_some, unwrap_or, option_map}
use Rattle.std.specs.Bool.{then_some}
use Rattle.base.specs.Branch.{when◌then◌else◌}
use Rattle.text.specs.Bytes.{space}
use Rattle.text.specs.Reading.{first_longer}
use Rattle.text.specs.ProgramLine.{decimal, spaced}
use Rattle.decimals.specs.declared.list.Scan.{Scan}
use Rattle.decimals.specs.Numbers.{with_digit, read_number}

-- ---- what a text says
-- a text cut at each blank; one without a blank is its only part
unfoldable pub text_parts : List ℕ → List (List ℕ)
text_parts [] = [] ∷ []
text_parts (b ∷ bs) = when eqb b space then (λ _. [] ∷ text_parts bs) else λ _. first_longer b (text_parts bs)

abbrev pub number_before : Option ℕ → Option (List ℕ) → Option (List ℕ)
number_before None ns = None
number_before (Some n) ns = option_map (λ ns. n ∷ ns) ns

-- the numbers of all parts, if each part is one
unfoldable pub numbers_of : List (List ℕ) → Option (List ℕ)
numbers_of [] = Some []
numbers_of (p ∷ ps) = number_before (read_number p) (numbers_of ps)

abbrev pub at_most : ℕ → Option (List ℕ) → Option (List ℕ)
at_most room None = None
at_most room (Some ns) = when leb (length ns) room then (λ _. Some ns) else λ _. None

-- the numbers of a text, if there is room for them
abbrev pub list_of : ℕ → List ℕ → Option (List ℕ)
list_of room text = at_most room (numbers_of (text_parts text))

-- the text of a list of numbers
abbrev pub list_text : List ℕ → List ℕ
list_text ns = spaced (map decimal ns)

-- ---- a text read byte by byte
abbrev pub new_scan : Scan
new_scan = record { number = None; count = 0; good = true }

-- what could not be read stays so
abbrev pub spoilt : Scan → Scan
spoilt s = record { number = None; count = s.count; good = false }

abbrev pub with_number : Scan → Option ℕ → Scan
with_number s (Some n) = record { number = Some n; count = s.count; good = s.good }
with_number s None = spoilt s

-- whether a blank ends a number, and fewer than n stand before it
abbrev pub ends : Scan → ℕ → Bool
ends s n = is_some s.number && ltb s.count n

-- after a byte, with room for n numbers
unfoldable pub scanned : Scan → ℕ → ℕ → Scan
scanned s b n =
    when not (eqb b space) then (λ _. with_number s (with_digit (unwrap_or s.number 0) b)) else
    λ _. when ends s n then (λ _. record { number = None; count = s.count + 1; good = s.good }) else
    λ _. spoilt s

-- the words after a byte
unfoldable pub words_after : Scan → ℕ → List ℕ → List ℕ
words_after s b words =
    when eqb b space && ends s (length words) then (λ _. set words s.count (unwrap_or s.number 0)) else λ _. words

pub record Scanned : Type 0 where
  pub scan : Scan
  pub words : List ℕ

-- after all bytes of a text, whose end ends a number too
unfoldable pub scanned_all : Scan → List ℕ → List ℕ → Scanned
scanned_all s words [] = record { scan = scanned s space (length words); words = words_after s space words }
scanned_all s words (b ∷ bs) = scanned_all (scanned s b (length words)) (words_after s b words) bs

abbrev pub counted : Scan → Option ℕ
counted s = then_some s.good s.count

-- what is answered of a text: how many numbers it says; they stand first in the words, the others are as before
pub record ListRead (text words : List ℕ) (r : Option ℕ) (after : List ℕ) : Type 0 where
  pub count_is : r ≡ option_map length (list_of (length words) text)
  pub written : (ns : List ℕ) → list_of (length words) text ≡ Some ns → after ≡ ns ++ drop (length ns) words
  -- of a refused text too
  pub words_are : after ≡ (scanned_all new_scan words text).words
