-- One line of the program: what it asks, and the text of the answer.
use Rattle.std.specs.Prelude.{Bool, true, false, ◌&&◌, List, [], ◌∷◌, ◌++◌, ℕ, zero, suc, ◌+◌, ◌-◌, ◌*◌, ◌/◌, ◌%◌, eqb, Option, None, Some}
use Rattle.std.specs.Prelude.{leb, ltb, ℤ, pos, negsuc}
use Rattle.base.specs.Branch.{when◌then◌else◌}
use Rattle.rules.specs.declared.Player.TheVariants.{X, O}
use Rattle.rules.specs.Status.{Status}
use Rattle.rules.specs.Play.{no_move}
use Rattle.text.specs.Bytes.{space, minus, first_digit, letter, letter_draw, letter_refused}
use Rattle.text.specs.MoveText.{move_text}

-- ---- what a line asks: `position depth`
-- what stands before the last blank, and what follows it
pub data Parted : Type 0 where
  no_blank : Parted
  around : (text rest : List ℕ) → Parted

-- with c in front: a blank is the last one where none follows it
abbrev pub parted_with : ℕ → List ℕ → Parted → Parted
parted_with c cs no_blank = when eqb c space then (λ _. around [] cs) else λ _. no_blank
parted_with c cs (around text rest) = around (c ∷ text) rest

unfoldable pub parted : List ℕ → Parted
parted [] = no_blank
parted (c ∷ cs) = parted_with c cs (parted cs)

abbrev pub is_digit : ℕ → Bool
is_digit c = leb first_digit c && leb c (first_digit + 9)

-- one or two digits
unfoldable pub depth_of : List ℕ → Option ℕ
depth_of [] = None
depth_of (c ∷ []) = when is_digit c then (λ _. Some (c - first_digit)) else λ _. None
depth_of (c ∷ d ∷ []) = when is_digit c && is_digit d then (λ _. Some (10 * (c - first_digit) + (d - first_digit))) else λ _. None
depth_of (c ∷ d ∷ e ∷ cs) = None

pub data Question : Type 0 where
  -- 19
  no_depth : Question
  asks : (text : List ℕ) (depth : ℕ) → Question

abbrev pub asks_with : List ℕ → Option ℕ → Question
asks_with text None = no_depth
asks_with text (Some depth) = asks text depth

abbrev pub asked_by : Parted → Question
asked_by no_blank = no_depth
asked_by (around text rest) = asks_with text (depth_of rest)

-- of the bytes of a line without its line feed
abbrev pub asked : List ℕ → Question
asked line = asked_by (parted line)

-- ---- numbers
-- n with no zero in front, if it has at most k digits
unfoldable pub in_places : ℕ → ℕ → List ℕ
in_places zero n = []
in_places (suc k) n =
    when ltb n 10 then (λ _. (first_digit + n) ∷ []) else
    λ _. in_places k (n / 10) ++ ((first_digit + n % 10) ∷ [])

-- n has at most n + 1 digits
unfoldable pub decimal : ℕ → List ℕ
decimal n = in_places (suc n) n

unfoldable pub signed : ℤ → List ℕ
signed (pos n) = decimal n
signed (negsuc n) = minus ∷ decimal (suc n)

-- ---- the answer
abbrev pub shown : Bool → ℕ → List ℕ
shown true c = c ∷ []
shown false c = []

-- in the order X, O, D
abbrev pub status_letters : Status → List ℕ
status_letters s = shown s.x (letter X) ++ (shown s.o (letter O) ++ shown s.draw letter_draw)

-- moves up to the first empty one
unfoldable pub move_letters : List ℕ → List ℕ
move_letters [] = []
move_letters (m ∷ ms) = when eqb m no_move then (λ _. []) else λ _. move_text m ++ move_letters ms

abbrev pub or_minus : List ℕ → List ℕ
or_minus [] = minus ∷ []
or_minus (c ∷ cs) = c ∷ cs

-- `-` if there are none
abbrev pub moves_text : List ℕ → List ℕ
moves_text ms = or_minus (move_letters ms)

-- texts, parted by one blank
abbrev pub spaced : List (List ℕ) → List ℕ
spaced [] = []
spaced (t ∷ []) = t
spaced (t ∷ u ∷ us) = t ++ (space ∷ spaced (u ∷ us))

-- the results left, how many moves are legal, the last completed depth and its score, how many positions were entered, the line
abbrev pub answer_text : Status → ℕ → ℕ → ℤ → ℕ → List ℕ → List ℕ
answer_text s legal depth score count line =
    spaced (status_letters s ∷ decimal legal ∷ decimal depth ∷ signed score ∷ decimal count ∷ moves_text line ∷ [])

abbrev pub refusal_text : ℕ → List ℕ
refusal_text n = spaced ((letter_refused ∷ []) ∷ decimal n ∷ [])
