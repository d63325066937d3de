-- The table, on rows of six words: two entries. What is read and written is worked out from the layout, word by word.
use Rattle.std.specs.Prelude.{Option, None, Some}
use mathlib.Core.Path.{◌≡◌, refl}
use mathlib.Core.Bool.{true, false}
use mathlib.Core.List.{List, [], ◌∷◌}
use Prim.Native.Nat.{ℕ}
use lib.IntN.{ℤ, pos, negsuc}
use Rattle.base.specs.Branch.{when◌then◌else◌}
use Rattle.theory.specs.PlainMinimax.{lowest, highest}
use Rattle.theory.specs.Table.{Entry, from_word, entry_of, off, begins, look_up, store, suffices, bound_of}

abbrev entry : ℤ → ℕ → ℕ → ℕ → Entry
entry v d b m = record { value = v; depth = d; bound = b; move = m }

abbrev zeros : List ℕ
zeros = 0 ∷ 0 ∷ 0 ∷ 0 ∷ 0 ∷ 0 ∷ []

-- hash 7: value -3, depth 4, AtLeast, move 0x44
abbrev seven : List ℕ
seven = 0 ∷ 0 ∷ 0 ∷ 7 ∷ 18446744073709551613 ∷ 4456708 ∷ []

-- hash 9, in the same slot: value 5, depth 5, Exact, move 0x11
abbrev nine : List ℕ
nine = 0 ∷ 0 ∷ 0 ∷ 9 ∷ 5 ∷ 1114117 ∷ []

unfoldable looked : List ℕ → ℕ → Option Entry
unfolding look_up off begins entry_of from_word when◌then◌else◌
looked = look_up

unfoldable stored : List ℕ → ℕ → Entry → List ℕ
unfolding store off begins entry_of from_word when◌then◌else◌
stored = store

-- an entry is written to its slot, and read again
entry_kept : (stored zeros 7 (entry (negsuc 2) 4 1 0x44) ≡ seven) × (looked seven 7 ≡ Some (entry (negsuc 2) 4 1 0x44))
unfolding stored looked
entry_kept = (refl, refl)

-- it is not taken for another position's of the same slot, nor for one of another slot
entry_of_its_own : (looked seven 9 ≡ None) × (looked seven 8 ≡ None) × (looked zeros 0 ≡ None)
unfolding looked
entry_of_its_own = (refl, refl, refl)

-- a deeper one replaces it, whichever position it is of; one as deep or shallower does not
deeper_replaces : (stored seven 9 (entry (pos 5) 5 0 0x11) ≡ nine) × (stored seven 9 (entry (pos 5) 4 0 0x11) ≡ seven) ×
    (stored seven 7 (entry (pos 5) 4 0 0x11) ≡ seven) × (stored seven 7 (entry (pos 5) 3 0 0x11) ≡ seven)
unfolding stored
deeper_replaces = (refl, refl, refl, refl)

-- with fewer than three words nothing is read or written
too_short : (looked (7 ∷ 5 ∷ []) 7 ≡ None) × (stored (7 ∷ 5 ∷ []) 7 (entry (pos 5) 4 0 0x11) ≡ 7 ∷ 5 ∷ []) ×
    (looked [] 7 ≡ None)
unfolding looked stored
too_short = (refl, refl, refl)

unfoldable read : ℕ → ℕ → Option Entry
unfolding entry_of from_word when◌then◌else◌
read = entry_of

-- an entry is absent with depth 0 or 82, bound 3, or a bit beyond the move
absent_rest : (read 5 4456704 ≡ None) × (read 5 4456786 ≡ None) × (read 5 4457220 ≡ None) × (read 5 16777476 ≡ None) ×
    (read 5 9223372036859232516 ≡ None)
unfolding read
absent_rest = (refl, refl, refl, refl, refl)

-- or a value of 2^60 + 2 or more, or -2^60 - 2 or less
absent_value : (read 1152921504606846978 4456708 ≡ None) × (read 17293822569102704638 4456708 ≡ None)
unfolding read
absent_value = (refl, refl)

-- it is there at each edge of these
present : (read 5 4456785 ≡ Some (entry (pos 5) 81 1 0x44)) × (read 5 4456964 ≡ Some (entry (pos 5) 4 2 0x44)) ×
    (read 5 16711940 ≡ Some (entry (pos 5) 4 1 0xff)) × (read 1152921504606846977 4456708 ≡ Some (entry highest 4 1 0x44)) ×
    (read 17293822569102704639 4456708 ≡ Some (entry lowest 4 1 0x44))
unfolding read
present = (refl, refl, refl, refl, refl)

-- an absent entry is replaced by any
absent_replaced : stored (0 ∷ 0 ∷ 0 ∷ 7 ∷ 5 ∷ 4456786 ∷ []) 7 (entry (negsuc 2) 4 1 0x44) ≡ seven
unfolding stored
absent_replaced = refl

-- Exact suffices at its depth or less, AtLeast if it reaches the upper edge, AtMost if it does not exceed the lower one
sufficing : (suffices (entry (pos 5) 4 0 0) 4 (pos 0) (pos 9) ≡ true) × (suffices (entry (pos 5) 4 0 0) 5 (pos 0) (pos 9) ≡ false) ×
    (suffices (entry (pos 5) 4 1 0) 3 (pos 0) (pos 5) ≡ true) × (suffices (entry (pos 5) 4 1 0) 3 (pos 0) (pos 6) ≡ false) ×
    (suffices (entry (pos 5) 4 2 0) 3 (pos 5) (pos 9) ≡ true) × (suffices (entry (pos 5) 4 2 0) 3 (pos 4) (pos 9) ≡ false)
unfolding suffices
sufficing = (refl, refl, refl, refl, refl, refl)

-- a score at the lower edge is AtMost, at the upper one AtLeast, between them Exact
bounds : (bound_of (pos 0) (pos 9) (pos 0) ≡ 2) × (bound_of (pos 0) (pos 9) (pos 9) ≡ 1) × (bound_of (pos 0) (pos 9) (pos 8) ≡ 0) ×
    (bound_of (pos 0) (pos 9) (pos 1) ≡ 0)
unfolding bound_of when◌then◌else◌
bounds = (refl, refl, refl, refl)
