-- A record's numbers, compared with the expected ones as these come.
use Rattle.std.specs.Prelude.{Bool, true, false, ◌&&◌, List, [], ◌∷◌, ℕ, ◌==◌, eqb, length, Option, Some, None, option_copied}
use Rattle.base.specs.Branch.{when◌then◌else◌}
use Rattle.replay.specs.declared.agreement.Agreement.{Agreement}

-- two lists have the same numbers
unfoldable pub same_numbers : List ℕ → List ℕ → Bool
same_numbers [] [] = true
same_numbers [] (y ∷ ys) = false
same_numbers (x ∷ xs) [] = false
same_numbers (x ∷ xs) (y ∷ ys) = eqb x y && same_numbers xs ys

-- the record's numbers that are left to meet: none where one that came was not as expected
abbrev pub left_of : Agreement → Option (List ℕ)
left_of a = option_copied a.left

-- the next number is to be n
unfoldable pub compared : Option (List ℕ) → ℕ → Option (List ℕ)
compared (Some (x ∷ xs)) n = when eqb x n then (λ _. Some xs) else λ _. None
compared (Some []) n = None
compared None n = None

abbrev pub compared_all : Option (List ℕ) → List ℕ → Option (List ℕ)
compared_all left [] = left
compared_all left (n ∷ ns) = compared_all (compared left n) ns

-- by the law `compared_is_same` the record has the same numbers as the list that it was compared with
abbrev pub wholly_agrees : Option (List ℕ) → Bool
wholly_agrees (Some left) = length left == 0
wholly_agrees None = false
