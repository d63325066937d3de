-- What a call returns and leaves in a lent slice: ok is whether it is asked rightly.
use Rattle.std.specs.Prelude.{◌≡◌, Bool, List, ◌++◌, ℕ, length, drop}
use Rattle.std.proofs.lemmas.List.Edits.{sets}
use Rattle.base.specs.Branch.{when◌then◌else◌}

-- a slice is too short, words are no position, or a draw winner is over 2
abbrev pub bad_argument : ℕ
bad_argument = 255

unfoldable pub returned : Bool → ℕ → ℕ
returned ok n = when ok then (λ _. n) else λ _. bad_argument

-- xs in the first places and the rest as it was; asked wrongly, all as it was
unfoldable pub left : Bool → List ℕ → List ℕ → List ℕ
left ok xs old = when ok then (λ _. xs ++ drop (length xs) old) else λ _. old

-- n values, stored one by one from the first place on
pub record Puts (old xs : List ℕ) (n : ℕ) (new : List ℕ) : Type 0 where
  pub stored : new ≡ sets old 0 xs
  pub many : length xs ≡ n
