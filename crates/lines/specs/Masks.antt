-- The eight lines by their numbers, and as masks.
use Rattle.std.specs.Prelude.{List, [], ◌∷◌, map, ℕ, ◌+◌, ◌^◌, get_or}
use Rattle.rules.specs.Board.{Line, line, lines}

-- line i of the eight
abbrev pub line_at : ℕ → Line
line_at i = get_or lines i (line 0 0 0)

abbrev pub masks : List ℕ
masks = 0x7 ∷ 0x38 ∷ 0x1c0 ∷ 0x49 ∷ 0x92 ∷ 0x124 ∷ 0x111 ∷ 0x54 ∷ []

-- a line's three places, as bits
abbrev pub mask_of : Line → ℕ
mask_of l = 2 ^ l.i + 2 ^ l.j + 2 ^ l.k

-- a line's three places, as a list
abbrev pub indices : Line → List ℕ
indices l = l.i ∷ l.j ∷ l.k ∷ []

-- place j of line i, 9 where there is none
abbrev pub pattern_at : ℕ → ℕ → ℕ
pattern_at i j = get_or (get_or (map indices lines) i []) j 9
