-- The bytes that texts are made of.
use Rattle.std.specs.Prelude.{List, [], ◌∷◌, ◌++◌, ℕ}
use Prim.Native.Char.{code}
use Prim.Native.String.{String}
use Rattle.base.specs.LineFeed.{line_feed}
use Rattle.rules.specs.declared.Player.{Player}
use Rattle.rules.specs.declared.Player.TheVariants.{X, O}

abbrev pub semicolon : ℕ
semicolon = 0x3b

abbrev pub slash : ℕ
slash = 0x2f

abbrev pub dot : ℕ
dot = 0x2e

-- of a drawn board
abbrev pub hash_mark : ℕ
hash_mark = 0x23

-- of the board that is due
abbrev pub at_mark : ℕ
at_mark = 0x40

abbrev pub letter : Player → ℕ
letter X = 0x58
letter O = 0x4f

-- `a`, of board 0 or cell 0 of a move
abbrev pub first_letter : ℕ
first_letter = 0x61

-- ---- of the program's lines
abbrev pub space : ℕ
space = 0x20

-- of a negative number, and for no move
abbrev pub minus : ℕ
minus = 0x2d

-- `0`
abbrev pub first_digit : ℕ
first_digit = 0x30

-- `D`, of a draw
abbrev pub letter_draw : ℕ
letter_draw = 0x44

-- `E`, of a refused line
abbrev pub letter_refused : ℕ
letter_refused = 0x45

-- the bytes of a quoted text of ASCII
unfoldable pub quoted : String → List ℕ
quoted String.[] = []
quoted (String.◌∷◌ c s) = code c ∷ quoted s

-- a quoted text and a line feed
abbrev pub message : String → List ℕ
message s = quoted s ++ (line_feed ∷ [])
