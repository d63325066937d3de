-- A line of any length in bounded memory: what one more byte makes of it, and what is held of a whole line.
use Rattle.std.specs.Prelude.{◌≡◌, Option, None, Result, cond, List, [], ◌∷◌, ◌++◌, ℕ, min, eqb, length, take}
use Rattle.std.specs.Option.{ok_or}
use Rattle.text.specs.Bytes.{space}
use Rattle.text.specs.Reading.{read}
use Rattle.text.specs.ProgramLine.{Parted, no_blank, around, parted, depth_of, Question, no_depth, asks, asks_with}
use Rattle.line_buffer.specs.declared.BadDepth.{BadDepth}
use Rattle.line_buffer.specs.declared.AfterBlank.{AfterBlank}
use Rattle.line_buffer.specs.declared.AfterBlank.TheVariants.{Nothing, One, Two, Other}
use Rattle.line_buffer.specs.declared.LineBuffer.{LineBuffer}

abbrev pub bad_depth_number : BadDepth → ℕ
bad_depth_number why = 19

-- ---- what follows the last blank
abbrev pub after_with : AfterBlank → ℕ → AfterBlank
after_with Nothing b = One b
after_with (One a) b = Two a b
after_with (Two a c) b = Other
after_with Other b = Other

-- a blank is the last one so far
abbrev pub after_byte : AfterBlank → ℕ → AfterBlank
after_byte a b = cond (eqb b space) Nothing (after_with a b)

abbrev pub depth_after : AfterBlank → Option ℕ
depth_after Nothing = depth_of []
depth_after (One a) = depth_of (a ∷ [])
depth_after (Two a b) = depth_of (a ∷ b ∷ [])
depth_after Other = None

-- ---- the line
abbrev pub new_buffer : LineBuffer
new_buffer = record { kept = []; text = 0; after = Other }

-- with one byte more: past 257 none is kept
unfoldable pub pushed : LineBuffer → ℕ → LineBuffer
pushed h b = record {
  kept = take 257 (h.kept ++ (b ∷ []));
  text = cond (eqb b space) (length h.kept) h.text;
  after = after_byte h.after b;
}

-- with the bytes of a list, one by one
abbrev pub pushed_all : LineBuffer → List ℕ → LineBuffer
pushed_all h [] = h
pushed_all h (b ∷ bs) = pushed_all (pushed h b) bs

-- ---- what is held
abbrev pub buffer_text : LineBuffer → List ℕ
buffer_text h = take h.text h.kept

abbrev pub depth_held : LineBuffer → Result ℕ BadDepth
depth_held h = ok_or (depth_after h.after) (record {})

abbrev pub buffer_asks : LineBuffer → Question
buffer_asks h = asks_with (buffer_text h) (depth_after h.after)

-- two questions with one depth, whose texts are read alike
abbrev pub SameQuestion : Question → Question → Type 0
SameQuestion no_depth no_depth = Unit {0}
SameQuestion no_depth (asks u m) = ⊥
SameQuestion (asks t n) no_depth = ⊥
SameQuestion (asks t n) (asks u m) = (n ≡ m) × (read t ≡ read u)

-- ---- of a whole line: its first 257 bytes, and what the last blank parts
abbrev pub tail_of : List ℕ → AfterBlank
tail_of [] = Nothing
tail_of (a ∷ []) = One a
tail_of (a ∷ b ∷ []) = Two a b
tail_of (a ∷ b ∷ c ∷ cs) = Other

abbrev pub before_blank : Parted → ℕ
before_blank no_blank = 0
before_blank (around text rest) = min (length text) 257

abbrev pub behind_blank : Parted → AfterBlank
behind_blank no_blank = Other
behind_blank (around text rest) = tail_of rest

abbrev pub buffer_of : List ℕ → LineBuffer
buffer_of line = record { kept = take 257 line; text = before_blank (parted line); after = behind_blank (parted line) }
