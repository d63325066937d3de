-- The lines of an input, and the text that the program writes for them: each line's answer, with a line feed.
use Rattle.std.specs.Prelude.{List, [], ◌∷◌, ◌++◌, ℕ, eqb}
use Rattle.base.specs.Branch.{when◌then◌else◌}
use Rattle.base.specs.LineFeed.{line_feed}
use Rattle.program_line.specs.Answered.{answer_line}

-- ---- bytes parted by line feeds
-- the lines that a line feed ends, and the one that goes on after the last
pub record Split (S : Type 0) : Type 0 where
  pub whole : List S
  pub rest : S

abbrev pub with_line : {S : Type 0} → S → Split S → Split S
with_line line s = record { whole = line ∷ s.whole; rest = s.rest }

-- push is what one byte makes of a line; new is an empty one
module _ {S : Type 0} (push : S → ℕ → S) (new : S) where
  -- of bytes that go on with a line
  unfoldable pub split : S → List ℕ → Split S
  split line [] = record { whole = []; rest = line }
  split line (b ∷ bs) = when eqb b line_feed then (λ _. with_line line (split new bs)) else λ _. split (push line b) bs

-- ---- lines of bytes, without their line feeds
abbrev pub with_byte : List ℕ → ℕ → List ℕ
with_byte line b = line ++ (b ∷ [])

abbrev pub split_bytes : List ℕ → List ℕ → Split (List ℕ)
split_bytes begun bytes = split with_byte [] begun bytes

-- a last line without a line feed counts, if there is anything on it
abbrev pub last_line : List ℕ → List (List ℕ)
last_line [] = []
last_line (b ∷ bs) = (b ∷ bs) ∷ []

abbrev pub input_lines : List ℕ → List (List ℕ)
input_lines input = (split_bytes [] input).whole ++ last_line (split_bytes [] input).rest

-- ---- answers
abbrev pub written_answer : List ℕ → List ℕ
written_answer line = answer_line line ++ (line_feed ∷ [])

abbrev pub answers : List (List ℕ) → List ℕ
answers [] = []
answers (line ∷ ls) = written_answer line ++ answers ls

-- what the program writes over an input
abbrev pub program_text : List ℕ → List ℕ
program_text input = answers (input_lines input)

-- the same, read by read: the answers to the lines that end in a read, and the line that goes on into the next
abbrev pub by_reads : List ℕ → List (List ℕ) → List ℕ
by_reads begun [] = answers (last_line begun)
by_reads begun (r ∷ rs) = answers (split_bytes begun r).whole ++ by_reads (split_bytes begun r).rest rs

-- the input that came in reads
abbrev pub input_of : List (List ℕ) → List ℕ
input_of [] = []
input_of (r ∷ rs) = r ++ input_of rs
