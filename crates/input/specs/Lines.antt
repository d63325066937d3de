-- A line of bytes, as far as it came; and what is promised of taking and of reading the next one.
use Rattle.std.specs.Prelude.{◌≡◌, Bool, true, false, cond, ◌||◌, List, [], ◌++◌, ◌⊎◌, ℕ, ◌+◌, ◌≤◌, leb, ltb, min, length, set, take}
use Rattle.std.specs.Prelude.{◌<◌, drop, Option, unwrap_or, Result, Ok, Err}
use Rattle.std.specs.Bool.{then_some}
use Rattle.base.specs.LineFeed.{UpToFeed, up_to_feed}
use Rattle.input.specs.declared.InputLine.{InputLine}
use Rattle.input.specs.declared.Input.{Input}
use Rattle.input.specs.declared.ReadFailed.{ReadFailed}

abbrev pub longest : ℕ
longest = 0xffffffffffffffff

abbrev pub new_line : InputLine
new_line = record { length = 0; ended = false }

-- one more, but for the largest number
abbrev pub count_on : ℕ → ℕ
count_on n = min (n + 1) longest

-- a line with one byte more
abbrev pub one_longer : InputLine → InputLine
one_longer l = record { length = count_on l.length; ended = l.ended }

-- the line, or nothing if it is longer than what is kept
abbrev pub complete_line : InputLine → List ℕ → List ℕ
complete_line l kept = cond (leb l.length (length kept)) (take l.length kept) []

-- how long a line is, and what is kept of it
pub record KeptLine : Type 0 where
  pub length : ℕ
  pub kept : List ℕ

abbrev pub kept_with : KeptLine → ℕ → KeptLine
kept_with k b = record { length = count_on k.length; kept = set k.kept k.length b }

-- what bytes make of a line of n bytes and of what is kept of it, up to a line feed
abbrev pub line_taken : ℕ → List ℕ → List ℕ → UpToFeed KeptLine
line_taken n kept bs = up_to_feed kept_with (record { length = n; kept = kept }) bs

-- the line so made
abbrev pub line_of : UpToFeed KeptLine → InputLine
line_of t = record { length = t.line.length; ended = t.found }

-- the bytes that are not yet used
abbrev pub unused : Input → List ℕ → List ℕ
unused i buffer = drop i.at (take i.end buffer)

-- nothing was read yet
abbrev pub new_input : Input
new_input = record { at = 0; end = 0 }

-- the bytes of a read to use, by how many came, if the read did not fail
abbrev pub filled : Option ℕ → Input
filled got = record { at = 0; end = unwrap_or got 0 }

-- ---- a line
-- the input and the line after bytes were taken from an unchanged buffer
pub record TakesLine (i : Input) (l : InputLine) (buffer kept : List ℕ) (m : InputLine) (j : Input) (after : List ℕ) : Type 0 where
  pub end_is : j.end ≡ i.end
  pub line_is : m ≡ line_of (line_taken l.length kept (unused i buffer))
  pub kept_is : after ≡ (line_taken l.length kept (unused i buffer)).line.kept
  pub left_is : unused j buffer ≡ (line_taken l.length kept (unused i buffer)).left
  pub at_is : j.at + length (line_taken l.length kept (unused i buffer)).left ≡ i.at + length (unused i buffer)

-- nothing was read, and the same bytes are passed or left; or what came ends with all bytes of the last read, which stand first in the
-- buffer, and none beyond it
abbrev pub LastRead : Input → List ℕ → List ℕ → Input → List ℕ → Type 0
LastRead i buffer came j after =
    ((came ≡ []) × (j.end ≡ i.end) × (after ≡ buffer) ×
    (j.at + length (unused j after) ≡ i.at + length (unused i buffer))) ⊎
    ((earlier : List ℕ) × (came ≡ earlier ++ take j.end after) × (j.at ≤ j.end) × (j.end ≤ length after))

-- no line feed came: the last read gave no byte; or the line is as long as can be counted
abbrev pub NoFeedCame : Input → InputLine → Type 0
NoFeedCame j l = (j.end ≡ 0) ⊎ (l.length ≡ longest)

-- the line where no more comes: none if neither a byte nor a line feed came
abbrev pub line_at_end : InputLine → Option InputLine
line_at_end l = then_some (l.ended || ltb 0 l.length) l

-- a read failed, and what came of the line before it
abbrev pub failed_at : InputLine → ReadFailed
failed_at l = record { line = l }

-- by whether a read failed, and what came of the line
abbrev pub line_read : Bool → InputLine → Result (Option InputLine) ReadFailed
line_read true l = Err (failed_at l)
line_read false l = Ok (line_at_end l)

-- the next line: the bytes that were not yet used, and then those that were read
pub record ReadsLine (i : Input) (buffer kept : List ℕ) (r : Result (Option InputLine) ReadFailed) (j : Input)
    (buffer_after after : List ℕ) : Type 0 where
  pub came : List ℕ
  pub failed : Bool
  pub last_read : LastRead i buffer came j buffer_after
  pub line_is : r ≡ line_read failed (line_of (line_taken 0 kept (unused i buffer ++ came)))
  pub kept_is : after ≡ (line_taken 0 kept (unused i buffer ++ came)).line.kept
  pub left_is : unused j buffer_after ≡ (line_taken 0 kept (unused i buffer ++ came)).left
  pub ends : (line_taken 0 kept (unused i buffer ++ came)).found ≡ false →
      NoFeedCame j (line_of (line_taken 0 kept (unused i buffer ++ came)))
  -- a line feed is one of the bytes of the buffer that are used now: nothing was read after it
  pub feed_last : (line_taken 0 kept (unused i buffer ++ came)).found ≡ true → 0 < j.at
  -- a failed read is the last one, and no line feed came with it
  pub failed_ends : failed ≡ true → ((line_taken 0 kept (unused i buffer ++ came)).found ≡ false) × (j.end ≡ 0)
