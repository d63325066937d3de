-- A line taken from bytes, up to a line feed.
use Rattle.std.specs.Prelude.{◌≡◌, Option, Some, None, cond, List, ℕ}
use Rattle.std.specs.Option.{option_copied}
use Rattle.std.specs.Borrow.{Bor}
use Rattle.base.specs.LineFeed.{UpToFeed, up_to_feed}
use Rattle.line_buffer.specs.declared.LineBuffer.{LineBuffer}
use Rattle.line_buffer.specs.Buffer.{pushed}

-- what bytes make of a line held in bounded memory
abbrev pub buffered : LineBuffer → List ℕ → UpToFeed LineBuffer
buffered h bs = up_to_feed pushed h bs

-- the bytes after a line feed, if one was met
abbrev pub after_feed : {S : Type 0} → UpToFeed S → Option (List ℕ)
after_feed t = cond t.found (Some t.left) None

-- g is what bytes make of h, and rest what follows the line feed
pub record BuffersLine (h : LineBuffer) (bytes : List ℕ) (g : LineBuffer) (rest : Option (Bor (List ℕ))) : Type 0 where
  pub line_is : g ≡ (buffered h bytes).line
  pub rest_is : option_copied rest ≡ after_feed (buffered h bytes)
