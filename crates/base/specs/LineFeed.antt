-- Bytes up to a line feed: what they make of a line, the bytes left after the feed, and whether one was met.
use Rattle.std.specs.Prelude.{Bool, true, false, List, [], ◌∷◌, ℕ, eqb}
use Rattle.base.specs.Branch.{when◌then◌else◌}

abbrev pub line_feed : ℕ
line_feed = 0x0a

pub record UpToFeed (S : Type 0) : Type 0 where
  pub line : S
  pub left : List ℕ
  pub found : Bool

-- push is what one byte makes of a line
module _ {S : Type 0} (push : S → ℕ → S) where
  unfoldable pub up_to_feed : S → List ℕ → UpToFeed S
  up_to_feed s [] = record { line = s; left = []; found = false }
  up_to_feed s (b ∷ bs) =
      when eqb b line_feed then (λ _. record { line = s; left = bs; found = true }) else λ _. up_to_feed (push s b) bs
