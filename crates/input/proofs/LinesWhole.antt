-- A line that there is room for is kept as it came, a longer one is nothing; the bytes after its end are left.
use mathlib.Core.Path.{◌≡◌, refl, sym, ap, ◌∙◌}
use mathlib.Core.Bool.{true, false}
use mathlib.Core.List.{List, [], ◌∷◌, ◌++◌, append-nil}
use Prim.Native.Nat.{ℕ, suc, ◌+◌, ◌<◌, ◌≤◌, min}
use native.Mathlib.Omega.{arith}
use lib.ListN.{length, set, take, length-append, length-set}
use lib.Seq.{take-suc-set, append_snoc}
use borrow.Author.Tests.{le-leb, lt-leb, ne_eqb}
use Rattle.base.specs.Branch.{when◌then◌else◌}
use Rattle.base.specs.LineFeed.{line_feed, UpToFeed, up_to_feed}
use Rattle.base.proofs.LineFeed.{feed_append, feed_found}
use Rattle.input.specs.Lines.{longest, count_on, complete_line, KeptLine, kept_with, line_taken, line_of}
use Rattle.input.proofs.Lines.{all_counted}

-- no byte of a list is a line feed
abbrev pub Unbroken : List ℕ → Type 0
Unbroken [] = Unit {0}
Unbroken (b ∷ bs) = (b ≡ line_feed → ⊥) × Unbroken bs

-- ---- counting
pub count_on_is : (n : ℕ) → n < longest → count_on n ≡ suc n
count_on_is n h = omega arith

pub count_on_stops : count_on longest ≡ longest
count_on_stops = refl

-- ---- bytes without a line feed
goes_on : (n : ℕ) (kept bs : List ℕ) → Unbroken bs →
    ((line_taken n kept bs).found ≡ false) × ((line_taken n kept bs).left ≡ []) ×
    (length (line_taken n kept bs).line.kept ≡ length kept)
unfolding up_to_feed when◌then◌else◌
goes_on n kept [] u = (refl, refl, refl)
goes_on n kept (b ∷ bs) u =
    let h = goes_on (count_on n) (set kept n b) bs u.1 in
    rw (ne_eqb b line_feed u.0) (h.0, h.1, h.2 ∙ length-set kept n b)

-- with room for them, they are kept after those that came before
keeps : (n : ℕ) (kept came bs : List ℕ) → Unbroken bs → n ≡ length came → take (length came) kept ≡ came →
    length came + length bs ≤ length kept → length kept < longest →
    take (length (came ++ bs)) (line_taken n kept bs).line.kept ≡ came ++ bs
unfolding up_to_feed when◌then◌else◌
keeps n kept came [] u e k fits small = rw (append-nil came) k
keeps n kept came (b ∷ bs) u e k fits small =
    let h : n < length kept = omega arith in
    let m : n < longest = omega arith in
    let more = came ++ (b ∷ []) in
    let count : length more ≡ suc (length came) = simp length-append (omega arith) in
    let len : count_on n ≡ length more = count_on_is n m ∙ ap suc e ∙ sym count in
    let put : take (length more) (set kept n b) ≡ more = rw (count, ← e) (take-suc-set kept n b h ∙ rw (e, k)) in
    let room : length (set kept n b) ≡ length kept = length-set kept n b in
    let next = keeps (count_on n) (set kept n b) more bs u.1 len put (omega arith) (omega arith) in
    rw (ne_eqb b line_feed u.0, ← append_snoc came b bs) next

-- ---- a line
-- the bytes, and then either the end of the input or a line feed and others
module _ (kept bs : List ℕ) (u : Unbroken bs) (small : length kept < longest) where
  abbrev whole : UpToFeed KeptLine → List ℕ
  whole t = complete_line (line_of t) t.line.kept

  line_length : (line_taken 0 kept bs).line.length ≡ min longest (length bs)
  line_length = all_counted 0 kept bs (omega arith) (goes_on 0 kept bs u).0 ∙ omega arith

  pub last_line : length bs ≤ length kept → whole (line_taken 0 kept bs) ≡ bs
  last_line fits =
      let h : (line_taken 0 kept bs).line.length ≤ length (line_taken 0 kept bs).line.kept =
      omega (arith, line_length, (goes_on 0 kept bs u).2) in
      let n : (line_taken 0 kept bs).line.length ≡ length bs = line_length ∙ omega arith in
      rw (le-leb _ _ h, n) (keeps 0 kept [] bs u refl refl (omega arith) small)

  pub long_last_line : length kept < length bs → whole (line_taken 0 kept bs) ≡ []
  long_last_line long =
      let h : length (line_taken 0 kept bs).line.kept < (line_taken 0 kept bs).line.length =
      omega (arith, line_length, (goes_on 0 kept bs u).2) in
      rw (lt-leb _ _ h)

  module _ (rest : List ℕ) where
    feed_after : line_taken 0 kept (bs ++ (line_feed ∷ rest)) ≡ record
        { line = (line_taken 0 kept bs).line; left = rest; found = true }
    feed_after =
        feed_append kept_with (record { length = 0; kept = kept }) bs (line_feed ∷ rest) (goes_on 0 kept bs u).0
        ∙ feed_found kept_with (line_taken 0 kept bs).line line_feed rest refl

    pub whole_line : length bs ≤ length kept → whole (line_taken 0 kept (bs ++ (line_feed ∷ rest))) ≡ bs
    whole_line fits = rw feed_after (last_line fits)

    pub long_line : length kept < length bs → whole (line_taken 0 kept (bs ++ (line_feed ∷ rest))) ≡ []
    long_line long = rw feed_after (long_last_line long)

    pub line_found : (line_taken 0 kept (bs ++ (line_feed ∷ rest))).found ≡ true
    line_found = rw feed_after

    pub rest_left : (line_taken 0 kept (bs ++ (line_feed ∷ rest))).left ≡ rest
    rest_left = rw feed_after
