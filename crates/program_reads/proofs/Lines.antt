-- The lines of bytes in two parts are those of the first, and those that the second makes of the line that goes on.
use mathlib.Core.Path.{◌≡◌, refl, sym, ap, ap₂, ◌∙◌}
use mathlib.Core.Bool.{Bool, true, false, not, ◌&&◌}
use mathlib.Core.List.{List, [], ◌∷◌, ◌++◌, map, append-nil, append_assoc}
use Prim.Native.Nat.{ℕ}
use native.Mathlib.Omega.{arith}
use lib.Dec.{T, eqb}
use borrow.Author.Tests.{eqb-true}
use Rattle.base.specs.Branch.{when◌then◌else◌}
use Rattle.base.specs.Lists.{all}
use Rattle.base.specs.LineFeed.{line_feed, UpToFeed, up_to_feed}
use Rattle.line_buffer.proofs.Taking.{Plain}
use Rattle.program_reads.specs.Lines.{Split, with_line, split, with_byte, split_bytes, last_line}
use Rattle.program_reads.specs.Lines.{written_answer, answers, program_text, by_reads, input_of}

-- ---- lines of any kind
module _ {S : Type 0} (push : S → ℕ → S) (new : S) where
  abbrev on : S → List ℕ → Split S
  on line bytes = split push new line bytes

  abbrev up_to : S → List ℕ → UpToFeed S
  up_to line bytes = up_to_feed push line bytes

  abbrev and_then : Split S → Split S → Split S
  and_then s t = record { whole = s.whole ++ t.whole; rest = t.rest }

  -- a byte more: it ends the line, or stands on it
  abbrev split_byte : S → ℕ → List ℕ → Bool → Split S
  split_byte line b bs c = when c then (λ _. with_line line (on new bs)) else λ _. on (push line b) bs

  abbrev up_to_byte : S → ℕ → List ℕ → Bool → UpToFeed S
  up_to_byte line b bs c = when c then (λ _. record { line = line; left = bs; found = true }) else λ _. up_to (push line b) bs

  pub split_append : (line : S) (xs ys : List ℕ) → on line (xs ++ ys) ≡ and_then (on line xs) (on (on line xs).rest ys)
  unfolding split when◌then◌else◌
  split_append line [] ys = refl
  split_append line (b ∷ xs) ys = go (eqb b line_feed) (split_append new xs ys) (split_append (push line b) xs ys)
    where
      go : (c : Bool) → on new (xs ++ ys) ≡ and_then (on new xs) (on (on new xs).rest ys) →
          on (push line b) (xs ++ ys) ≡ and_then (on (push line b) xs) (on (on (push line b) xs).rest ys) →
          split_byte line b (xs ++ ys) c ≡ and_then (split_byte line b xs c) (on (split_byte line b xs c).rest ys)
      go true h k = ap (with_line line) h
      go false h k = k

  -- by the next line feed: the line that it ends, and the lines of what is left
  pub split_found : (line : S) (bytes : List ℕ) → (up_to line bytes).found ≡ true →
      on line bytes ≡ with_line (up_to line bytes).line (on new (up_to line bytes).left)
  unfolding split up_to_feed when◌then◌else◌
  split_found line [] e = let z : ◌≡◌ {A = ℕ} 0 1 = cc in absurd (omega arith)
  split_found line (b ∷ bs) e = go (eqb b line_feed) (split_found (push line b) bs) e
    where
      go : (c : Bool) → ((up_to (push line b) bs).found ≡ true →
          on (push line b) bs ≡ with_line (up_to (push line b) bs).line (on new (up_to (push line b) bs).left)) →
          (up_to_byte line b bs c).found ≡ true →
          split_byte line b bs c ≡ with_line (up_to_byte line b bs c).line (on new (up_to_byte line b bs c).left)
      go true k h = refl
      go false k h = k h

  -- without one there is only the line that goes on
  pub split_goes_on : (line : S) (bytes : List ℕ) → (up_to line bytes).found ≡ false →
      on line bytes ≡ record { whole = []; rest = (up_to line bytes).line }
  unfolding split up_to_feed when◌then◌else◌
  split_goes_on line [] e = refl
  split_goes_on line (b ∷ bs) e = go (eqb b line_feed) (split_goes_on (push line b) bs) e
    where
      go : (c : Bool) → ((up_to (push line b) bs).found ≡ false →
          on (push line b) bs ≡ record { whole = []; rest = (up_to (push line b) bs).line }) →
          (up_to_byte line b bs c).found ≡ false → split_byte line b bs c ≡ record { whole = []; rest = (up_to_byte line b bs c).line }
      go true k h = let z : ◌≡◌ {A = ℕ} 0 1 = cc in absurd (omega arith)
      go false k h = k h

-- ---- lines of one kind held as lines of another
module _ {S T : Type 0} (push : S → ℕ → S) (new : S) (push' : T → ℕ → T) (hold : S → T)
    (pushes : (line : S) (b : ℕ) → push' (hold line) b ≡ hold (push line b)) where
  abbrev pub held_split : Split S → Split T
  held_split s = record { whole = map hold s.whole; rest = hold s.rest }

  abbrev pub held_up_to : UpToFeed S → UpToFeed T
  held_up_to u = record { line = hold u.line; left = u.left; found = u.found }

  pub split_held : (line : S) (bytes : List ℕ) →
      split push' (hold new) (hold line) bytes ≡ held_split (split push new line bytes)
  unfolding split when◌then◌else◌
  split_held line [] = refl
  split_held line (b ∷ bs) =
      go (eqb b line_feed) (split_held new bs)
      (ap (λ (l : T). split push' (hold new) l bs) (pushes line b) ∙ split_held (push line b) bs)
    where
      go : (c : Bool) → split push' (hold new) (hold new) bs ≡ held_split (split push new new bs) →
          split push' (hold new) (push' (hold line) b) bs ≡ held_split (split push new (push line b) bs) →
          split_byte push' (hold new) (hold line) b bs c ≡ held_split (split_byte push new line b bs c)
      go true h k = ap (with_line (hold line)) h
      go false h k = k

  pub up_to_held : (line : S) (bytes : List ℕ) → up_to_feed push' (hold line) bytes ≡ held_up_to (up_to_feed push line bytes)
  unfolding up_to_feed when◌then◌else◌
  up_to_held line [] = refl
  up_to_held line (b ∷ bs) =
      go (eqb b line_feed) (ap (λ (l : T). up_to_feed push' l bs) (pushes line b) ∙ up_to_held (push line b) bs)
    where
      go : (c : Bool) → up_to_feed push' (push' (hold line) b) bs ≡ held_up_to (up_to_feed push (push line b) bs) →
          up_to_byte push' (hold new) (hold line) b bs c ≡ held_up_to (up_to_byte push new line b bs c)
      go true k = refl
      go false k = k

-- ---- any number of reads
pub answers_append : (ls ms : List (List ℕ)) → answers (ls ++ ms) ≡ answers ls ++ answers ms
answers_append [] ms = refl
answers_append (l ∷ ls) ms =
    ap (λ (t : List ℕ). written_answer l ++ t) (answers_append ls ms)
    ∙ sym (append_assoc (written_answer l) (answers ls) (answers ms))

abbrev text_from : List ℕ → List ℕ → List ℕ
text_from begun bytes = answers ((split_bytes begun bytes).whole ++ last_line (split_bytes begun bytes).rest)

reads_from : (begun : List ℕ) (rs : List (List ℕ)) → by_reads begun rs ≡ text_from begun (input_of rs)
unfolding split
reads_from begun [] = refl
reads_from begun (r ∷ rs) =
    let s = split_bytes begun r in
    let t = split_bytes s.rest (input_of rs) in
    ap (λ (u : List ℕ). answers s.whole ++ u) (reads_from s.rest rs)
    ∙ sym (answers_append s.whole (t.whole ++ last_line t.rest))
    ∙ ap answers (sym (append_assoc s.whole t.whole (last_line t.rest)))
    ∙ sym (ap (λ (u : Split (List ℕ)). answers (u.whole ++ last_line u.rest)) (split_append with_byte [] begun r (input_of rs)))

-- for every splitting of an input into reads: the same answers in the same order
pub reads_make_no_difference : (rs : List (List ℕ)) → by_reads [] rs ≡ program_text (input_of rs)
reads_make_no_difference rs = reads_from [] rs

-- ---- what the lines are: with their line feeds they are the input again, and none has one inside
abbrev pub ended_by : List ℕ → List (List ℕ) → List ℕ
ended_by rest [] = rest
ended_by rest (l ∷ ls) = l ++ (line_feed ∷ ended_by rest ls)

abbrev pub joined : Split (List ℕ) → List ℕ
joined s = ended_by s.rest s.whole

abbrev bytes_byte : List ℕ → ℕ → List ℕ → Bool → Split (List ℕ)
bytes_byte begun b bs c = split_byte with_byte [] begun b bs c

pub nothing_lost : (begun bytes : List ℕ) → joined (split_bytes begun bytes) ≡ begun ++ bytes
unfolding split when◌then◌else◌
nothing_lost begun [] = sym (append-nil begun)
nothing_lost begun (b ∷ bs) = go (eqb b line_feed) refl (nothing_lost [] bs) (nothing_lost (with_byte begun b) bs)
  where
    go : (c : Bool) → eqb b line_feed ≡ c → joined (split_bytes [] bs) ≡ bs →
        joined (split_bytes (with_byte begun b) bs) ≡ with_byte begun b ++ bs → joined (bytes_byte begun b bs c) ≡ begun ++ (b ∷ bs)
    go true e h k = ap₂ (λ (n : ℕ) (t : List ℕ). begun ++ (n ∷ t)) (sym (eqb-true b line_feed e)) h
    go false e h k = k ∙ append_assoc begun (b ∷ []) bs

abbrev pub AllPlain : List (List ℕ) → Type 0
AllPlain [] = Unit {0}
AllPlain (l ∷ ls) = Plain l × AllPlain ls

plain_more : (line : List ℕ) (b : ℕ) → eqb b line_feed ≡ false → Plain line → Plain (with_byte line b)
unfolding all
plain_more [] b e h = rw e tt
plain_more (a ∷ l) b e h = go (eqb a line_feed) h (plain_more l b e)
  where
    go : (c : Bool) → T (not c && all (λ b. not (eqb b line_feed)) l) → (Plain l → Plain (with_byte l b)) →
        T (not c && all (λ b. not (eqb b line_feed)) (with_byte l b))
    go true h k = absurd h
    go false h k = k h

abbrev PlainSplit : Split (List ℕ) → Type 0
PlainSplit s = AllPlain s.whole × Plain s.rest

pub lines_are_plain : (begun bytes : List ℕ) → Plain begun → PlainSplit (split_bytes begun bytes)
unfolding split when◌then◌else◌ all
lines_are_plain begun [] p = (tt, p)
lines_are_plain begun (b ∷ bs) p =
    go (eqb b line_feed) refl (lines_are_plain [] bs tt) (lines_are_plain (with_byte begun b) bs)
  where
    go : (c : Bool) → eqb b line_feed ≡ c → PlainSplit (split_bytes [] bs) →
        (Plain (with_byte begun b) → PlainSplit (split_bytes (with_byte begun b) bs)) → PlainSplit (bytes_byte begun b bs c)
    go true e h k = ((p, h.0), h.1)
    go false e h k = k (plain_more begun b e p)
