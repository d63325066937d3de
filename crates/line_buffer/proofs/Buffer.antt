-- One byte more of a line is one byte more of what is held of it; and of a text over 256 bytes 257 are enough to refuse it.
use mathlib.Core.Path.{◌≡◌, refl, sym, ap, ◌∙◌, subst}
use mathlib.Core.Bool.{Bool, true, false, cond}
use mathlib.Core.List.{List, [], ◌∷◌, ◌++◌, append-nil, append_assoc}
use Prim.Native.Nat.{ℕ, min, ◌≤◌}
use native.Mathlib.Decide.{dec_le}
use native.Mathlib.Omega.{arith}
use lib.Dec.{eqb}
use lib.ListN.{length, take, length-take}
use lib.Seq.{take_all, take-append-le}
use borrow.Author.Tests.{eqb-true}
use Rattle.std.specs.Prelude.{Option, Some, None}
use Rattle.std.proofs.lemmas.List.{take-take}
use Rattle.text.specs.Bytes.{space}
use Rattle.text.specs.Reading.{read}
use Rattle.text.specs.ProgramLine.{Parted, no_blank, around, parted, depth_of, asks_with, asked_by, asked}
use Rattle.text.proofs.ProgramLine.{Parts, parted_parts, parted_blank, followed, parted_other}
use Rattle.line_buffer.specs.declared.AfterBlank.TheVariants.{Nothing}
use Rattle.line_buffer.specs.declared.LineBuffer.{LineBuffer}
use Rattle.line_buffer.specs.Buffer.{after_with, depth_after, new_buffer, pushed, pushed_all, buffer_asks}
use Rattle.line_buffer.specs.Buffer.{SameQuestion, tail_of, before_blank, behind_blank, buffer_of}
use Rattle.text.proofs.Padded.{first_of_first}
use Rattle.text.proofs.Reading.{too_long_is_1}

-- ---- one byte more
tail_longer : (rest : List ℕ) (b : ℕ) → after_with (tail_of rest) b ≡ tail_of (rest ++ (b ∷ []))
tail_longer [] b = refl
tail_longer (a ∷ []) b = refl
tail_longer (a ∷ c ∷ []) b = refl
tail_longer (a ∷ c ∷ d ∷ cs) b = refl

same_before : (p : Parted) (b : ℕ) → before_blank p ≡ before_blank (followed b p)
same_before no_blank b = refl
same_before (around text rest) b = refl

longer_behind : (p : Parted) (b : ℕ) → after_with (behind_blank p) b ≡ behind_blank (followed b p)
longer_behind no_blank b = refl
longer_behind (around text rest) b = tail_longer rest b

pub pushed_held : (line : List ℕ) (b : ℕ) → pushed (buffer_of line) b ≡ buffer_of (line ++ (b ∷ []))
unfolding pushed
pushed_held line b = go (eqb b space) refl
  where
    made : (t : Bool) (q : Parted) → parted (line ++ (b ∷ [])) ≡ q → eqb b space ≡ t →
        cond t (length (take 257 line)) (before_blank (parted line)) ≡ before_blank q →
        cond t Nothing (after_with (behind_blank (parted line)) b) ≡ behind_blank q →
        pushed (buffer_of line) b ≡ buffer_of (line ++ (b ∷ []))
    made t q e f x y = λ i. record {
      kept = first_of_first 257 line (b ∷ []) i;
      text = (ap (λ (t : Bool). cond t (length (take 257 line)) (before_blank (parted line))) f ∙ x ∙ ap before_blank (sym e)) i;
      after = (ap (λ (t : Bool). cond t Nothing (after_with (behind_blank (parted line)) b)) f ∙ y ∙ ap behind_blank (sym e)) i;
    }

    go : (t : Bool) → eqb b space ≡ t → pushed (buffer_of line) b ≡ buffer_of (line ++ (b ∷ []))
    go true e =
        made true (around line []) (ap (λ (c : ℕ). parted (line ++ (c ∷ []))) (eqb-true b space e) ∙ parted_blank line) e
        (length-take 257 line ∙ omega arith) refl
    go false e =
        made false (followed b (parted line)) (parted_other line b e) e (same_before (parted line) b) (longer_behind (parted line) b)

pub pushed_all_held : (line bs : List ℕ) → pushed_all (buffer_of line) bs ≡ buffer_of (line ++ bs)
pushed_all_held line [] = ap buffer_of (sym (append-nil line))
pushed_all_held line (b ∷ bs) =
    ap (λ (h : LineBuffer). pushed_all h bs) (pushed_held line b) ∙ pushed_all_held (line ++ (b ∷ [])) bs
    ∙ ap buffer_of (append_assoc line (b ∷ []) bs)

-- pushed byte by byte from the empty line, a line is held whole: its first 257 bytes, and what its last blank parts
pub line_held : (line : List ℕ) → pushed_all new_buffer line ≡ buffer_of line
unfolding parted
line_held line = pushed_all_held [] line

-- ---- what it asks
-- 257 bytes of a text are enough
pub read_first_257 : (t : List ℕ) → read (take 257 t) ≡ read t
read_first_257 t = go (dec_le (length t) 256)
  where
    go : Dec (length t ≤ 256) → read (take 257 t) ≡ read t
    go (yes h) = ap read (take_all 257 t (omega arith))
    go (no h) = too_long_is_1 (take 257 t) (omega (arith, length-take 257 t)) ∙ sym (too_long_is_1 t (omega arith))

-- the held bytes of a text
held_first : (text rest : List ℕ) → take (min (length text) 257) (take 257 (text ++ rest)) ≡ take 257 text
held_first text rest = go (dec_le (length text) 257)
  where
    go : Dec (length text ≤ 257) → take (min (length text) 257) (take 257 (text ++ rest)) ≡ take 257 text
    go (yes h) =
        let n : min (length text) 257 ≡ length text = omega arith in
        rw n (take-take (length text) 257 (text ++ rest) h ∙ take-append-le (length text) text rest (omega arith)
        ∙ take_all (length text) text (omega arith) ∙ sym (take_all 257 text h))
    go (no h) =
        let n : min (length text) 257 ≡ 257 = omega arith in
        rw n (take-take 257 257 (text ++ rest) (omega arith) ∙ take-append-le 257 text rest (omega arith))

depth_tail : (rest : List ℕ) → depth_after (tail_of rest) ≡ depth_of rest
unfolding depth_of
depth_tail [] = refl
depth_tail (a ∷ []) = refl
depth_tail (a ∷ b ∷ []) = refl
depth_tail (a ∷ b ∷ c ∷ cs) = refl

same_asks : (t u : List ℕ) (d : Option ℕ) → read t ≡ read u → SameQuestion (asks_with t d) (asks_with u d)
same_asks t u None e = tt
same_asks t u (Some n) e = (refl, e)

asks_parted : (line : List ℕ) (p : Parted) → Parts line p → SameQuestion
    (asks_with (take (before_blank p) (take 257 line)) (depth_after (behind_blank p))) (asked_by p)
asks_parted line no_blank h = tt
asks_parted line (around text rest) h =
    subst (λ (l : List ℕ). SameQuestion (asks_with (take (min (length text) 257) (take 257 l)) (depth_after (tail_of rest)))
    (asks_with text (depth_of rest))) (sym h.0)
    (subst (λ (d : Option ℕ). SameQuestion (asks_with (take (min (length text) 257) (take 257 (text ++ (space ∷ rest))))
    d) (asks_with text (depth_of rest))) (sym (depth_tail rest))
    (same_asks _ text (depth_of rest) (ap read (held_first text (space ∷ rest)) ∙ read_first_257 text)))

-- for every list of bytes: 19 exactly where the line has no depth, else the same depth, and a text that is read alike
pub held_asks_the_same : (line : List ℕ) → SameQuestion (buffer_asks (pushed_all new_buffer line)) (asked line)
held_asks_the_same line =
    subst (λ (h : LineBuffer). SameQuestion (buffer_asks h) (asked line)) (sym (line_held line))
    (asks_parted line (parted line) (parted_parts line))
