-- What the promises say of the lines of bytes: whatever the functions answer, and however the input comes, the program's text is written.
use mathlib.Core.Path.{◌≡◌, refl, sym, ap, ap₂, ◌∙◌, subst}
use mathlib.Core.Bool.{Bool, true, false, cond, true≢false}
use mathlib.Core.List.{List, [], ◌∷◌, ◌++◌, append-nil}
use Prim.Native.Nat.{ℕ, zero, suc, ◌<◌}
use native.Mathlib.Omega.{arith}
use lib.Dec.{eqb}
use lib.ListN.{length, length-append}
use borrow.Author.Tests.{eqb-true}
use Rattle.std.specs.Prelude.{Option, Some, None}
use Rattle.std.specs.Option.{option_map}
use Rattle.base.specs.LineFeed.{line_feed, UpToFeed, up_to_feed}
use Rattle.text.specs.ProgramLine.{parted}
use Rattle.line_buffer.specs.declared.LineBuffer.{LineBuffer}
use Rattle.line_buffer.specs.Buffer.{new_buffer, pushed, buffer_asks, buffer_of}
use Rattle.line_buffer.specs.Taking.{buffered}
use Rattle.line_buffer.proofs.Buffer.{pushed_held, line_held}
use Rattle.line_buffer.proofs.Taking.{left_shorter}
use Rattle.answer_text.specs.declared.AnswerText.{AnswerText}
use Rattle.answer_text.specs.AnswerBytes.{added, text_of_bytes, written_bytes}
use Rattle.answer_text.proofs.AnswerBytes.{added_out, written_whole}
use Rattle.program_line.specs.Answered.{asked_text, answer_line}
use Rattle.program_line.proofs.Answered.{answer_fits, line_is_answered}
use Rattle.program_reads.specs.declared.Program.{Program}
use Rattle.program_reads.specs.Lines.{Split, split, with_byte, split_bytes, last_line, written_answer, answers, program_text}
use Rattle.program_reads.specs.Lines.{by_reads, input_of}
use Rattle.program_reads.specs.Promises.{buffer_answer, last_answer, bytes_written, new_program, after_line, next_answer, AnswersNext}
use Rattle.program_reads.specs.Promises.{fed, WritesRead, no_more, ends, WritesAll, ended, came}
use Rattle.program_reads.proofs.Lines.{split_found, split_goes_on, split_held, up_to_held, reads_make_no_difference}

-- a program has come to a line
abbrev pub Holds : Program → List ℕ → Type 0
Holds p line = p.line ≡ buffer_of line

pub new_holds : Holds new_program []
unfolding parted
new_holds = refl

-- ---- an answer and its line feed
pub answer_written : (line : List ℕ) (h : LineBuffer) → h ≡ buffer_of line → written_bytes (buffer_answer h) ≡ written_answer line
answer_written line h e =
    let a = text_of_bytes (asked_text (buffer_asks h)) in
    let k = line_is_answered line a (ap (λ (h : LineBuffer). text_of_bytes (asked_text (buffer_asks h))) (e ∙ sym (line_held line))) in
    ap (λ (o : AnswerText). written_bytes (added o line_feed)) k.out_is
    ∙ ap written_bytes (added_out (answer_line line) line_feed)
    ∙ written_whole (written_answer line) (omega (arith, answer_fits line, length-append (answer_line line) (line_feed ∷ [])))

pub last_written : (line : List ℕ) (h : LineBuffer) → h ≡ buffer_of line →
    bytes_written (last_answer h) ≡ answers (last_line line)
last_written [] h e = ap (λ (h : LineBuffer). bytes_written (last_answer h)) e
last_written (b ∷ bs) h e = go (eqb (length h.kept) 0) refl
  where
    go : (c : Bool) → eqb (length h.kept) 0 ≡ c → bytes_written (cond c None (Some (buffer_answer h))) ≡ answers (last_line (b ∷ bs))
    go true z = absurd (omega (arith, eqb-true (length h.kept) 0 z, ap (λ (h : LineBuffer). length h.kept) e))
    go false z = answer_written (b ∷ bs) h e ∙ sym (append-nil (written_answer (b ∷ bs)))

-- ---- a step
same_value : {A : Type 0} (x y : A) → Some x ≡ Some y → x ≡ y
same_value x y e = cc

abbrev answer_where : Bool → UpToFeed LineBuffer → Option (AnswerText × List ℕ)
answer_where c t = cond c (Some (buffer_answer t.line, t.left)) None

-- where a line ended, the bytes go on with what it left, and these are fewer
module _ (p q : Program) (bytes : List ℕ) (o : AnswerText) (rest : List ℕ) (a : AnswersNext p bytes q (Some (o, rest))) where
  pub next_found : (buffered p.line bytes).found ≡ true
  next_found = go (buffered p.line bytes).found (sym a.answer_is)
    where
      go : (c : Bool) → answer_where c (buffered p.line bytes) ≡ Some (o, rest) → c ≡ true
      go true e = refl
      go false e = cc

  pub next_left : rest ≡ (buffered p.line bytes).left
  next_left = ap (λ (z : AnswerText × List ℕ). z.1) (same_value _ _ (rw next_found at a.answer_is))

  pub next_shorter : length rest < length bytes
  next_shorter = rw next_left (left_shorter p.line bytes next_found)

pub next_none : (p q : Program) (bytes : List ℕ) → AnswersNext p bytes q None → (buffered p.line bytes).found ≡ false
next_none p q bytes a = go (buffered p.line bytes).found (sym a.answer_is)
  where
    go : (c : Bool) → answer_where c (buffered p.line bytes) ≡ None → c ≡ false
    go true e = cc
    go false e = refl

abbrev pub next_line : List ℕ → List ℕ → UpToFeed (List ℕ)
next_line begun bytes = up_to_feed with_byte begun bytes

-- the answer to the line that ends next, and the line that goes on
abbrev line_answer : UpToFeed (List ℕ) → Option (List ℕ × List ℕ)
line_answer u = cond u.found (Some (written_answer u.line, u.left)) None

abbrev texts : Option (AnswerText × List ℕ) → Option (List ℕ × List ℕ)
texts r = option_map (λ x. (written_bytes x.0, x.1)) r

pub record AnswersLine (u : UpToFeed (List ℕ)) (q : Program) (r : Option (AnswerText × List ℕ)) : Type 0 where
  pub texts_are : texts r ≡ line_answer u
  pub holds : Holds q (cond u.found [] u.line)

abbrev as_buffer : UpToFeed (List ℕ) → UpToFeed LineBuffer
as_buffer u = record { line = buffer_of u.line; left = u.left; found = u.found }

buffered_held : (line bytes : List ℕ) → buffered (buffer_of line) bytes ≡ as_buffer (next_line line bytes)
buffered_held line bytes = up_to_held with_byte [] pushed buffer_of pushed_held line bytes

text_written : (u : UpToFeed (List ℕ)) → texts (next_answer (as_buffer u)) ≡ line_answer u
text_written u = go u.found
  where
    go : (c : Bool) → texts (cond c (Some (buffer_answer (buffer_of u.line), u.left)) None)
        ≡ cond c (Some (written_answer u.line, u.left)) None
    go true = ap (λ (t : List ℕ). Some (t, u.left)) (answer_written u.line (buffer_of u.line) refl)
    go false = refl

line_goes_on : (p : Program) (u : UpToFeed (List ℕ)) → Holds (after_line p (as_buffer u)) (cond u.found [] u.line)
line_goes_on p u = go u.found
  where
    go : (c : Bool) → cond c new_buffer (buffer_of u.line) ≡ buffer_of (cond c [] u.line)
    go true = new_holds
    go false = refl

pub next_answers : (p q : Program) (bytes : List ℕ) (r : Option (AnswerText × List ℕ)) → AnswersNext p bytes q r → (line : List ℕ) →
    Holds p line → AnswersLine (next_line line bytes) q r
next_answers p q bytes r a line h =
    let u = next_line line bytes in
    let e : buffered p.line bytes ≡ as_buffer u = ap (λ (h : LineBuffer). buffered h bytes) h ∙ buffered_held line bytes in
    record {
      texts_are = ap texts (a.answer_is ∙ ap next_answer e) ∙ text_written u;
      holds = ap (λ (q : Program). q.line) (a.program_is ∙ ap (after_line p) e) ∙ line_goes_on p u;
    }

-- ---- what is written of a read, and of all
-- a text is that of the lines that end, and a program holds the line that goes on
abbrev Writes : List ℕ → List ℕ → List ℕ → Program → Type 0
Writes line bytes t q = (t ≡ answers (split_bytes line bytes).whole) × Holds q (split_bytes line bytes).rest

-- by the next line: its answer comes first
writes_line : (p p' q : Program) (bytes rest t : List ℕ) (o : AnswerText) → AnswersNext p bytes p' (Some (o, rest)) → (line : List ℕ) →
    Holds p line → (Holds p' [] → Writes [] rest t q) → Writes line bytes (written_bytes o ++ t) q
writes_line p p' q bytes rest t o n line h k = go u.found refl
  where
    u : UpToFeed (List ℕ)
    u = next_line line bytes

    a : AnswersLine u p' (Some (o, rest))
    a = next_answers p p' bytes (Some (o, rest)) n line h

    go : (c : Bool) → u.found ≡ c → Writes line bytes (written_bytes o ++ t) q
    go false e = let f = rw e at a.texts_are in absurd (true≢false (cc f))
    go true e =
        let s = split_found with_byte [] line bytes e in
        let w = k (a.holds ∙ rw e) in
        let f = same_value _ _ (rw e at a.texts_are) in
        let x = ap (λ (z : List ℕ × List ℕ). z.0) f in
        let y = ap (λ (z : List ℕ × List ℕ). z.1) f in (
          ap₂ (λ (x y : List ℕ). x ++ y) x (w.0 ∙ ap (λ (x : List ℕ). answers (split_bytes [] x).whole) y)
              ∙ sym (ap (λ (x : Split (List ℕ)). answers x.whole) s),
          w.1 ∙ ap (λ (x : List ℕ). buffer_of (split_bytes [] x).rest) y
              ∙ sym (ap (λ (x : Split (List ℕ)). buffer_of x.rest) s),
        )

-- without one there is only the line that goes on
writes_none : (p q : Program) (bytes : List ℕ) → AnswersNext p bytes q None → (line : List ℕ) → Holds p line → Writes line bytes [] q
writes_none p q bytes n line h = go u.found refl
  where
    u : UpToFeed (List ℕ)
    u = next_line line bytes

    a : AnswersLine u q None
    a = next_answers p q bytes None n line h

    go : (c : Bool) → u.found ≡ c → Writes line bytes [] q
    go true e = let f = rw e at a.texts_are in absurd (true≢false (cc f))
    go false e =
        let s = split_goes_on with_byte [] line bytes e in (
          sym (ap (λ (x : Split (List ℕ)). answers x.whole) s),
          a.holds ∙ (rw e) ∙ sym (ap (λ (x : Split (List ℕ)). buffer_of x.rest) s),
        )

pub read_is_answered : (p q : Program) (bytes t : List ℕ) → WritesRead p bytes t q → (line : List ℕ) → Holds p line →
    Writes line bytes t q
read_is_answered p q bytes t (no_more n) line h = writes_none p q bytes n line h
read_is_answered p q bytes t (ends {p' = p'} {rest = rest} {t = t₁} {o = o} n w) line h =
    writes_line p p' q bytes rest t₁ o n line h (λ k. read_is_answered p' q rest t₁ w [] k)

writes_by_reads : (p : Program) (rs : List (List ℕ)) (t : List ℕ) → WritesAll p rs t → (line : List ℕ) → Holds p line →
    t ≡ by_reads line rs
writes_by_reads p rs t (ended e) line h = ap bytes_written e ∙ last_written line p.line h
writes_by_reads p rs t (came {r = r} {q = q} {t = t₁} {u = u} {rs = rest} w v) line h =
    let k = read_is_answered p q r t₁ w line h in
    ap₂ (λ (x y : List ℕ). x ++ y) k.0 (writes_by_reads q rest u v (split_bytes line r).rest k.1)

-- whatever the functions answer within their promises, and however the input is split into reads: the program's text
pub program_writes : (rs : List (List ℕ)) (t : List ℕ) → WritesAll new_program rs t → t ≡ program_text (input_of rs)
program_writes rs t w = writes_by_reads new_program rs t w [] new_holds ∙ reads_make_no_difference rs

-- ---- there is such a text, whatever the reads
abbrev Written : Program → List ℕ → Type 0
Written p bytes = (t : List ℕ) × (q : Program) × WritesRead p bytes t q

-- where fewer than n bytes are left
writes_below : (n : ℕ) (p : Program) (bytes : List ℕ) → length bytes < n → Written p bytes
writes_below zero p bytes h = absurd (omega arith)
writes_below (suc n) p bytes h = go t.found refl (writes_below n q t.left)
  where
    t : UpToFeed LineBuffer
    t = buffered p.line bytes

    q : Program
    q = after_line p t

    go : (c : Bool) → t.found ≡ c → (length t.left < n → Written q t.left) → Written p bytes
    go true e below =
        let k = below (omega (arith, left_shorter p.line bytes e)) in
        (written_bytes (buffer_answer t.line) ++ k.0, k.1, ends (record { program_is = refl; answer_is = rw e }) k.2)
    go false e below = ([], q, no_more (record { program_is = refl; answer_is = rw e }))

pub read_writes_something : (p : Program) (bytes : List ℕ) → (t : List ℕ) × (q : Program) × WritesRead p bytes t q
read_writes_something p bytes = writes_below (suc (length bytes)) p bytes (omega arith)

pub writes_something : (p : Program) (rs : List (List ℕ)) → (t : List ℕ) × WritesAll p rs t
writes_something p [] = (bytes_written (last_answer p.line), ended refl)
writes_something p (r ∷ rs) =
    let k = read_writes_something p r in
    let w = writes_something k.1 rs in
    (k.0 ++ w.0, came k.2 w.1)

-- so the promises allow the program's text, and by `program_writes` no other
pub program_text_written : (rs : List (List ℕ)) → WritesAll new_program rs (program_text (input_of rs))
program_text_written rs =
    let w = writes_something new_program rs in subst (WritesAll new_program rs) (program_writes rs w.0 w.1) w.1

-- ---- a program after a read holds the line that goes on
pub fed_holds : (p : Program) (r line : List ℕ) → Holds p line → Holds (fed p r) (split_bytes line r).rest
fed_holds p r line h =
    ap (λ (h : LineBuffer). (split pushed new_buffer h r).rest) h
    ∙ ap (λ (n : LineBuffer). (split pushed n (buffer_of line) r).rest) new_holds
    ∙ ap (λ (s : Split LineBuffer). s.rest) (split_held with_byte [] pushed buffer_of pushed_held line r)
