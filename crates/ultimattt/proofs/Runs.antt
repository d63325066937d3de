-- A run, read by read; and what its program holds where the input ended: the last line of all that came.
use mathlib.Core.Path.{◌≡◌, refl, sym, ap, ◌∙◌, subst}
use mathlib.Core.Bool.{Bool, true, false, cond, ◌&&◌, true≢false}
use mathlib.Core.List.{List, [], ◌∷◌, ◌++◌, map}
use Prim.Native.Nat.{ℕ, ◌-◌, ◌<◌, ◌≤◌}
use native.Mathlib.Omega.{arith}
use lib.Dec.{eqb, ltb}
use lib.ListN.{length, take, length-take}
use borrow.Author.Tests.{ltb-true, ltb-false}
use Rattle.std.specs.Prelude.{Option, Some, None, IsSome, option_map}
use Rattle.std.proofs.lemmas.Option.{none-some}
use Rattle.text.specs.Bytes.{quoted}
use Rattle.text.specs.Padded.{padded}
use Rattle.text.proofs.Padded.{length_padded}
use Rattle.line_buffer.specs.declared.LineBuffer.{LineBuffer}
use Rattle.line_buffer.specs.Buffer.{buffer_of}
use Rattle.answer_text.specs.declared.AnswerText.{AnswerText}
use Rattle.answer_text.specs.AnswerBytes.{added, text_of_bytes}
use Rattle.program_reads.specs.declared.Program.{Program}
use Rattle.program_reads.specs.Lines.{Split, split, with_byte, split_bytes, last_line, answers, input_of}
use Rattle.program_reads.specs.Promises.{buffer_answer, last_answer, bytes_written, fed}
use Rattle.program_reads.proofs.Lines.{split_append}
use Rattle.program_reads.proofs.Promises.{Holds, new_holds, last_written, fed_holds}
use Rattle.ultimattt.specs.declared.ProgramRun.{ProgramRun}
use Rattle.ultimattt.specs.declared.Progress.{Progress}
use Rattle.ultimattt.specs.declared.Progress.TheVariants.{Reading, InputEnded, ReadFailed, WriteFailed}
use Rattle.ultimattt.specs.Runs.{ReadStep, read_bytes, new_run, after_feeding, after_bytes, after_got, after_read, AfterFeeding, AfterRead}
use Rattle.ultimattt.specs.Runs.{is_reading, goes_on, RunsTo, stops, reads, SomeRun, last_of_run, told_of_run, Concluded}

-- ---- one read
pub all_fed : (p q : Program) (bytes : List ℕ) → q ≡ fed p bytes → AfterFeeding p bytes (record { program = q; progress = Reading })
all_fed p q bytes e = (true, rw e, λ _. refl)

module _ (p : Program) (buffer : List ℕ) (got : Option ℕ) where
  pub read_failed : got ≡ None → AfterRead p got buffer (record { program = p; progress = ReadFailed })
  unfolding after_read
  read_failed e = (true, rw e, λ _. refl)

  pub input_ended : got ≡ Some 0 → AfterRead p got buffer (record { program = p; progress = InputEnded })
  unfolding after_read
  input_ended e = (true, rw e, λ _. refl)

  by_bytes : (bytes : List ℕ) (r : ProgramRun) (written : Bool) → 0 < length bytes → r ≡ after_feeding p bytes written →
      r ≡ after_bytes p bytes written
  by_bytes [] r written h e = absurd (omega arith)
  by_bytes (b ∷ bs) r written h e = e

  pub bytes_fed : (n : ℕ) (r : ProgramRun) → got ≡ Some n → 0 < length (take n buffer) → AfterFeeding p (take n buffer) r →
      AfterRead p got buffer r
  unfolding after_read
  bytes_fed n r e h f = (f.0, rw e (by_bytes (take n buffer) r f.0 h f.1), rw e f.2)

-- ---- all reads
-- however a run goes on from r, it is one from b
abbrev pub LeadsFrom : ProgramRun → ProgramRun → Type 0
LeadsFrom b r = (steps : List ReadStep) (s : ProgramRun) → RunsTo r steps s → SomeRun b s

module _ (b : ProgramRun) where
  pub leads_from_itself : LeadsFrom b b
  leads_from_itself steps s h = (steps, h)

  pub one_read_more : (r s : ProgramRun) (buffer : List ℕ) (got : Option ℕ) (go : Bool) → go ≡ goes_on r → go ≡ true →
      AfterRead r.program got buffer s → LeadsFrom b r → LeadsFrom b s
  one_read_more r s buffer got go e f a way steps t h = way (_ ∷ steps) t (reads (sym e ∙ f) a.2 (rw a.1 at h))

  pub at_its_end : (r : ProgramRun) (go : Bool) → go ≡ goes_on r → go ≡ false → LeadsFrom b r → SomeRun b r
  at_its_end r go e f way = way [] r (stops (sym e ∙ f))

  pub begun_new : (r : ProgramRun) → b ≡ new_run → SomeRun b r → SomeRun new_run r
  begun_new r e h = rw e at h

-- each read brings the end nearer
abbrev pub turns_left : ProgramRun → ℕ
turns_left r = cond (goes_on r) r.program.reads 0

at_most : (c : Bool) (n : ℕ) → cond c n 0 ≤ n
at_most true n = omega arith
at_most false n = omega arith

one_turn_less : (p : Program) (a : ReadStep) → turns_left (after_read p a) ≤ p.reads - 1
unfolding after_read
one_turn_less p a = go a.got (read_bytes a) a.written
  where
    go : (got : Option ℕ) (bytes : List ℕ) (written : Bool) → turns_left (after_got p got bytes written) ≤ p.reads - 1
    go None bytes written = omega arith
    go (Some n) [] written = omega arith
    go (Some n) (b ∷ bs) true = at_most (ltb 0 (p.reads - 1)) (p.reads - 1)
    go (Some n) (b ∷ bs) false = omega arith

reads_left : (r : ProgramRun) → goes_on r ≡ true → 0 < r.program.reads
reads_left r e = ltb-true 0 r.program.reads (go (is_reading r.progress) e)
  where
    go : (c : Bool) → (c && ltb 0 r.program.reads) ≡ true → ltb 0 r.program.reads ≡ true
    go true f = f
    go false f = absurd (true≢false (sym f))

pub turns_fall : (r s : ProgramRun) (buffer : List ℕ) (got : Option ℕ) (go : Bool) → go ≡ goes_on r → go ≡ true →
    AfterRead r.program got buffer s → turns_left s < turns_left r
turns_fall r s buffer got go e f a =
    let on : goes_on r ≡ true = sym e ∙ f in
    rw (a.1, on) (omega (arith, one_turn_less r.program (record { got = got; buffer = buffer; written = a.0 }), reads_left r on))

-- ---- how a read leaves a run, by what was returned
abbrev pub ReturnedFor : Progress → ReadStep → Type 0
ReturnedFor InputEnded a = IsSome a.got × (read_bytes a ≡ [])
ReturnedFor ReadFailed a = a.got ≡ None
ReturnedFor WriteFailed a = IsSome a.got × (read_bytes a ≡ [] → ⊥) × (a.written ≡ false)
ReturnedFor Reading a = IsSome a.got × (read_bytes a ≡ [] → ⊥) × (a.written ≡ true)

pub returned_for : (p : Program) (a : ReadStep) → ReturnedFor (after_read p a).progress a
unfolding after_read
returned_for p a = go a.got refl (read_bytes a) refl a.written refl
  where
    cons : (b : ℕ) (bs : List ℕ) → read_bytes a ≡ b ∷ bs → read_bytes a ≡ [] → ⊥
    cons b bs e f = let z : 1 ≤ 0 = subst (λ (l : List ℕ). 1 ≤ length l) (sym e ∙ f) (omega arith) in omega arith

    go : (got : Option ℕ) → a.got ≡ got → (bs : List ℕ) → read_bytes a ≡ bs → (w : Bool) → a.written ≡ w →
        ReturnedFor (after_got p got bs w).progress a
    go None e bs f w g = e
    go (Some n) e [] f w g = (rw e, f)
    go (Some n) e (b ∷ bs) f true g = (rw e, cons b bs f, g)
    go (Some n) e (b ∷ bs) f false g = (rw e, cons b bs f, g)

-- a failed read gave none
pub none_returned : (a : ReadStep) → a.got ≡ None → read_bytes a ≡ []
none_returned a e = rw e

-- a run has read at least once
pub not_at_once : (s : ProgramRun) → RunsTo new_run [] s → ⊥
not_at_once s (stops e) = true≢false e

-- ---- its end
-- one that does not go on ends where it is
stays : (r s : ProgramRun) (steps : List ReadStep) → goes_on r ≡ false → RunsTo r steps s → s ≡ r
stays r s _ e (stops f) = refl
stays r s _ e (reads f n h) = absurd (true≢false (sym f ∙ e))

-- the line that a program holds goes on with what came
line_held : (p : Program) (line : List ℕ) (a : ReadStep) (s : ProgramRun) (more : List ReadStep) → Holds p line →
    RunsTo (after_read p a) more s → (s.progress ≡ WriteFailed → ⊥) →
    Holds (after_read p a).program (split_bytes line (read_bytes a)).rest
unfolding after_read split
line_held p line a s more h = go a.got (read_bytes a) a.written (λ e. none_returned a e)
  where
    go : (got : Option ℕ) (bytes : List ℕ) (written : Bool) → (got ≡ None → bytes ≡ []) →
        RunsTo (after_got p got bytes written) more s → (s.progress ≡ WriteFailed → ⊥) →
        Holds (after_got p got bytes written).program (split_bytes line bytes).rest
    go None bytes written e w k = rw (e refl) h
    go (Some n) [] written e w k = h
    go (Some n) (b ∷ bs) true e w k = fed_holds p (b ∷ bs) line h
    go (Some n) (b ∷ bs) false e w k = absurd (k (ap (λ (r : ProgramRun). r.progress) (stays _ s more refl w)))

-- where a run still reads at its end, a read before it was fed
one_read_fewer : (p : Program) (a : ReadStep) (s : ProgramRun) (more : List ReadStep) → RunsTo (after_read p a) more s →
    s.progress ≡ Reading → (after_read p a).program.reads ≡ p.reads - 1
unfolding after_read
one_read_fewer p a s more w q = go a.got (read_bytes a) a.written w
  where
    go : (got : Option ℕ) (bytes : List ℕ) (written : Bool) → RunsTo (after_got p got bytes written) more s →
        (after_got p got bytes written).program.reads ≡ p.reads - 1
    go None bytes written w = absurd (true≢false (cc (sym q ∙ ap (λ (r : ProgramRun). r.progress) (stays _ s more refl w))))
    go (Some n) [] written w = absurd (true≢false (cc (sym q ∙ ap (λ (r : ProgramRun). r.progress) (stays _ s more refl w))))
    go (Some n) (b ∷ bs) true w = refl
    go (Some n) (b ∷ bs) false w = absurd (true≢false (cc (sym q ∙ ap (λ (r : ProgramRun). r.progress) (stays _ s more refl w))))

module _ (s : ProgramRun) (good : s.progress ≡ WriteFailed → ⊥) where
  -- the same, with the run before the line that is held
  holds_after : (r : ProgramRun) (steps : List ReadStep) (line : List ℕ) → RunsTo r steps s → Holds r.program line →
      Holds s.program (split_bytes line (input_of (map read_bytes steps))).rest
  unfolding split
  holds_after r _ line (stops e) h = h
  holds_after r (a ∷ more) line (reads e n w) h =
      holds_after (after_read r.program a) more (split_bytes line (read_bytes a)).rest w (line_held r.program line a s more h w good)
      ∙ sym (ap (λ (x : Split (List ℕ)). buffer_of x.rest)
      (split_append with_byte [] line (read_bytes a) (input_of (map read_bytes more))))

  -- unless a write failed, the program at the end holds the line that goes on after all that came
  pub run_holds : (r : ProgramRun) (steps : List ReadStep) (line : List ℕ) → Holds r.program line → RunsTo r steps s →
      Holds s.program (split_bytes line (input_of (map read_bytes steps))).rest
  run_holds r steps line h w = holds_after r steps line w h

-- where the input ended, the last text is the answer to the last line of all that came
pub last_line_answered : (s : ProgramRun) (steps : List ReadStep) → RunsTo new_run steps s → s.progress ≡ InputEnded →
    bytes_written (last_of_run s.progress s.program)
    ≡ answers (last_line (split_bytes [] (input_of (map read_bytes steps))).rest)
last_line_answered s steps w e =
    ap (λ (x : Progress). bytes_written (last_of_run x s.program)) e
    ∙ last_written (split_bytes [] (input_of (map read_bytes steps))).rest s.program.line
    (run_holds s (λ f. let z : InputEnded ≡ WriteFailed = sym e ∙ f in different z) new_run steps [] new_holds w)
  where
    different : InputEnded ≡ WriteFailed → ⊥
    different z = true≢false (cc z)

-- no text but where the input ended
pub no_last_text : (x : Progress) (p : Program) → (x ≡ InputEnded → ⊥) → last_of_run x p ≡ None
no_last_text InputEnded p n = absurd (n refl)
no_last_text Reading p n = refl
no_last_text ReadFailed p n = refl
no_last_text WriteFailed p n = refl

-- an input without a byte
pub empty_run : RunsTo new_run (record { got = Some 0; buffer = []; written = true } ∷ [])
    (record { program = new_run.program; progress = InputEnded })
unfolding after_read
empty_run = reads refl (λ _. refl) (stops refl)

-- nothing is told only where the input ended and the last text was written
pub told_nothing : (x : Progress) (w : Bool) → told_of_run x w ≡ None → (x ≡ InputEnded) × (w ≡ true)
told_nothing InputEnded true e = (refl, refl)
told_nothing InputEnded false e = absurd (none-some _ (sym e))
told_nothing Reading w e = absurd (none-some _ (sym e))
told_nothing ReadFailed w e = absurd (none-some _ (sym e))
told_nothing WriteFailed w e = absurd (none-some _ (sym e))

-- what is told begins with what failed
module _ (w : Bool) where
  pub told_of_reading : option_map (take 25) (told_of_run ReadFailed w) ≡ Some (quoted "ultimattt: reading failed")
  unfolding quoted
  told_of_reading = refl

  pub told_of_writing : option_map (take 25) (told_of_run WriteFailed w) ≡ Some (quoted "ultimattt: writing failed")
  unfolding quoted
  told_of_writing = refl

-- one that still reads has used all reads up
reads_counted : (r s : ProgramRun) (steps : List ReadStep) → RunsTo r steps s → s.progress ≡ Reading → r.program.reads ≡ length steps
reads_counted r s _ (stops e) q = none_left r.progress q e
  where
    none_left : (x : Progress) → x ≡ Reading → (is_reading x && ltb 0 r.program.reads) ≡ false → r.program.reads ≡ 0
    none_left Reading f g = omega (arith, ltb-false 0 r.program.reads g)
    none_left InputEnded f g = absurd (true≢false (cc f))
    none_left ReadFailed f g = absurd (true≢false (cc f))
    none_left WriteFailed f g = absurd (true≢false (cc f))
reads_counted r s (a ∷ more) (reads e n w) q =
    let k = reads_counted (after_read r.program a) s more w q in
    omega (arith, k, reads_left r e, one_read_fewer r.program a s more w q)

pub reads_used_up : (s : ProgramRun) (steps : List ReadStep) → RunsTo new_run steps s → s.progress ≡ Reading →
    length steps ≡ 18446744073709551615
reads_used_up s steps w q = sym (reads_counted new_run s steps w q)

-- ---- what is written and told at the end
pub concluded : (r : ProgramRun) (x y : Option AnswerText) (w : Bool) → x ≡ last_of_run r.progress r.program → (x ≡ None → w ≡ true) →
    y ≡ option_map text_of_bytes (told_of_run r.progress w) → Concluded r (record { text = x; told = y })
concluded r x y w e k f = (w, λ i. record { text = e i; told = f i }, k)

-- ---- the room of the last text
added_room : (o : AnswerText) (b : ℕ) → length (added o b).bytes ≤ 224
unfolding added
added_room o b = omega (arith, length-take 224 (o.bytes ++ (b ∷ [])))

last_room : (h : LineBuffer) (o : AnswerText) → Some o ≡ last_answer h → length o.bytes ≤ 224
last_room h o e = go (eqb (length h.kept) 0) e
  where
    go : (c : Bool) → Some o ≡ cond c None (Some (buffer_answer h)) → length o.bytes ≤ 224
    go true e = absurd (none-some _ (sym e))
    go false e = let q : o ≡ buffer_answer h = cc in rw q (added_room _ _)

-- it has at most 224 bytes, and so stands in a row of 224
pub last_of_run_room : (x : Progress) (p : Program) (o : AnswerText) → Some o ≡ last_of_run x p →
    (length o.bytes ≤ 224) × (length (padded 224 o.bytes) ≡ 224)
last_of_run_room InputEnded p o e = (last_room p.line o e, length_padded 224 o.bytes)
last_of_run_room Reading p o e = absurd (none-some _ (sym e))
last_of_run_room ReadFailed p o e = absurd (none-some _ (sym e))
last_of_run_room WriteFailed p o e = absurd (none-some _ (sym e))

-- and nothing of the answer is cut off
pub last_of_run_whole : (x : Progress) (p : Program) (o : AnswerText) → Some o ≡ last_of_run x p → (line : List ℕ) → Holds p line →
    o.bytes ≡ answers (last_line line)
last_of_run_whole InputEnded p o e line h = ap bytes_written e ∙ last_written line p.line h
last_of_run_whole Reading p o e line h = absurd (none-some _ (sym e))
last_of_run_whole ReadFailed p o e line h = absurd (none-some _ (sym e))
last_of_run_whole WriteFailed p o e line h = absurd (none-some _ (sym e))
