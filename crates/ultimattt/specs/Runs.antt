-- A run of the program: what it comes to, whatever `read` and the writes return.
use Rattle.std.specs.Prelude.{◌≡◌, Option, Some, None, unwrap_or, option_map, Bool, true, false, ◌&&◌, List, [], ◌∷◌, ℕ, ltb, take}
use Rattle.text.specs.Bytes.{message}
use Rattle.answer_text.specs.declared.AnswerText.{AnswerText}
use Rattle.answer_text.specs.AnswerBytes.{text_of_bytes}
use Rattle.line_buffer.specs.Taking.{buffered}
use Rattle.program_reads.specs.declared.Program.{Program}
use Rattle.program_reads.specs.Promises.{new_program, last_answer, fed}
use Rattle.ultimattt.specs.declared.ProgramRun.{ProgramRun}
use Rattle.ultimattt.specs.declared.RunEnd.{RunEnd}
use Rattle.ultimattt.specs.declared.Progress.{Progress}
use Rattle.ultimattt.specs.declared.Progress.TheVariants.{Reading, InputEnded, ReadFailed, WriteFailed}

-- one read: how many bytes came into the buffer, none if `read` failed; and whether the answers to the lines that end in them could all
-- be written
pub record ReadStep : Type 0 where
  pub got : Option ℕ
  pub buffer : List ℕ
  pub written : Bool

-- the bytes that came
abbrev pub read_bytes : ReadStep → List ℕ
read_bytes a = take (unwrap_or a.got 0) a.buffer

-- ---- a read
abbrev pub new_run : ProgramRun
new_run = record { program = new_program; progress = Reading }

-- the bytes are fed whole, or not at all where not all answers could be written
abbrev pub after_feeding : Program → List ℕ → Bool → ProgramRun
after_feeding p bytes true = record { program = fed p bytes; progress = Reading }
after_feeding p bytes false = record { program = p; progress = WriteFailed }

-- where no byte came the input has ended
abbrev pub after_bytes : Program → List ℕ → Bool → ProgramRun
after_bytes p [] written = record { program = p; progress = InputEnded }
after_bytes p (b ∷ bs) written = after_feeding p (b ∷ bs) written

abbrev pub after_got : Program → Option ℕ → List ℕ → Bool → ProgramRun
after_got p None bytes written = record { program = p; progress = ReadFailed }
after_got p (Some n) bytes written = after_bytes p bytes written

-- the run after one read more
unfoldable pub after_read : Program → ReadStep → ProgramRun
after_read p a = after_got p a.got (read_bytes a) a.written

-- where no line ends nothing is to be written, so no write fails
abbrev pub WrittenIfNoLineEnds : Program → List ℕ → Bool → Type 0
WrittenIfNoLineEnds p bytes written = (buffered p.line bytes).found ≡ false → written ≡ true

-- for some return of the writes
abbrev pub AfterFeeding : Program → List ℕ → ProgramRun → Type 0
AfterFeeding p bytes r = (written : Bool) × (r ≡ after_feeding p bytes written) × WrittenIfNoLineEnds p bytes written

abbrev pub AfterRead : Program → Option ℕ → List ℕ → ProgramRun → Type 0
AfterRead p got buffer r = (written : Bool) × (r ≡ after_read p (record { got = got; buffer = buffer; written = written })) ×
    WrittenIfNoLineEnds p (read_bytes (record { got = got; buffer = buffer; written = written })) written

-- ---- all reads
-- neither ended nor failed
abbrev pub is_reading : Progress → Bool
is_reading Reading = true
is_reading InputEnded = false
is_reading ReadFailed = false
is_reading WriteFailed = false

-- one more read comes
abbrev pub goes_on : ProgramRun → Bool
goes_on r = is_reading r.progress && ltb 0 r.program.reads

-- from a run, read by read, to the run at its end
pub data RunsTo : ProgramRun → List ReadStep → ProgramRun → Type 0 where
  stops : {r : ProgramRun} → goes_on r ≡ false → RunsTo r [] r
  reads : {r s : ProgramRun} {a : ReadStep} {more : List ReadStep} → goes_on r ≡ true →
      WrittenIfNoLineEnds r.program (read_bytes a) a.written → RunsTo (after_read r.program a) more s → RunsTo r (a ∷ more) s

-- for some returns of `read` and of the writes
abbrev pub SomeRun : ProgramRun → ProgramRun → Type 0
SomeRun begun r = (steps : List ReadStep) × RunsTo begun steps r

-- ---- its end
-- what is written then, if anything
abbrev pub last_of_run : Progress → Program → Option AnswerText
last_of_run InputEnded p = last_answer p.line
last_of_run Reading p = None
last_of_run ReadFailed p = None
last_of_run WriteFailed p = None

-- what is told on standard error, by whether the last text was written; a run that still reads has used its reads up
abbrev pub told_of_run : Progress → Bool → Option (List ℕ)
told_of_run InputEnded true = None
told_of_run InputEnded false = Some (message "ultimattt: writing failed, the last answer is missing")
told_of_run Reading written = Some (message "ultimattt: too many reads, the rest of the input is not answered")
told_of_run ReadFailed written = Some (message "ultimattt: reading failed, what came of the last line is not answered")
told_of_run WriteFailed written = Some (message "ultimattt: writing failed, answers are missing")

abbrev pub run_end : ProgramRun → Bool → RunEnd
run_end r written = record {
  text = last_of_run r.progress r.program;
  told = option_map text_of_bytes (told_of_run r.progress written);
}

-- for some return of the write, if there is anything to write
abbrev pub Concluded : ProgramRun → RunEnd → Type 0
Concluded r e = (written : Bool) × (e ≡ run_end r written) × (e.text ≡ None → written ≡ true)
