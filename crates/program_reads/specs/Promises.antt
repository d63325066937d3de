-- What the functions answer, for every program; and what a run of them writes.
use Rattle.std.specs.Prelude.{◌≡◌, Option, Some, None, cond, List, [], ◌∷◌, ◌++◌, ℕ, ◌-◌, eqb, length}
use Rattle.std.specs.Option.{option_map}
use Rattle.std.specs.Borrow.{Bor}
use Rattle.base.specs.LineFeed.{line_feed, UpToFeed}
use Rattle.line_buffer.specs.declared.LineBuffer.{LineBuffer}
use Rattle.line_buffer.specs.Buffer.{new_buffer, pushed, buffer_asks}
use Rattle.line_buffer.specs.Taking.{buffered}
use Rattle.answer_text.specs.declared.AnswerText.{AnswerText}
use Rattle.answer_text.specs.AnswerBytes.{added, text_of_bytes, written_bytes}
use Rattle.program_line.specs.Answered.{asked_text}
use Rattle.program_reads.specs.declared.Program.{Program}
use Rattle.program_reads.specs.Lines.{split}

-- ---- answers to what is held of a line
abbrev pub buffer_answer : LineBuffer → AnswerText
buffer_answer h = added (text_of_bytes (asked_text (buffer_asks h))) line_feed

-- none, if there is nothing on the line
abbrev pub last_answer : LineBuffer → Option AnswerText
last_answer h = cond (eqb (length h.kept) 0) None (Some (buffer_answer h))

-- what is written of a text, nothing where there is none
abbrev pub bytes_written : Option AnswerText → List ℕ
bytes_written None = []
bytes_written (Some o) = written_bytes o

-- ---- the program
abbrev pub new_program : Program
new_program = record { line = new_buffer; reads = 18446744073709551615 }

-- after bytes up to a line feed: a new line, and the read goes on; or after all of a read, the line that goes on into the next
abbrev pub after_line : Program → UpToFeed LineBuffer → Program
after_line p t = record { line = cond t.found new_buffer t.line; reads = cond t.found p.reads (p.reads - 1) }

-- where a line ended, its answer and the bytes after it
abbrev pub next_answer : UpToFeed LineBuffer → Option (AnswerText × List ℕ)
next_answer t = cond t.found (Some (buffer_answer t.line, t.left)) None

-- q is the program after bytes up to a line feed, and r the answer and what follows
pub record AnswersNext (p : Program) (bytes : List ℕ) (q : Program) (r : Option (AnswerText × List ℕ)) : Type 0 where
  pub program_is : q ≡ after_line p (buffered p.line bytes)
  pub answer_is : r ≡ next_answer (buffered p.line bytes)

-- of what the code answers: the bytes behind the reference
abbrev pub values : Option (AnswerText × Bor (List ℕ)) → Option (AnswerText × List ℕ)
values r = option_map (λ x. (x.0, x.1.now)) r

-- after a read
abbrev pub fed : Program → List ℕ → Program
fed p bytes = record { line = (split pushed new_buffer p.line bytes).rest; reads = p.reads - 1 }

-- ---- what a run writes, step by step, whatever values the promises allow
-- of the bytes of one read: answers until no line ends any more
pub data WritesRead : Program → List ℕ → List ℕ → Program → Type 0 where
  no_more : {p q : Program} {bytes : List ℕ} → AnswersNext p bytes q None → WritesRead p bytes [] q
  ends : {p p' q : Program} {bytes rest t : List ℕ} {o : AnswerText} → AnswersNext p bytes p' (Some (o, rest)) →
      WritesRead p' rest t q → WritesRead p bytes (written_bytes o ++ t) q

-- of all reads, and of the last line
pub data WritesAll : Program → List (List ℕ) → List ℕ → Type 0 where
  ended : {p : Program} {o : Option AnswerText} → o ≡ last_answer p.line → WritesAll p [] (bytes_written o)
  came : {r : List ℕ} {p q : Program} {t u : List ℕ} {rs : List (List ℕ)} → WritesRead p r t q → WritesAll q rs u →
      WritesAll p (r ∷ rs) (t ++ u)
