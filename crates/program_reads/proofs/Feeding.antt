-- The loop over the lines of a read: what the rest of it makes of the program is always what the whole read makes of it.
use mathlib.Core.Path.{◌≡◌, sym, ap, ◌∙◌}
use mathlib.Core.List.{List}
use Prim.Native.Nat.{ℕ, ◌-◌}
use Rattle.std.specs.Prelude.{Some, None}
use Rattle.line_buffer.specs.declared.LineBuffer.{LineBuffer}
use Rattle.line_buffer.specs.Buffer.{new_buffer, pushed}
use Rattle.line_buffer.specs.Taking.{buffered}
use Rattle.answer_text.specs.declared.AnswerText.{AnswerText}
use Rattle.program_reads.specs.declared.Program.{Program}
use Rattle.program_reads.specs.Lines.{Split, split}
use Rattle.program_reads.specs.Promises.{AnswersNext, fed}
use Rattle.program_reads.proofs.Lines.{split_found, split_goes_on}
use Rattle.program_reads.proofs.Promises.{next_found, next_left, next_none}

abbrev going : Program → LineBuffer → Program
going p h = record { line = h; reads = p.reads - 1 }

module _ (p q : Program) (bytes : List ℕ) where
  -- where a line ended, by the bytes after it
  pub fed_on : (o : AnswerText) (rest : List ℕ) → AnswersNext p bytes q (Some (o, rest)) → fed q rest ≡ fed p bytes
  fed_on o rest a =
      let f = next_found p q bytes o rest a in
      let e : q ≡ record { line = new_buffer; reads = p.reads } = a.program_is ∙ rw f in
      ap (λ (q : Program). fed q rest) e
      ∙ ap (λ (bs : List ℕ). going p (split pushed new_buffer new_buffer bs).rest) (next_left p q bytes o rest a)
      ∙ sym (ap (λ (s : Split LineBuffer). going p s.rest) (split_found pushed new_buffer p.line bytes f))

  -- where none did
  pub fed_whole : AnswersNext p bytes q None → q ≡ fed p bytes
  fed_whole a =
      let f = next_none p q bytes a in
      let e : q ≡ going p (buffered p.line bytes).line = a.program_is ∙ rw f in
      e ∙ sym (ap (λ (s : Split LineBuffer). going p s.rest) (split_goes_on pushed new_buffer p.line bytes f))
