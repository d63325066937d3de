-- The bytes that came so far go on as those that are left do.
use mathlib.Core.Path.{◌≡◌, sym, ◌∙◌}
use mathlib.Core.Bool.{true, false, true≢false}
use mathlib.Core.List.{List}
use Prim.Native.Nat.{ℕ, ◌+◌, ◌≤◌}
use native.Mathlib.Omega.{arith}
use lib.ListN.{length}
use Rattle.std.specs.Prelude.{Option, Some, None, Result, Ok, Err, IfOk, ok_or}
use Rattle.std.specs.Result.{result_ok}
use Rattle.std.specs.declared.io.Error.{Error}
use Rattle.std.proofs.lemmas.Result.{err_from_is_err_and}
use Rattle.io.specs.Counts.{IsPrefixLen}
use Rattle.input.specs.declared.ReadFailed.{ReadFailed}
use Rattle.input.specs.declared.Input.{Input}
use Rattle.input.specs.declared.InputLine.{InputLine}
use Rattle.input.specs.declared.ReadFailed.{ReadFailed}
use Rattle.input.specs.Lines.{new_input, filled, failed_at}
use Rattle.input.proofs.Lines.{Went, went_on, reads, reads_end}
use Rattle.input.proofs.LinesReads.{found_line_came}
use Rattle.input.proofs.Input.next_line.Goals.{After-fill}
use Rattle.input.proofs.Input.next_line.Goals as goal

-- ---- what a read gave
fill_err : (got : Option ℕ) (k : Input) (l : InputLine) (e : ReadFailed) → k ≡ filled got → Err e ≡ ok_or got (failed_at l) →
    (k ≡ new_input) × (e ≡ failed_at l)
fill_err None k l e f h = (f, cc)
fill_err (Some n) k l e f h = cc

fill_ok : (got : Option ℕ) (l : InputLine) (n : ℕ) → Ok n ≡ ok_or got (failed_at l) → got ≡ Some n
fill_ok (Some m) l n h = cc
fill_ok None l n h = cc

got_fits : (r : Result ℕ Error) (buffer : List ℕ) (n : ℕ) → IfOk r (λ m. IsPrefixLen m buffer) → result_ok r ≡ Some n → n ≤ length buffer
got_fits (Ok m) buffer n f h = let same : m ≡ n = cc in omega (arith, f.0)
got_fits (Err x) buffer n f h = cc

went : (c : After-fill) (got turns : ℕ) → got ≤ length c.read-read.new.buf → turns ≤ c.loop-turn._turn + got →
    Went turns c.args.self.now c.args.buffer.now c.args.kept.now (record { at = 0; end = got }) c.take-line.result c.read-read.new.buf
    c.take-line.new.kept
went c got turns fits h =
    let l = c.loop-turn in
    went_on c.args.self.now c.args.buffer.now c.args.kept.now l._turn l.self l.line l.buffer l.kept l.invariant _ _ _
    c.take-line.ensures got c.read-read.new.buf turns c.if-line.false fits h

pub returns-then-line : goal.returns-then-line
returns-then-line c =
    let l = c.loop-turn in
    let m = c.take-line.result in
    rw (← found_line_came m c.if-line.true)
    (reads c.args.self.now c.args.buffer.now c.args.kept.now l._turn l.self l.line l.buffer l.kept l.invariant m _ _ c.take-line.ensures
    (λ e. absurd (true≢false (sym c.if-line.true ∙ e))))

pub returns-in_err-fill : goal.returns-in_err-fill
returns-in_err-fill c =
    let l = c.loop-turn in
    let e = err_from_is_err_and c.from_residual.result c.from_residual.ensures.1 in
    let f = fill_err _ _ _ _ c.in_err-fill.ensures.0 c.in_err-fill.ensures.1 in
    rw (e.1, e.2, f.0, f.1)
    (reads_end c.args.self.now c.args.buffer.now c.args.kept.now l._turn c.take-line.result c.read-read.new.buf c.take-line.new.kept true
    c.if-line.false (went (goal.at.returns-in_err-fill c).After-fill 0 l._turn (omega arith) (omega arith)))

pub returns-then-branch-eq0 : goal.returns-then-branch-eq0
returns-then-branch-eq0 c =
    let l = c.loop-turn in
    rw (c.at_end.ensures, c.in_ok-fill.ensures.0, fill_ok _ _ _ c.in_ok-fill.ensures.1, c.if-branch-eq0.true)
    (reads_end c.args.self.now c.args.buffer.now c.args.kept.now l._turn c.take-line.result c.read-read.new.buf c.take-line.new.kept false
    c.if-line.false (went (goal.at.returns-then-branch-eq0 c).After-fill 0 l._turn (omega arith) (omega arith)))

pub loop-turn-preserved : goal.loop-turn-preserved
loop-turn-preserved c =
    let some = fill_ok _ _ _ c.in_ok-fill.ensures.1 in
    rw (c.in_ok-fill.ensures.0, some) (went (goal.at.loop-turn-preserved c).After-fill c.in_ok-fill.field-0 (c.loop-turn._turn + 1)
    (got_fits c.read-read.result _ _ c.read-read.ensures.bound some) (omega arith))

pub returns : goal.returns
returns c =
    let l = c.loop-turn in
    rw c.at_end-2.ensures
    (reads c.args.self.now c.args.buffer.now c.args.kept.now l._turn l.self l.line l.buffer l.kept l.invariant _ _ _ c.take.ensures
    (λ e. omega arith))
