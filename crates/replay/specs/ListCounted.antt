-- A list of records, counted one after the other.
use Rattle.std.specs.Prelude.{◌≡◌, true, false, List, ℕ, length, Option, Some, None, Result, Ok, Err}
use Rattle.input.specs.declared.Input.{Input}
use Rattle.input.specs.declared.InputLine.{InputLine}
use Rattle.input.specs.declared.ReadFailed.{ReadFailed}
use Rattle.input.specs.Lines.{new_input, complete_line, ReadsLine}
use Rattle.replay.specs.declared.totals.Comparison.{Comparison}
use Rattle.replay.specs.declared.totals.Conclusion.{Conclusion}
use Rattle.replay.specs.declared.totals.Failure.{Failure}
use Rattle.replay.specs.declared.totals.Failure.TheVariants.{Reading}
use Rattle.replay.specs.declared.totals.Totals.{Totals}
use Rattle.replay.specs.Totals.{new_totals, may_go_on, RecordCounted, Concludes}

-- where the reading of an input stands: its buffer, and what is kept of a line
pub record Reader : Type 0 where
  pub input : Input
  pub buffer : List ℕ
  pub kept : List ℕ

-- nothing was read yet
abbrev pub IsNew : Reader → Type 0
IsNew a = (a.input ≡ new_input) × (length a.buffer ≡ 65536) × (length a.kept ≡ 4096)

-- what the next line is read as, and where the reading stands then
abbrev pub Next : Reader → Result (Option InputLine) ReadFailed → Reader → Type 0
Next a r b = ReadsLine a.input a.buffer a.kept r b.input b.buffer b.kept

-- what is found of the line that was read
module _ (outcome_of : List ℕ → Comparison) where
  abbrev pub found : InputLine → Reader → Comparison
  found line b = outcome_of (complete_line line b.kept)

  -- the lines from a reader on, each counted once and in turn: the totals before and after, and whether something failed
  pub data Counts : Reader → Totals → Totals → Result (Unit {0}) Failure → Type 0 where
    full : {a : Reader} {t : Totals} → may_go_on t ≡ false → Counts a t t (Ok tt)
    ends : {a b : Reader} {t : Totals} → may_go_on t ≡ true → Next a (Ok None) b → Counts a t t (Ok tt)
    unread : {a b : Reader} {t : Totals} {why : ReadFailed} → may_go_on t ≡ true → Next a (Err why) b → Counts a t t (Err Reading)
    unwritten : {a b : Reader} {t u : Totals} {line : InputLine} {why : Failure} → may_go_on t ≡ true → Next a (Ok (Some line)) b →
        RecordCounted t (found line b) u (Err why) → Counts a t u (Err why)
    goes_on : {a b : Reader} {t u v : Totals} {line : InputLine} {r : Result (Unit {0}) Failure} → may_go_on t ≡ true →
        Next a (Ok (Some line)) b → RecordCounted t (found line b) u (Ok tt) → Counts b u v r → Counts a t v r

  -- the lines of an input
  abbrev pub CountsFrom : Totals → Totals → Result (Unit {0}) Failure → Type 0
  CountsFrom t u r = (a : Reader) × IsNew a × Counts a t u r

  -- all were counted, or as many as can be, or something failed; and that was concluded
  abbrev pub Replays : List ℕ → Conclusion → Type 0
  Replays said r = (t : Totals) × (counted : Result (Unit {0}) Failure) × CountsFrom new_totals t counted × Concludes t said counted r
