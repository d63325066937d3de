-- How many records agree, and what is printed of them.
use Rattle.std.specs.Prelude.{◌≡◌, Bool, true, false, List, [], ◌∷◌, ◌++◌, ℕ, eqb, ltb}
use Rattle.std.specs.Prelude.{Option, Some, None, option_map, Result, Ok, Err}
use Rattle.base.specs.Branch.{when◌then◌else◌}
use Rattle.base.specs.LineFeed.{line_feed}
use Rattle.text.specs.Bytes.{quoted, message}
use Rattle.text.specs.ProgramLine.{decimal}
use Rattle.answer_text.specs.declared.AnswerText.{AnswerText}
use Rattle.answer_text.specs.AnswerBytes.{text_of_bytes}
use Rattle.input.specs.Lines.{count_on}
use Rattle.replay.specs.declared.totals.Totals.{Totals}
use Rattle.replay.specs.declared.totals.Failure.{Failure}
use Rattle.replay.specs.declared.totals.Failure.TheVariants.{Reading, Writing}
use Rattle.replay.specs.declared.totals.Conclusion.{Conclusion}
use Rattle.replay.specs.declared.totals.Comparison.{Comparison}
use Rattle.replay.specs.declared.totals.Comparison.TheVariants.{Agrees, Apart, Differs}

-- by whether a record agrees, and whether it then is apart
unfoldable pub comparison : Bool → Bool → Comparison
comparison agrees apart = when agrees then (λ _. when apart then (λ _. Apart) else λ _. Agrees) else λ _. Differs

-- no record yet
abbrev pub new_totals : Totals
new_totals = record { records = 0; agreed = 0; apart = 0 }

-- one record more
abbrev pub with_record : Totals → Comparison → Totals
with_record t Agrees = record { records = count_on t.records; agreed = count_on t.agreed; apart = t.apart }
with_record t Apart = record { records = count_on t.records; agreed = count_on t.agreed; apart = count_on t.apart }
with_record t Differs = record { records = count_on t.records; agreed = t.agreed; apart = t.apart }

-- the records can be counted
abbrev pub may_go_on : Totals → Bool
may_go_on t = ltb t.records 0xffffffffffffffff

-- ---- what is printed
-- by whether all of it was written
abbrev pub written : Bool → Result (Unit {0}) Failure
written true = Ok tt
written false = Err Writing

-- for some return of the write, if there is anything to write
abbrev pub Prints : Option AnswerText → Result (Unit {0}) Failure → Type 0
Prints (Some text) r = (all : Bool) × (r ≡ written all)
Prints None r = r ≡ Ok tt

-- of a record, by its number
abbrev pub record_text : ℕ → Comparison → Option (List ℕ)
record_text n Agrees = None
record_text n Apart = None
record_text n Differs = Some ((quoted "differs: record " ++ decimal n) ++ (line_feed ∷ []))

-- one record more, which is printed if it differs
abbrev pub RecordCounted : Totals → Comparison → Totals → Result (Unit {0}) Failure → Type 0
RecordCounted t o u r = (u ≡ with_record t o) × Prints (option_map text_of_bytes (record_text u.records o)) r

abbrev pub agreed_text : Totals → List ℕ
agreed_text t = ((decimal t.agreed ++ quoted " of ") ++ decimal t.records) ++ quoted " records agree"

-- of all, with what is said of those that are apart
unfoldable pub verdict_text : Totals → List ℕ → List ℕ
verdict_text t said =
    when eqb t.apart 0 then (λ _. agreed_text t ++ (line_feed ∷ [])) else
    λ _. ((((agreed_text t ++ quoted ", ") ++ decimal t.apart) ++ quoted " of them ") ++ said) ++ (line_feed ∷ [])

-- at the end of a list: nothing if not all of it was counted
abbrev pub last_text : Totals → List ℕ → Result (Unit {0}) Failure → Option (List ℕ)
last_text t said (Ok _) = Some (verdict_text t said)
last_text t said (Err why) = None

-- on standard error
abbrev pub failure_text : Failure → List ℕ
failure_text Reading = message "reading failed: the list is not whole"
failure_text Writing = message "writing failed: not all is printed"

abbrev pub told_text : Result (Unit {0}) Failure → Option (List ℕ)
told_text (Ok _) = None
told_text (Err why) = Some (failure_text why)

-- what failed first: the counting, or the last print
abbrev pub ended : Result (Unit {0}) Failure → Result (Unit {0}) Failure → Result (Unit {0}) Failure
ended (Ok _) printed = printed
ended (Err why) printed = Err why

-- the end of a list
abbrev pub conclusion : Totals → List ℕ → Result (Unit {0}) Failure → Result (Unit {0}) Failure → Conclusion
conclusion t said counted printed = record {
  totals = t;
  text = option_map text_of_bytes (last_text t said counted);
  ended = ended counted printed;
  told = option_map text_of_bytes (told_text (ended counted printed));
}

abbrev pub Concludes : Totals → List ℕ → Result (Unit {0}) Failure → Conclusion → Type 0
Concludes t said counted r = (printed : Result (Unit {0}) Failure) × Prints r.text printed × (r ≡ conclusion t said counted printed)
