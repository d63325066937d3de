-- Where a read or a write failed: it is told, and there is no verdict.
use mathlib.Core.Path.{◌≡◌, refl}
use mathlib.Core.List.{List}
use Prim.Native.Nat.{ℕ}
use lib.ListN.{take}
use Rattle.std.specs.Prelude.{None, Result, Ok, Err}
use Rattle.text.specs.Bytes.{quoted}
use Rattle.replay.specs.declared.totals.Totals.{Totals}
use Rattle.replay.specs.declared.totals.Failure.{Failure}
use Rattle.replay.specs.declared.totals.Failure.TheVariants.{Reading, Writing}
use Rattle.replay.specs.Totals.{last_text, failure_text, told_text}

-- nothing is told only where all was read and written
pub told_nothing : (r : Result (Unit {0}) Failure) → told_text r ≡ None → r ≡ Ok tt
told_nothing (Ok _) e = refl
told_nothing (Err why) e = cc

-- what is told begins with what failed
pub told_of_reading : take 14 (failure_text Reading) ≡ quoted "reading failed"
unfolding quoted
told_of_reading = refl

pub told_of_writing : take 14 (failure_text Writing) ≡ quoted "writing failed"
unfolding quoted
told_of_writing = refl

module _ (t : Totals) (said : List ℕ) where
  pub no_verdict_unread : last_text t said (Err Reading) ≡ None
  no_verdict_unread = refl

  pub no_verdict_unwritten : last_text t said (Err Writing) ≡ None
  no_verdict_unwritten = refl
