-- What is found of a line, by what its fields are read as.
use Rattle.std.specs.Prelude.{None, Some, Result, Ok, Err}
use mathlib.Core.Path.{◌≡◌, refl, sym, ap, ◌∙◌}
use mathlib.Core.Bool.{true, false}
use mathlib.Core.List.{List}
use Prim.Native.Nat.{ℕ}
use lib.Dec.{eqb}
use Rattle.base.specs.Branch.{when◌then◌else◌}
use Rattle.text.specs.Reading.{Reading, reads, refuses, read}
use Rattle.decimals.specs.Lists.{list_of}
use Rattle.game.specs.declared.Game.{Game}
use Rattle.game.specs.Meaning.{position_of}
use Rattle.notation.specs.declared.ParseError.{ParseError}
use Rattle.notation.specs.Parsed.{reading_of, Parses}
use Rattle.replay.specs.declared.totals.Comparison.TheVariants.{Differs}
use Rattle.replay.specs.Fields.{field, tabs}
use Rattle.replay_endgame.specs.Records.{comparison_of, comparison_for, outcome_of}

-- ---- a list of numbers beside what its text is read as
module _ (text ns : List ℕ) (r : Result Game ParseError) (parses : Parses text r) where
  -- no position: it differs
  pub refused_differs : {e : ParseError} → r ≡ Err e → Differs ≡ comparison_for (read text) (Some ns)
  refused_differs q = rw (sym parses.says ∙ ap reading_of q)

  -- a position: what is found of its numbers
  pub position_found : {g : Game} → r ≡ Ok g → comparison_of (position_of g) ns ≡ comparison_for (read text) (Some ns)
  position_found q = rw (sym parses.says ∙ ap reading_of q)

-- ---- a line
none_differs : (r : Reading) → comparison_for r None ≡ Differs
none_differs (refuses n offset size) = refl
none_differs (reads p) = refl

module _ (line : List ℕ) where
  pub not_two_differ : eqb (tabs line) 1 ≡ false → Differs ≡ outcome_of line
  unfolding outcome_of when◌then◌else◌
  not_two_differ t = rw t

  pub no_numbers_differ : eqb (tabs line) 1 ≡ true → list_of 256 (field 1 line) ≡ None → Differs ≡ outcome_of line
  unfolding outcome_of when◌then◌else◌
  no_numbers_differ t e = rw (t, e) (sym (none_differs (read (field 0 line))))

  pub two_found : (text ns : List ℕ) → text ≡ field 0 line → eqb (tabs line) 1 ≡ true →
      list_of 256 (field 1 line) ≡ Some ns →
      comparison_for (read text) (Some ns) ≡ outcome_of line
  unfolding outcome_of when◌then◌else◌
  two_found text ns q t e = rw (t, e, q)
