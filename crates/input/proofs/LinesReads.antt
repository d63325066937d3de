-- When a line came, by how the input ended: a failed read tells what came of one, and an input that ends with nothing on its last line
-- gives none.
use mathlib.Core.Path.{◌≡◌, refl}
use mathlib.Core.Bool.{true, false, or-true}
use Prim.Native.Nat.{◌<◌}
use borrow.Author.Tests.{lt-ltb}
use Rattle.std.specs.Prelude.{Some, None, Ok, Err}
use Rattle.input.specs.declared.InputLine.{InputLine}
use Rattle.input.specs.Lines.{new_line, failed_at, line_read}

pub failed_no_line : (l : InputLine) → line_read true l ≡ Err (failed_at l)
failed_no_line l = refl

pub found_line_came : (l : InputLine) → l.ended ≡ true → line_read false l ≡ Ok (Some l)
found_line_came l e = rw e

pub some_line_came : (l : InputLine) → 0 < l.length → line_read false l ≡ Ok (Some l)
some_line_came l h = rw (lt-ltb 0 l.length h, or-true l.ended)

pub nothing_no_line : line_read false new_line ≡ Ok None
nothing_no_line = refl
