-- Each way out is a case of a byte.
use Rattle.std.specs.Prelude.{Err}
use mathlib.Core.Path.{◌≡◌}
use lib.ListN.{get_or}
use Rattle.text.proofs.ReadingScan.{slash_stands, slash_lacks, cell_lacks}
use Rattle.notation.specs.declared.ErrorKind.TheVariants.{TooShort}
use Rattle.notation.proofs.PartsCells.{slash_said, mark_said}
use borrow.Author.Rules.{rules}
use Rattle.notation.proofs.parse_cell.Goals as goal

pub returns-in-Some-eq47 : goal.returns-in-Some-eq47
returns-in-Some-eq47 c =
    let e : get_or c.args.cells.now c.args.i 0 ≡ 47 = search rules in
    (slash_stands _ _ c.if-i-eq9.true (search rules) e, slash_said _ e)

pub returns-in_default : goal.returns-in_default
returns-in_default c = slash_lacks _ _ c.if-i-eq9.true (λ h e. search rules)

pub returns-in_default-2 : goal.returns-in_default-2
returns-in_default-2 c = slash_lacks _ _ c.if-i-eq9.true (λ h. search rules)

pub returns-in_err-byte : goal.returns-in_err-byte
returns-in_err-byte c =
    let e : c.from_residual.result ≡ Err TooShort = search rules in rw e (cell_lacks _ _ c.if-i-eq9.false (search rules))

pub returns : goal.returns
returns c = mark_said _ _ c.if-i-eq9.false (search rules) _ (search rules)
