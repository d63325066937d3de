-- The library's reading of a word in two's complement is the definition's.
use mathlib.Core.Path.{◌∙◌}
use native.Mathlib.Omega.{arith}
use Rattle.base.proofs.Signed.{result}
use Rattle.table.proofs.EntriesWords.{signed_word}
use Rattle.table.proofs.from_word.Goals as goal

pub returns : goal.returns
returns c = result c.cast_signed.type_inv c.cast_signed.ensures ∙ signed_word c.args.w (omega arith)
