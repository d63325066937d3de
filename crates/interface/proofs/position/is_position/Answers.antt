-- `all` asks of each word whether it is within its bound.
use Rattle.std.proofs.Common.{rules, tests}
use Rattle.std.proofs.lemmas.Iterator.{YieldsList-from_slice, YieldsList-from_zip}
use Rattle.std.proofs.lemmas.Iterator.Search.{all_from_yields_List}
use mathlib.Core.Path.{◌∙◌}
use Prim.Native.Nat.{ℕ}
use lib.Dec.{leb}
use borrow.Author.Tests.{lt-leb}
use Rattle.interface.specs.Position.{most}
use Rattle.interface.proofs.PositionWords.{within_short, within_zip}
use Rattle.interface.proofs.position.is_position.Goals as goal

pub returns-then-words-ge12 : goal.returns-then-words-ge12
returns-then-words-ge12 c =
    let ws = c.args.words.now in
    all_from_yields_List {s = c.zip.result} (λ (p : ℕ × ℕ). leb p.0 p.1) c.all.new.self _ _ c.all.ensures.ran
    (YieldsList-from_zip (YieldsList-from_slice ws cc) (YieldsList-from_slice most cc)) (λ x b q k. search (rules, tests))
    ∙ within_zip most ws c.if-words-ge12.true

pub returns-else-words-ge12 : goal.returns-else-words-ge12
returns-else-words-ge12 c =
    lt-leb 12 _ c.if-words-ge12.false ∙ within_short most c.args.words.now c.if-words-ge12.false
