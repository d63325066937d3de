-- The bytes are those of the text, in order.
use mathlib.Core.Path.{◌≡◌, sym, ◌∙◌}
use lib.Seq.{ext_get_or}
use Rattle.text.specs.Writing.{text_of, byte_at}
use Rattle.text.proofs.Writing.{text_at, text_has_101_bytes}
use Rattle.game.specs.Meaning.{position_of}
use Rattle.base.proofs.Arrays.{from_fn_each}
use borrow.Author.Rules.{rules}
use native.Mathlib.Omega.{arith}
use Rattle.notation.proofs.render.Goals as goal

pub returns : goal.returns
returns c =
    let p = position_of c.args.g in
    let r = c.from_fn.ensures.items in
    ext_get_or 0 c.from_fn.result (text_of p) (r.long ∙ sym (text_has_101_bytes p))
    (λ k h. from_fn_each _ _ (λ i y. y ≡ byte_at p i) (λ i y q e. search rules) 0 c.from_fn.result 0 101 r.each k (omega arith)
    (omega (arith, r.long))
    ∙ sym (text_at p k (omega (arith, r.long))))
