-- Each place has its board's value.
use mathlib.Core.Path.{◌≡◌, sym, ap, ◌∙◌}
use mathlib.Core.List.{List}
use native.Mathlib.Omega.{arith}
use borrow.Author.Rules.{rules}
use lib.IntN.{ℤ, pos}
use lib.Seq.{ext_get_or}
use Rattle.base.proofs.Arrays.{from_fn_each}
use Rattle.game.specs.Meaning.{position_of}
use Rattle.evaluation.specs.Values.{board_value, values_of}
use Rattle.evaluation.proofs.ValuesBoards.{nine_values}
use Rattle.evaluation.proofs.Values.new.Goals as goal

pub returns : goal.returns
unfolding values_of
returns c =
    let w = c.args.weights in
    let p = position_of c.args.g in
    let r = c.from_fn.ensures.items in
    ap (λ (l : List ℤ). record { boards = l; weights = w })
    (ext_get_or (pos 0) c.from_fn.result (values_of w p) r.long
    (λ k h. from_fn_each _ _ (λ i y. y ≡ board_value w p i) (λ i y q e. search rules) (pos 0) c.from_fn.result 0 9 r.each k (omega arith)
    (omega (arith, r.long)) ∙ sym (nine_values w p k (omega (arith, r.long)))))
