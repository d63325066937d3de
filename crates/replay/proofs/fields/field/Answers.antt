-- The field that is left to find in the rest of the line is the field of the line.
use mathlib.Core.Path.{◌≡◌, sym, ap, ◌∙◌}
use native.Mathlib.Omega.{arith}
use Prim.Native.Nat.{ℕ, suc, ◌-◌, ◌+◌}
use Rattle.replay.specs.Fields.{field}
use Rattle.replay.proofs.FieldsParted.{field_next, field_zero}
use Rattle.replay.proofs.fields.field.Goals as goal

pub loop-preserved : goal.loop-preserved
loop-preserved c =
    let l = c.loop in
    let e : c.args.k - l.counter ≡ suc (c.args.k - (l.counter + 1)) = omega arith in
    rw c.past_tab-rest.ensures (sym (field_next _ l.rest.now) ∙ ap (λ (n : ℕ). field n l.rest.now) (sym e) ∙ l.invariant)

pub returns : goal.returns
returns c =
    let l = c.loop in
    let z : c.args.k - l.counter ≡ 0 = omega arith in
    c.until_tab.ensures ∙ sym (field_zero l.rest.now) ∙ ap (λ (n : ℕ). field n l.rest.now) (sym z) ∙ l.invariant
