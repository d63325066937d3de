-- An array from a function of the place: what holds of each answer of the function holds at each place.
use Rattle.std.specs.Fn.{Called}
use Rattle.std.specs.Array.{IsFromFnResultFrom}
use mathlib.Core.Path.{◌≡◌, sym, subst}
use mathlib.Core.List.{List}
use Prim.Native.Nat.{ℕ, zero, suc, ◌+◌, ◌≤◌, ◌<◌}
use native.Mathlib.Omega.{arith}
use native.Mathlib.Decide.{ℕ_discrete}
use lib.ListN.{get_or}
use denote.Param.Members.{Mut}

module _ {F B : Type 0} (g : Mut F (ℕ × Unit {0}) B) (f : F) (P : ℕ → B → Type 0)
    (computes : (i : ℕ) (y : B) (q : F) → Called g f (i, tt) y q → P i y × (q ≡ f)) where
  pub from_fn_each : (d : B) (ys : List B) (i n : ℕ) → IsFromFnResultFrom g f ys i n → (k : ℕ) → i ≤ k → k < i + n →
      P k (get_or ys k d)
  from_fn_each d ys i zero r k l m = absurd (omega arith)
  from_fn_each d ys i (suc n) r k l m =
      let c = computes i r.1 r.0 r.3 in
      elim (ℕ_discrete k i) [
        | yes e ↦ rw e (subst (P i) (sym (r.2.1 d)) c.0)
        | no e ↦ from_fn_each d ys (i + 1) n (subst (λ (q : F). IsFromFnResultFrom g q ys (i + 1) n) c.1 r.4) k (omega arith)
            (omega arith)
      ]
