-- A variation whose every move attains the score: played out, it is accepted and ends on that score.
use mathlib.Core.Path.{◌≡◌, refl, sym, ap, ◌∙◌}
use mathlib.Core.Bool.{Bool, true, false, not, cond}
use mathlib.Core.List.{List, [], ◌∷◌}
use mathlib.Core.Logic.{inl, inr}
use Prim.Native.Nat.{ℕ, zero, suc}
use lib.Dec.{T}
use lib.IntN.{ℤ, neg_ℤ, neg_ℤ-neg_ℤ}
use Rattle.base.specs.Lists.{In}
use Rattle.base.proofs.Bool.{→and, is}
use Rattle.base.proofs.Branch.{if_ind}
use Rattle.theory.specs.Game.{Game}
use Rattle.theory.specs.PlainMinimax.{promises}
use Rattle.theory.specs.Variation.{Playout, play_out, ends_on}
use Rattle.theory.proofs.PlainMinimax.{Lawful}

module _ (G : Game) where
  -- the variation begins with a listed move that attains r, and goes on as `next` says
  abbrev pub Led : (G.Pos → List ℕ → ℤ → Type 0) → ℕ → G.Pos → List ℕ → ℤ → Type 0
  Led next d p [] r = ⊥
  Led next d p (m ∷ pv) r = In m (G.moves p) × (promises G d p m ≡ r) × next (G.play p m) pv (neg_ℤ r)

  -- played to its depth or to the game's end, each move of it is listed and attains r, and it ends on r
  abbrev pub Leads : ℕ → G.Pos → List ℕ → ℤ → Type 0
  Leads zero p pv r = r ≡ G.value p
  Leads (suc d) p pv r = (T (G.over p) → r ≡ G.value p) × (T (not (G.over p)) → Led (Leads d) d p pv r)

module _ (G : Game) (L : Lawful G) where
  neg_cond : (b : Bool) (v : ℤ) → neg_ℤ (cond b (neg_ℤ v) v) ≡ cond (not b) (neg_ℤ v) v
  neg_cond true v = neg_ℤ-neg_ℤ v
  neg_cond false v = refl

  -- such a variation is accepted, and ends on its score
  pub line_ends : (d : ℕ) (p : G.Pos) → L.Good p → (pv : List ℕ) (r : ℤ) → Leads G d p pv r →
      T (play_out G d p pv).accepted × (r ≡ ends_on G d p pv)
  unfolding play_out ends_on
  line_ends zero p g pv r h = (tt, h)
  line_ends (suc d) p g [] r h = elim (is (G.over p)) [ inl t ↦ (t, h.0 t) | inr t ↦ absurd (h.1 t) ]
  line_ends (suc d) p g (m ∷ pv) r h =
      if_ind (λ (w : Playout G.Pos). T w.accepted × (r ≡ cond w.odd (neg_ℤ (G.value w.end)) (G.value w.end)))
      (G.over p) _ _
      (λ t. (tt, h.0 t))
      (λ t. let below = line_ends d (G.play p m) (L.good_play p g t m (h.1 t).0) pv (neg_ℤ r) (h.1 t).2 in (
        →and (G.accepts p m) (play_out G d (G.play p m) pv).accepted ((L.listed p g t m).0 (h.1 t).0) below.0,
        (sym (neg_ℤ-neg_ℤ r) ∙ ap neg_ℤ below.1) ∙ neg_cond (play_out G d (G.play p m) pv).odd
            (G.value (play_out G d (G.play p m) pv).end),
      ))
