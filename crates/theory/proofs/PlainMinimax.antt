-- Plain minimax: its clauses, its range, and that a won or lost game stays so at every greater depth.
use mathlib.Core.Path.{◌≡◌, refl, sym, ◌∙◌, subst}
use mathlib.Core.Bool.{not}
use mathlib.Core.Logic.{inl, inr}
use Prim.Native.Nat.{ℕ, zero, suc, ◌+◌}
use native.Mathlib.Omega.{arith}
use lib.Dec.{T, T_not}
use lib.IntN.{ℤ}
use lib.Signed.{◌≤ℤ◌, ◌<ℤ◌}
use Rattle.base.specs.Lists.{In}
use Rattle.base.proofs.Bool.{is}
use Rattle.base.proofs.Branch.{if_ind}
use Rattle.base.proofs.Integers.{hi, lo, zarith, ng}
use Rattle.rules.specs.Evaluation.{won, lost}
use Rattle.theory.specs.Game.{Game}
use Rattle.theory.specs.PlainMinimax.{best, plain, promises}
use Rattle.theory.proofs.PlainMinimaxBest.{best_upper, best_least, best_attained}

-- what is asked of the positions met: each unfinished one has a move, lists those that are accepted, and has a value strictly between lost
-- and won
pub record Lawful (G : Game) : Type 1 where
  pub Good : G.Pos → Type 0
  pub good_play : (p : G.Pos) → Good p → T (not (G.over p)) → (m : ℕ) → In m (G.moves p) → Good (G.play p m)
  pub listed : (p : G.Pos) → Good p → T (not (G.over p)) → (m : ℕ) → (In m (G.moves p) → T (G.accepts p m)) ×
      (T (G.accepts p m) → In m (G.moves p))
  pub some_move : (p : G.Pos) → Good p → T (not (G.over p)) → (m : ℕ) × In m (G.moves p)
  pub inside : (p : G.Pos) → Good p → T (not (G.over p)) → (lost <ℤ G.value p) × (G.value p <ℤ won)
  pub within : (p : G.Pos) → Good p → T (G.over p) → (lost ≤ℤ G.value p) × (G.value p ≤ℤ won)

module _ (G : Game) where
  -- at game over the evaluation, to every depth
  pub plain_over : (d : ℕ) (p : G.Pos) → T (G.over p) → plain G d p ≡ G.value p
  unfolding plain
  plain_over zero p t = refl
  plain_over (suc d) p t = if_ind (λ z. z ≡ G.value p) (G.over p) _ _ (λ _. refl) (λ u. absurd (T_not (G.over p) u t))

  -- else the best of what the listed moves promise
  pub plain_moves : (d : ℕ) (p : G.Pos) → T (not (G.over p)) → plain G (suc d) p ≡ best (promises G d p) (G.moves p)
  unfolding plain
  plain_moves d p t =
      if_ind (λ z. z ≡ best (promises G d p) (G.moves p)) (G.over p) _ _ (λ u. absurd (T_not (G.over p) t u)) (λ _. refl)

module _ (G : Game) (L : Lawful G) where
  value_range : (p : G.Pos) → L.Good p → (lost ≤ℤ G.value p) × (G.value p ≤ℤ won)
  value_range p g = elim (is (G.over p)) [ inl t ↦ L.within p g t | inr t ↦ omega (zarith, L.inside p g t) ]

  -- the value lies between lost and won
  pub plain_range : (d : ℕ) (p : G.Pos) → L.Good p → (lost ≤ℤ plain G d p) × (plain G d p ≤ℤ won)
  unfolding plain hi lo
  plain_range zero p g = value_range p g
  plain_range (suc d) p g = if_ind (λ z. (lost ≤ℤ z) × (z ≤ℤ won)) (G.over p) _ _
      (λ _. value_range p g)
      (λ t. let m = L.some_move p g t in
      let h = plain_range d (G.play p m.0) (L.good_play p g t m.0 m.1) in
      let k = best_upper (promises G d p) m.0 (G.moves p) m.1 in (
        omega (zarith, h.1, k, ng (plain G d (G.play p m.0))),
        best_least (promises G d p) (G.moves p) won (omega zarith)
            (λ x i. omega (zarith, ng (plain G d (G.play p x)), (plain_range d (G.play p x) (L.good_play p g t x i)).0)),
      ))

  -- ---- wins and losses, a ply at a time
  module _ (d : ℕ) (p : G.Pos) (g : L.Good p) (t : T (not (G.over p))) where
    -- a move to a lost position wins
    pub one_wins : (m : ℕ) → In m (G.moves p) → plain G d (G.play p m) ≡ lost → plain G (suc d) p ≡ won
    unfolding hi lo
    one_wins m i e =
        omega (
          zarith,
          plain_moves G d p t,
          best_upper (promises G d p) m (G.moves p) i,
          ng (plain G d (G.play p m)),
          (plain_range (suc d) p g).1,
        )

    -- where every move leads to a won position, it is lost
    pub all_lose : ((m : ℕ) → In m (G.moves p) → plain G d (G.play p m) ≡ won) → plain G (suc d) p ≡ lost
    unfolding hi lo
    all_lose h =
        omega (
          zarith,
          plain_moves G d p t,
          best_least (promises G d p) (G.moves p) lost (omega zarith)
              (λ m i. omega (zarith, h m i, ng (plain G d (G.play p m)))),
          (plain_range (suc d) p g).0,
        )

    -- and back
    pub won_by_one : plain G (suc d) p ≡ won → (m : ℕ) × In m (G.moves p) × (plain G d (G.play p m) ≡ lost)
    unfolding hi lo
    won_by_one e = elim (best_attained (promises G d p) (G.moves p)) [
      | inl f ↦ absurd (omega (zarith, f, plain_moves G d p t))
      | inr w ↦ (w.0, w.1, omega (zarith, w.2, plain_moves G d p t, ng (plain G d (G.play p w.0))))
    ]

    pub lost_by_all : plain G (suc d) p ≡ lost → (m : ℕ) → In m (G.moves p) → plain G d (G.play p m) ≡ won
    unfolding hi lo
    lost_by_all e m i =
        omega (
          zarith,
          plain_moves G d p t,
          best_upper (promises G d p) m (G.moves p) i,
          ng (plain G d (G.play p m)),
          (plain_range d (G.play p m) (L.good_play p g t m i)).1,
        )

  -- ---- won or lost stays so
  abbrev Stays : ℕ → G.Pos → Type 0
  Stays d p = (plain G d p ≡ won → plain G (suc d) p ≡ won) × (plain G d p ≡ lost → plain G (suc d) p ≡ lost)

  stays_over : (d : ℕ) (p : G.Pos) → T (G.over p) → Stays d p
  stays_over d p t = (λ e. same ∙ e, λ e. same ∙ e)
    where
      same : plain G (suc d) p ≡ plain G d p
      same = plain_over G (suc d) p t ∙ sym (plain_over G d p t)

  stays_open : (d : ℕ) (p : G.Pos) → L.Good p → T (not (G.over p)) →
      ((m : ℕ) → In m (G.moves p) → Stays d (G.play p m)) → Stays (suc d) p
  stays_open d p g t below = (
    λ e. let w = won_by_one d p g t e in one_wins (suc d) p g t w.0 w.1 ((below w.0 w.1).1 w.2),
    λ e. all_lose (suc d) p g t (λ m i. (below m i).0 (lost_by_all d p g t e m i)),
  )

  -- an unfinished position is neither yet
  stays_zero : (p : G.Pos) → L.Good p → T (not (G.over p)) → Stays zero p
  unfolding plain hi lo
  stays_zero p g t = (λ e. absurd (omega (zarith, e, L.inside p g t)), λ e. absurd (omega (zarith, e, L.inside p g t)))

  stays : (d : ℕ) (p : G.Pos) → L.Good p → Stays d p
  stays zero p g = elim (is (G.over p)) [ inl t ↦ stays_over zero p t | inr t ↦ stays_zero p g t ]
  stays (suc d) p g =
      elim (is (G.over p)) [
        | inl t ↦ stays_over (suc d) p t
        | inr t ↦ stays_open d p g t
            (λ m i. stays d (G.play p m) (L.good_play p g t m i))
      ]

  stays_to : (v : ℤ) (p : G.Pos) → ((d : ℕ) → plain G d p ≡ v → plain G (suc d) p ≡ v) → (k d e : ℕ) → e ≡ k + d →
      plain G d p ≡ v → plain G e p ≡ v
  stays_to v p f zero d e q h = subst (λ (n : ℕ). plain G n p ≡ v) (omega arith) h
  stays_to v p f (suc k) d e q h = stays_to v p f k (suc d) e (omega arith) (f d h)

  -- won to a depth is won to every greater one
  pub stays_won_to : (k d e : ℕ) (p : G.Pos) → L.Good p → e ≡ k + d → plain G d p ≡ won → plain G e p ≡ won
  stays_won_to k d e p g = stays_to won p (λ d. (stays d p g).0) k d e

  -- and so is lost
  pub stays_lost_to : (k d e : ℕ) (p : G.Pos) → L.Good p → e ≡ k + d → plain G d p ≡ lost → plain G e p ≡ lost
  stays_lost_to k d e p g = stays_to lost p (λ d. (stays d p g).1) k d e

  -- no position is won to one depth and lost to another
  pub not_both : (d e : ℕ) (p : G.Pos) → L.Good p → plain G d p ≡ won → plain G e p ≡ lost → ⊥
  unfolding hi lo
  not_both d e p g h k = omega (zarith, stays_won_to e d (e + d) p g (omega arith) h, stays_lost_to d e (e + d) p g (omega arith) k)
