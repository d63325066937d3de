-- The candidates are the accepted ones of all that is tried, each once, whatever is tried before the list of moves.
use mathlib.Core.Path.{◌≡◌, sym, subst}
use mathlib.Core.Bool.{Bool, true, false, not, ◌||◌}
use mathlib.Core.List.{List, [], ◌∷◌, ◌++◌}
use mathlib.Core.Logic.{◌⊎◌, inl, inr}
use Prim.Native.Nat.{ℕ}
use lib.Dec.{T, eqb, eqb→eq, eqb_refl, T_not, not_T}
use Rattle.base.specs.Lists.{In, elem, unique}
use Rattle.base.proofs.Bool.{→and, →or_l, →or_r}
use Rattle.base.proofs.Branch.{if_ind}
use Rattle.base.proofs.Lists.{elem_in, in_r}
use Rattle.theory.specs.Game.{Game}
use Rattle.theory.specs.Memory.{Memory, hints}
use Rattle.theory.specs.OrderedSearch.{fresh, candidates}

module _ (ok : ℕ → Bool) where
  -- what is left passes the test, and was not seen
  pub fresh_in : (x : ℕ) (seen ms : List ℕ) → In x (fresh ok seen ms) → T (ok x) × T (not (elem x seen))
  unfolding fresh elem
  fresh_in x seen [] = λ h. absurd h
  fresh_in x seen (m ∷ ms) =
      if_ind (λ l. In x l → T (ok x) × T (not (elem x seen))) (elem m seen) _ _ (λ _ h. fresh_in x seen ms h)
      (λ u. if_ind (λ l. In x l → T (ok x) × T (not (elem x seen))) (ok m) _ _
      (λ t h. elim h [
        | inl e ↦ subst (λ (z : ℕ). T (ok z) × T (not (elem z seen))) (sym e) (t, u)
        | inr k ↦ later (fresh_in x (m ∷ seen) ms k)
      ])
      (λ _ h. later (fresh_in x (m ∷ seen) ms h)))
    where
      later : T (ok x) × T (not (eqb x m || elem x seen)) → T (ok x) × T (not (elem x seen))
      later h = (h.0, not_T (elem x seen) (λ u. T_not (eqb x m || elem x seen) h.1 (→or_r (eqb x m) _ u)))

  seen_next : (x m : ℕ) (seen : List ℕ) (c : Bool) → (T c → x ≡ m) → T (not (elem x seen)) →
      (x ≡ m) ⊎ T (not (c || elem x seen))
  seen_next x m seen true f n = inl (f tt)
  seen_next x m seen false f n = inr n

  -- and all that passes and was not seen is left
  pub fresh_all : (x : ℕ) (seen ms : List ℕ) → T (ok x) → T (not (elem x seen)) → In x ms → In x (fresh ok seen ms)
  unfolding fresh elem
  fresh_all x seen [] t n h = absurd h
  fresh_all x seen (m ∷ ms) t n h =
      if_ind (λ l. In x l) (elem m seen) _ _
      (λ u. elim h [
        | inl e ↦ absurd (T_not (elem m seen) (subst (λ (z : ℕ). T (not (elem z seen))) e n) u)
        | inr k ↦ fresh_all x seen ms t n k
      ])
      (λ _. if_ind (λ l. In x l) (ok m) _ _
      (λ _. elim next [ inl e ↦ inl e | inr n' ↦ elim h [ inl e ↦ inl e | inr k ↦ inr (fresh_all x (m ∷ seen) ms t n' k) ] ])
      (λ u. elim next [
        | inl e ↦ absurd (wrong u e)
        | inr n' ↦ elim h [
          | inl e ↦ absurd (wrong u e)
          | inr k ↦ fresh_all x (m ∷ seen) ms t n' k
        ]
      ]))
    where
      next : (x ≡ m) ⊎ T (not (eqb x m || elem x seen))
      next = seen_next x m seen (eqb x m) (eqb→eq x m) n

      wrong : T (not (ok m)) → x ≡ m → ⊥
      wrong u e = T_not (ok m) u (subst (λ (z : ℕ). T (ok z)) e t)

  -- each once
  pub fresh_unique : (seen ms : List ℕ) → T (unique (fresh ok seen ms))
  unfolding fresh unique elem
  fresh_unique seen [] = tt
  fresh_unique seen (m ∷ ms) =
      if_ind (λ l. T (unique l)) (elem m seen) _ _ (λ _. fresh_unique seen ms)
      (λ _. if_ind (λ l. T (unique l)) (ok m) _ _
      (λ _. →and (not (elem m rest)) _
      (not_T (elem m rest) (λ u. T_not (eqb m m || elem m seen) (fresh_in m (m ∷ seen) ms (elem_in m rest u)).1
      (→or_l (eqb m m) _ (eqb_refl m)))) (fresh_unique (m ∷ seen) ms))
      (λ _. fresh_unique (m ∷ seen) ms))
    where
      rest : List ℕ
      rest = fresh ok (m ∷ seen) ms

module _ (G : Game) (first : List ℕ) (s : Memory) (p : G.Pos) (prev : ℕ) (pv : List ℕ) where
  -- each candidate is accepted
  pub candidates_accepted : (m : ℕ) → In m (candidates G first s p prev pv) → T (G.accepts p m)
  unfolding candidates
  candidates_accepted m i = (fresh_in (G.accepts p) m [] (first ++ (hints (G.turn p) s prev pv ++ G.moves p)) i).0

  -- each accepted move of the list is a candidate
  pub candidates_all : (m : ℕ) → T (G.accepts p m) → In m (G.moves p) → In m (candidates G first s p prev pv)
  unfolding candidates elem
  candidates_all m t i =
      let hinted = hints (G.turn p) s prev pv in
      fresh_all (G.accepts p) m [] (first ++ (hinted ++ G.moves p)) t tt
      (in_r m first (hinted ++ G.moves p) (in_r m hinted (G.moves p) i))

  -- and none stands there twice
  pub candidates_once : T (unique (candidates G first s p prev pv))
  unfolding candidates
  candidates_once = fresh_unique (G.accepts p) [] (first ++ (hints (G.turn p) s prev pv ++ G.moves p))
