-- The sections of a text, as `split` gives them one by one.
use Rattle.std.specs.Prelude.{Option, Some, None, option_copied}
use Rattle.std.specs.Slice.Iter.{split_rest, split_done, split_callee, split_steps}
use Rattle.std.specs.Fn.{Called, ComputesKey}
use Rattle.std.specs.List.{slice_split, onto_first, IsFirstMatchOrLen, All}
use Rattle.std.specs.Bool.{MatchBool}
use Rattle.std.specs.Option.{is_some}
use Rattle.std.proofs.lemmas.List.Splits.{slice_split_none, slice_split_at}
use Rattle.std.proofs.lemmas.Fn.{always_returns_same}
use Rattle.std.proofs.lemmas.Grind.{common_steps}
use mathlib.Core.Path.{◌≡◌, refl, sym, ap, ◌∙◌, subst}
use mathlib.Core.Bool.{Bool, true, false, cond}
use mathlib.Core.List.{List, [], ◌∷◌, ◌++◌}
use Prim.Native.Nat.{ℕ}
use native.Mathlib.Omega.{arith}
use lib.Dec.{eqb}
use lib.ListN.{length, get_or}
use denote.Param.Members.{Mut}
use denote.Ref.{Bor}
use Rattle.base.specs.Branch.{when◌then◌else◌}
use Rattle.text.specs.Bytes.{semicolon}
use Rattle.text.specs.Reading.{sections, first_longer}

abbrev parts : ℕ → Bool
parts c = eqb c semicolon

-- what `split` gives are the sections
split_is_sections : (t : List ℕ) → slice_split parts t ≡ sections t
unfolding sections when◌then◌else◌
split_is_sections [] = refl
split_is_sections (c ∷ cs) = go (eqb c semicolon) (split_is_sections cs)
  where
    longer : (ss : List (List ℕ)) → onto_first c ss ≡ first_longer c ss
    longer [] = refl
    longer (s ∷ ss) = refl

    go : {xs ys : List (List ℕ)} → (b : Bool) → xs ≡ ys →
        cond b ([] ∷ xs) (onto_first c xs) ≡ (when b then (λ _. [] ∷ ys) else λ _. first_longer c ys)
    go true e = ap (λ (x : List (List ℕ)). [] ∷ x) e
    go {ys = ys} false e = ap (onto_first c) e ∙ longer ys

-- the first section of what is left, and the rest
first_part : (xs x rest : List ℕ) (done : Bool) → MatchBool done (xs ≡ x) ((y : ℕ) × (xs ≡ x ++ (y ∷ rest))) →
    IsFirstMatchOrLen parts xs (length x) → slice_split parts xs ≡ x ∷ cond done [] (slice_split parts rest)
first_part xs x rest true e h =
    ap (slice_split parts) e
    ∙ slice_split_none parts x (λ k d l. subst (λ (ys : List ℕ). parts (get_or ys k d) ≡ false) e (h.0 k d (omega arith) l))
first_part xs x rest false e h =
    let front : All (λ z. parts z ≡ false) x = λ k d l. let a = h.0 k d (omega arith) l in let b = e.1 in grind (arith, common_steps) in
    let hit : parts e.0 ≡ true = let b = e.1 in let a = h.1 (grind (arith, common_steps)) e.0 in grind (arith, common_steps) in
    ap (slice_split parts) e.1 ∙ slice_split_at parts x e.0 rest front hit

abbrev pub first : List (List ℕ) → Option (List ℕ)
first [] = None
first (s ∷ ss) = Some s

abbrev pub others : List (List ℕ) → List (List ℕ)
others [] = []
others (s ∷ ss) = ss

module _ {F : Type 0} (g : Mut F (Bor ℕ × Unit {0}) Bool) where
  abbrev to_come : Bool → List ℕ → List (List ℕ)
  to_come done rest = cond done [] (slice_split parts rest)

  -- ss are the sections that are still to come
  pub record Ahead (callee : F) (done : Bool) (rest : List ℕ) (ss : List (List ℕ)) : Type 0 where
    pub computes : ComputesKey g parts callee
    pub are : to_come done rest ≡ ss

  pub all_ahead : {callee : F} {done : Bool} {rest : List ℕ} (t : List ℕ) →
      ((a : Bor ℕ × Unit {0}) (r : Bool) (f : F) → Called g callee a r f → (r ≡ parts a.0.now) × (f ≡ callee)) →
      done ≡ false → rest ≡ t → Ahead callee done rest (sections t)
  all_ahead {callee = callee} t h d e = record {
    computes = always_returns_same g (λ a r. r ≡ parts a.0.now) callee h;
    are = (λ i. to_come (d i) (e i)) ∙ split_is_sections t;
  }

  -- `next` takes the first, if there is one
  pub next_ahead : (s t : _) (r : Option (Bor (List ℕ))) {ss : List (List ℕ)} → Ahead (split_callee s) (split_done s) (split_rest s) ss →
      split_steps g s r t → (option_copied r ≡ first ss) × Ahead (split_callee t) (split_done t) (split_rest t) (others ss)
  next_ahead s t None {ss} a k = let e = sym a.are ∙ ap (λ (b : Bool). to_come b (split_rest s)) k.0 in (
    ap first (sym e),
    record {
      computes = subst (λ x. ComputesKey g parts (split_callee x)) (sym k.1) a.computes;
      are = ap (λ x. to_come (split_done x) (split_rest x)) k.1 ∙ a.are ∙ e ∙ ap others (sym e);
    },
  )
  next_ahead s t (Some x) {ss} a k =
      let c = k.2 parts a.computes in
      let e = sym a.are ∙ ap (λ (b : Bool). to_come b (split_rest s)) k.0
      ∙ first_part (split_rest s) x.now (split_rest t) (split_done t) k.1 c.1 in (
        ap first (sym e),
        record { computes = c.0; are = ap others (sym e) },
      )

-- ---- three are there if three come and no fourth, and only then
module _ (r₀ r₁ r₂ r₃ : Option (Bor (List ℕ))) where
  pub record FirstFour (ss : List (List ℕ)) : Type 0 where
    pub zeroth : option_copied r₀ ≡ first ss
    pub next : option_copied r₁ ≡ first (others ss)
    pub second : option_copied r₂ ≡ first (others (others ss))
    pub third : option_copied r₃ ≡ first (others (others (others ss)))

  pub three_come : (ss : List (List ℕ)) → FirstFour ss → length ss ≡ 3 →
      (is_some r₀ ≡ true) × (is_some r₁ ≡ true) × (is_some r₂ ≡ true) × (is_some r₃ ≡ false)
  three_come [] f n = absurd (omega arith)
  three_come (x ∷ []) f n = absurd (omega arith)
  three_come (x ∷ y ∷ []) f n = absurd (omega arith)
  three_come (x ∷ y ∷ z ∷ []) f n = (is_there r₀ x f.zeroth, is_there r₁ y f.next, is_there r₂ z f.second, is_none r₃ f.third)
    where
      is_there : (r : Option (Bor (List ℕ))) (x : List ℕ) → option_copied r ≡ Some x → is_some r ≡ true
      is_there None x e = cc
      is_there (Some y) x e = refl

      is_none : (r : Option (Bor (List ℕ))) → option_copied r ≡ None → is_some r ≡ false
      is_none None e = refl
      is_none (Some y) e = cc
  three_come (x ∷ y ∷ z ∷ w ∷ ws) f n = absurd (omega arith)

  pub are_three : (a b c : Bor (List ℕ)) (ss : List (List ℕ)) → FirstFour ss → r₀ ≡ Some a → r₁ ≡ Some b → r₂ ≡ Some c → r₃ ≡ None →
      ss ≡ a.now ∷ b.now ∷ c.now ∷ []
  are_three a b c [] f p q r s = let e = f.zeroth in cc
  are_three a b c (x ∷ []) f p q r s = let e = f.next in cc
  are_three a b c (x ∷ y ∷ []) f p q r s = let e = f.second in cc
  are_three a b c (x ∷ y ∷ z ∷ []) f p q r s =
      let e : Some a.now ≡ Some x = ap option_copied (sym p) ∙ f.zeroth in
      let g : Some b.now ≡ Some y = ap option_copied (sym q) ∙ f.next in
      let h : Some c.now ≡ Some z = ap option_copied (sym r) ∙ f.second in cc
  are_three a b c (x ∷ y ∷ z ∷ w ∷ ws) f p q r s = let e : None ≡ Some w = ap option_copied (sym s) ∙ f.third in cc
