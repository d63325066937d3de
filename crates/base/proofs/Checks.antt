-- Laws of a list of checks: its number is 0 where all pass, else that of the first that fails.
use mathlib.Core.Path.{◌≡◌, refl, sym, ap, subst}
use mathlib.Core.Bool.{Bool, true, false, not, ◌&&◌}
use mathlib.Core.List.{List, [], ◌∷◌, ◌++◌}
use mathlib.Core.Logic.{inl, inr}
use Prim.Native.Nat.{ℕ, ◌<◌}
use native.Mathlib.Omega.{arith}
use lib.Dec.{T, ltb, ltb→lt, lt→ltb, not_T}
use Rattle.base.specs.Branch.{when◌then◌else◌}
use Rattle.base.specs.Lists.{all, In}
use Rattle.base.specs.Checks.{all_pass, first_failed}
use Rattle.base.proofs.Bool.{and→, is}
use Rattle.base.proofs.Lists.{each_all}

abbrev Checks : Type 0
Checks = List (Bool × ℕ)

-- ---- the number is 0 exactly if all pass, where no check has the number 0
pub all_pass_0 : (cs : Checks) → T (all_pass cs) → first_failed cs ≡ 0
unfolding all_pass all first_failed when◌then◌else◌
all_pass_0 [] t = refl
all_pass_0 ((true, n) ∷ cs) t = all_pass_0 cs t
all_pass_0 ((false, n) ∷ cs) t = absurd t

-- a number is said of a list that has a check that fails
pub some_failed : (cs : Checks) → (first_failed cs ≡ 0 → ⊥) → T (not (all_pass cs))
some_failed cs h = not_T (all_pass cs) (λ t. h (all_pass_0 cs t))

-- what holds of each check's number holds of that of the first that fails
pub failed_number : (f : ℕ → Bool) (cs : Checks) → T (all (λ (t : Bool × ℕ). f t.1) cs) → T (not (all_pass cs)) →
    T (f (first_failed cs))
unfolding all_pass all first_failed when◌then◌else◌
failed_number f [] a t = absurd t
failed_number f ((true, n) ∷ cs) a t = failed_number f cs (and→ (f n) _ a).1 t
failed_number f ((false, n) ∷ cs) a t = (and→ (f n) _ a).0

abbrev pub numbered : Checks → Bool
numbered cs = all (λ (t : Bool × ℕ). ltb 0 t.1) cs

pub failed_not_0 : (cs : Checks) → T (numbered cs) → T (not (all_pass cs)) → first_failed cs ≡ 0 → ⊥
failed_not_0 cs a t e = omega (arith, ltb→lt 0 (first_failed cs) (failed_number (ltb 0) cs a t))

pub 0_all_pass : (cs : Checks) → T (numbered cs) → first_failed cs ≡ 0 → T (all_pass cs)
0_all_pass cs a e = elim (is (all_pass cs)) [ inl t ↦ t | inr t ↦ absurd (failed_not_0 cs a t e) ]

-- ---- else it is that of the first that fails: all before it pass
pub failed_at : (before rest : Checks) (a : Bool) (n : ℕ) → T (all_pass before) → T (not a) →
    first_failed (before ++ ((a, n) ∷ rest)) ≡ n
unfolding all_pass all first_failed when◌then◌else◌
failed_at [] rest true n t u = absurd u
failed_at [] rest false n t u = refl
failed_at ((true, m) ∷ before) rest a n t u = failed_at before rest a n t u
failed_at ((false, m) ∷ before) rest a n t u = absurd t

pub record FirstFailed (cs : Checks) : Type 0 where
  pub before : Checks
  pub rest : Checks
  pub parts : cs ≡ before ++ ((false, first_failed cs) ∷ rest)
  pub passed : T (all_pass before)

pub first_failed_parts : (cs : Checks) → T (not (all_pass cs)) → FirstFailed cs
unfolding all_pass all first_failed when◌then◌else◌
first_failed_parts [] t = absurd t
first_failed_parts ((true, n) ∷ cs) t = let r = first_failed_parts cs t in record {
  before = (true, n) ∷ r.before;
  rest = r.rest;
  parts = ap (λ (l : Checks). (true, n) ∷ l) r.parts;
  passed = r.passed;
}
first_failed_parts ((false, n) ∷ cs) t = record { before = []; rest = cs; parts = refl; passed = tt }

-- ---- two lists, one after the other
pub passed_++ : (cs ds : Checks) → T (all_pass cs) → first_failed (cs ++ ds) ≡ first_failed ds
unfolding all_pass all first_failed when◌then◌else◌
passed_++ [] ds t = refl
passed_++ ((true, n) ∷ cs) ds t = passed_++ cs ds t
passed_++ ((false, n) ∷ cs) ds t = absurd t

pub failed_++ : (cs ds : Checks) → T (not (all_pass cs)) → first_failed (cs ++ ds) ≡ first_failed cs
unfolding all_pass all first_failed when◌then◌else◌
failed_++ [] ds t = absurd t
failed_++ ((true, n) ∷ cs) ds t = failed_++ cs ds t
failed_++ ((false, n) ∷ cs) ds t = refl

-- ---- two lists, the same row by row
abbrev pub Same : Checks → Checks → Type 0
Same [] [] = Unit {0}
Same [] (d ∷ ds) = ⊥
Same (c ∷ cs) [] = ⊥
Same (c ∷ cs) (d ∷ ds) = (c.0 ≡ d.0) × (c.1 ≡ d.1) × Same cs ds

pub same_checks : (cs ds : Checks) → Same cs ds → cs ≡ ds
same_checks [] [] s = refl
same_checks [] (d ∷ ds) s = absurd s
same_checks (c ∷ cs) [] s = absurd s
same_checks (c ∷ cs) (d ∷ ds) s = λ i. (s.0 i, s.1 i) ∷ same_checks cs ds s.2 i

-- ---- where each number is over the one before, and the first over n: the checks with a smaller number than the answer pass, its own fails
unfoldable pub rising : ℕ → Checks → Bool
rising n [] = true
rising n (c ∷ cs) = ltb n c.1 && rising c.1 cs

pub record InOrder (k : ℕ) (cs : Checks) : Type 0 where
  pub smaller_pass : (t : Bool × ℕ) → In t cs → t.1 < k → T t.0
  pub this_fails : (t : Bool × ℕ) → In t cs → t.1 ≡ k → T (not t.0)

rising_over : (n : ℕ) (cs : Checks) → T (rising n cs) → (t : Bool × ℕ) → In t cs → n < t.1
unfolding rising
rising_over n [] r t i = absurd i
rising_over n (c ∷ cs) r t (inl e) =
    let h = ltb→lt n c.1 (and→ (ltb n c.1) _ r).0 in omega (arith, h, ap (λ (u : Bool × ℕ). u.1) e)
rising_over n (c ∷ cs) r t (inr i) =
    let h = ltb→lt n c.1 (and→ (ltb n c.1) _ r).0 in
    let k = rising_over c.1 cs (and→ (ltb n c.1) _ r).1 t i in omega (arith, h, k)

pub first_in_order : (n : ℕ) (cs : Checks) → T (rising n cs) → T (not (all_pass cs)) → InOrder (first_failed cs) cs
unfolding rising all_pass all first_failed when◌then◌else◌
first_in_order n [] r t = absurd t
first_in_order n ((true, k) ∷ cs) r t =
    let later = (and→ (ltb n k) _ r).1 in
    let o = first_in_order k cs later t in
    let over = ltb→lt k _ (failed_number (ltb k) cs (each_all _ cs (λ u i. lt→ltb k _ (rising_over k cs later u i))) t) in
    record {
      smaller_pass = λ u i h. elim i [ inl e ↦ subst (λ (v : Bool × ℕ). T v.0) (sym e) tt | inr j ↦ o.smaller_pass u j h ];
      this_fails = λ u i h. elim i [ inl e ↦ absurd (omega (arith, ap (λ (v : Bool × ℕ). v.1) e)) | inr j ↦ o.this_fails u j h ];
    }
first_in_order n ((false, k) ∷ cs) r t =
    let over = rising_over k cs (and→ (ltb n k) _ r).1 in
    record {
      smaller_pass = λ u i h. elim i [
        | inl e ↦ absurd (omega (arith, ap (λ (v : Bool × ℕ). v.1) e))
        | inr j ↦ absurd (omega (arith, over u j))
      ];
      this_fails = λ u i h. elim i [
        | inl e ↦ subst (λ (v : Bool × ℕ). T (not v.0)) (sym e) tt
        | inr j ↦ absurd (omega (arith, over u j))
      ];
    }
