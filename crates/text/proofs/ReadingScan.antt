-- What a scan from left to right finds: sections by the places of the semicolons, bad marks, the last `@` and faults by their index.
use Rattle.std.specs.Prelude.{Option, None, Some}
use mathlib.Core.Path.{◌≡◌, refl, sym, ap, ap₂, ◌∙◌, subst}
use mathlib.Core.Bool.{Bool, true, false, not, cond, ◌&&◌}
use mathlib.Core.List.{List, [], ◌∷◌}
use mathlib.Core.Logic.{◌⊎◌, inl, inr}
use Prim.Native.Nat.{ℕ, zero, suc, ◌+◌, ◌-◌, ◌%◌, ◌≤◌, ◌<◌}
use native.Mathlib.Decide.{ℕ_discrete}
use native.Mathlib.Omega.{arith}
use lib.Dec.{T, eqb, ltb, eqb→eq, eqb_refl, ltb→lt, nltb→le, lt→ltb, lit≤, T_not}
use borrow.Author.Tests.{eq-eqb}
use lib.ListN.{length, get_or, take, drop, length-drop}
use lib.Seq.{slice, take-nil, drop-cons, drop-drop, get_or-drop, get_or-take}
use Rattle.base.specs.Branch.{when◌then◌else◌}
use Rattle.base.specs.Lists.{count, from}
use Rattle.base.proofs.Bool.{and→, →and, is, not_not}
use Rattle.base.proofs.Branch.{if_ind}
use Rattle.text.specs.Bytes.{semicolon, slash, at_mark}
use Rattle.text.specs.Reading.{side_of, overall_mark, cell_mark, known, first_longer, sections, one_on, first_bad, last_at}
use Rattle.text.specs.Reading.{fault_at, first_fault, lone_side}

-- a choice by whether two numbers are equal
pub if_equal {ℓ κ} : {A : Type ℓ} (P : A → Type κ) (m n : ℕ) (x y : Unit {0} → A) → (m ≡ n → P (x tt)) →
    ((m ≡ n → ⊥) → P (y tt)) → P (when eqb m n then x else y)
if_equal P m n x y f g =
    if_ind P (eqb m n) x y (λ t. f (eqb→eq m n t)) (λ t. g (λ e. T_not (eqb m n) t (subst (λ (k : ℕ). T (eqb m k)) e (eqb_refl m))))

-- ---- sections
-- no semicolon from place i up to, not including, place j
abbrev pub Clear : List ℕ → ℕ → ℕ → Type 0
Clear t i j = (k : ℕ) → i ≤ k → k < j → get_or t k 0 ≡ semicolon → ⊥

section_ends : (c : ℕ) (cs : List ℕ) → c ≡ semicolon → sections (c ∷ cs) ≡ [] ∷ sections cs
unfolding sections
section_ends c cs e = if_equal (λ r. r ≡ [] ∷ sections cs) c semicolon _ _ (λ _. refl) (λ n. absurd (n e))

section_goes_on : (c : ℕ) (cs : List ℕ) → (c ≡ semicolon → ⊥) → sections (c ∷ cs) ≡ first_longer c (sections cs)
unfolding sections
section_goes_on c cs n = if_equal (λ r. r ≡ first_longer c (sections cs)) c semicolon _ _ (λ e. absurd (n e)) (λ _. refl)

-- the first semicolon ends the first section
pub sections_split : (t : List ℕ) (i : ℕ) → i < length t → Clear t 0 i → get_or t i 0 ≡ semicolon → sections t ≡ take i t ∷
    sections (drop (suc i) t)
sections_split [] i h f e = absurd (omega arith)
sections_split (c ∷ cs) zero h f e = section_ends c cs e
sections_split (c ∷ cs) (suc i) h f e =
    section_goes_on c cs (f 0 (omega arith) (omega arith))
    ∙ ap (first_longer c) (sections_split cs i (omega arith) (λ k _ l. f (suc k) (omega arith) (omega arith)) e)

-- without semicolons there is one section
pub one_section : (t : List ℕ) → Clear t 0 (length t) → sections t ≡ t ∷ []
unfolding sections
one_section [] f = refl
one_section (c ∷ cs) f =
    section_goes_on c cs (f 0 (omega arith) (omega arith)) ∙ ap (first_longer c)
    (one_section cs (λ k _ l. f (suc k) (omega arith) (omega arith)))

-- the part after place i has the semicolons that stand after it
drop_clear : (t : List ℕ) (i j n : ℕ) → i + n ≤ j → Clear t i j → Clear (drop i t) 0 n
drop_clear t i j n h f k _ l e = f (i + k) (omega arith) (omega arith) (sym (get_or-drop i t k 0) ∙ e)

-- with one semicolon there are two
pub two_sections : (t : List ℕ) (i : ℕ) → i < length t → Clear t 0 i → get_or t i 0 ≡ semicolon → Clear t (suc i) (length t) →
    sections t ≡ take i t ∷ drop (suc i) t ∷ []
two_sections t i h f e g =
    sections_split t i h f e ∙ ap (λ (ss : List (List ℕ)). take i t ∷ ss)
    (one_section (drop (suc i) t) (drop_clear t (suc i) (length t) _ (omega (arith, length-drop (suc i) t)) g))

-- ---- two semicolons
drop_take : (n j : ℕ) (t : List ℕ) → n ≤ j → drop n (take j t) ≡ take (j - n) (drop n t)
drop_take zero j t h = let e : j - 0 ≡ j = omega arith in rw e
drop_take (suc n) zero t h = absurd (omega arith)
drop_take (suc n) (suc j) [] h = sym (take-nil (suc j - suc n))
drop_take (suc n) (suc j) (c ∷ cs) h = let e : j - n ≡ suc j - suc n = omega arith in drop_take n j cs (omega arith) ∙ rw e

module _ (t : List ℕ) (i j : ℕ) (h : i < j) (l : j < length t) (f : Clear t 0 i) (e : get_or t i 0 ≡ semicolon) (g : Clear t (suc i) j)
    (d : get_or t j 0 ≡ semicolon) where
  -- the first two semicolons end the first two sections
  pub sections_split_twice : sections t ≡ take i t ∷ slice (suc i) j t ∷ sections (drop (suc j) t)
  sections_split_twice = sections_split t i (omega arith) f e ∙ ap (λ (ss : List (List ℕ)). take i t ∷ ss) second
    where
      m : ℕ
      m = j - suc i

      rest : drop (suc m) (drop (suc i) t) ≡ drop (suc j) t
      rest = let n : suc i + suc (j - suc i) ≡ suc j = omega arith in drop-drop (suc m) (suc i) t ∙ ap (λ (k : ℕ). drop k t) n

      second : sections (drop (suc i) t) ≡ slice (suc i) j t ∷ sections (drop (suc j) t)
      second =
          let n : suc i + (j - suc i) ≡ j = omega arith in
          sections_split (drop (suc i) t) m (omega (arith, length-drop (suc i) t)) (drop_clear t (suc i) j m (omega arith) g)
          (get_or-drop (suc i) t m 0 ∙ rw n d)
          ∙ ap₂ (λ (s r : List ℕ). s ∷ sections r) (sym (drop_take (suc i) j t h)) rest

  -- with no third there are three sections
  pub three_sections : Clear t (suc j) (length t) → sections t ≡ take i t ∷ slice (suc i) j t ∷ drop (suc j) t ∷ []
  three_sections k = sections_split_twice
      ∙ ap (λ (ss : List (List ℕ)). take i t ∷ slice (suc i) j t ∷ ss) (one_section (drop (suc j) t)
      (drop_clear t (suc j) (length t) _ (omega (arith, length-drop (suc j) t)) k))

-- what stands in a section between two places
pub slice_at : (t : List ℕ) (i j k : ℕ) → i + k < j → get_or (slice i j t) k 0 ≡ get_or t (i + k) 0
slice_at t i j k h = get_or-drop i (take j t) k 0 ∙ get_or-take j t (i + k) 0 h

-- ---- how many semicolons
abbrev pub semicolons : List ℕ → ℕ
semicolons t = count (λ c. eqb c semicolon) t

-- there is one section more
pub section_count : (t : List ℕ) → length (sections t) ≡ suc (semicolons t)
unfolding sections count when◌then◌else◌
section_count [] = refl
section_count (c ∷ cs) = go (eqb c semicolon) (sections cs) (section_count cs)
  where
    go : (b : Bool) (ss : List (List ℕ)) → length ss ≡ suc (semicolons cs) →
        length (when b then (λ _. [] ∷ ss) else λ _. first_longer c ss) ≡ suc (cond b 1 0 + semicolons cs)
    go true ss e = omega arith
    go false [] e = absurd (omega arith)
    go false (s ∷ ss) e = omega arith

-- a semicolon at j is one more than those after it
semicolon_counts : (t : List ℕ) (i j : ℕ) → i ≤ j → j < length t → get_or t j 0 ≡ semicolon →
    semicolons (drop (suc j) t) < semicolons (drop i t)
unfolding count
semicolon_counts [] i j h l e = absurd (omega arith)
semicolon_counts (c ∷ cs) zero zero h l e = rw (eq-eqb c semicolon e) (omega arith)
semicolon_counts (c ∷ cs) zero (suc j) h l e = omega (arith, semicolon_counts cs 0 j (omega arith) (omega arith) e)
semicolon_counts (c ∷ cs) (suc i) zero h l e = absurd (omega arith)
semicolon_counts (c ∷ cs) (suc i) (suc j) h l e = semicolon_counts cs i j (omega arith) (omega arith) e

-- with a third semicolon there are more than three
pub more_sections : (t : List ℕ) (i j k : ℕ) → i < j → j < k → k < length t → get_or t i 0 ≡ semicolon →
    get_or t j 0 ≡ semicolon → get_or t k 0 ≡ semicolon → 3 < length (sections t)
more_sections t i j k h l m x y z =
    omega (
      arith,
      section_count t,
      semicolon_counts t 0 i (omega arith) (omega arith) x,
      semicolon_counts t (suc i) j h (omega arith) y,
      semicolon_counts t (suc j) k l m z,
    )

-- ---- the side
-- a lone byte names it
pub lone_byte : (s : List ℕ) → length s ≡ 1 → lone_side s ≡ side_of (get_or s 0 0)
lone_byte [] e = absurd (omega arith)
lone_byte (c ∷ []) e = refl
lone_byte (c ∷ d ∷ cs) e = absurd (omega arith)

-- no byte, or several, name none
pub not_lone : (s : List ℕ) → (length s ≡ 1 → ⊥) → lone_side s ≡ None
not_lone [] n = refl
not_lone (c ∷ []) n = absurd (n refl)
not_lone (c ∷ d ∷ cs) n = refl

-- ---- the first bad mark
-- mark k is one of the five
abbrev pub Known : List ℕ → ℕ → Type 0
Known os k = T (known (overall_mark (get_or os k 0)))

-- mark i is bad, and those before it are not
pub record FirstBad (os : List ℕ) (i : ℕ) : Type 0 where
  pub inside : i < length os
  pub before : (k : ℕ) → k < i → Known os k
  pub bad : Known os i → ⊥

first_bad_here : (c : ℕ) (cs : List ℕ) → (T (known (overall_mark c)) → ⊥) → first_bad (c ∷ cs) ≡ Some 0
unfolding first_bad
first_bad_here c cs n = if_ind (λ r. r ≡ Some 0) (known (overall_mark c)) _ _ (λ t. absurd (n t)) (λ _. refl)

first_bad_later : (c : ℕ) (cs : List ℕ) → T (known (overall_mark c)) → first_bad (c ∷ cs) ≡ one_on (first_bad cs)
unfolding first_bad
first_bad_later c cs t =
    if_ind (λ r. r ≡ one_on (first_bad cs)) (known (overall_mark c)) _ _ (λ _. refl) (λ n. absurd (T_not (known (overall_mark c)) n t))

-- the first bad mark is the one that is found
pub →first_bad : (os : List ℕ) (i : ℕ) → FirstBad os i → first_bad os ≡ Some i
→first_bad [] i f = absurd (omega (arith, f.inside))
→first_bad (c ∷ cs) zero f = first_bad_here c cs f.bad
→first_bad (c ∷ cs) (suc i) f = first_bad_later c cs (f.before 0 (omega arith))
    ∙ ap one_on (→first_bad cs i
    (record { inside = omega (arith, f.inside); before = λ k h. f.before (suc k) (omega arith); bad = f.bad }))

-- where every mark is known none is found
pub →none_bad : (os : List ℕ) → ((k : ℕ) → k < length os → Known os k) → first_bad os ≡ None
unfolding first_bad
→none_bad [] f = refl
→none_bad (c ∷ cs) f = first_bad_later c cs (f 0 (omega arith)) ∙ ap one_on (→none_bad cs (λ k h. f (suc k) (omega arith)))

-- what is found says which marks are known
abbrev pub BadMarks : List ℕ → Option ℕ → Type 0
BadMarks os None = (k : ℕ) → k < length os → Known os k
BadMarks os (Some i) = FirstBad os i

-- either answer is right
pub first_bad_is : (os : List ℕ) → BadMarks os (first_bad os)
unfolding first_bad
first_bad_is [] = λ k h. absurd (omega arith)
first_bad_is (c ∷ cs) = if_ind (BadMarks (c ∷ cs)) (known (overall_mark c)) _ _
    (λ t. go (first_bad cs) t (first_bad_is cs))
    (λ n. record { inside = omega arith; before = λ k h. absurd (omega arith); bad = T_not (known (overall_mark c)) n })
  where
    go : (r : Option ℕ) → T (known (overall_mark c)) → BadMarks cs r → BadMarks (c ∷ cs) (one_on r)
    go None t f = λ k. elim k as (λ k. k < length (c ∷ cs) → Known (c ∷ cs) k) [ zero ↦ λ _. t | suc k ↦ λ h. f k (omega arith) ]
    go (Some i) t f =
        record {
          inside = omega (arith, f.inside);
          before = λ k. elim k as (λ k. k < suc i → Known (c ∷ cs) k) [ zero ↦ λ _. t | suc k ↦ λ h. f.before k (omega arith) ];
          bad = f.bad;
        }

-- the mark that is found is the first bad one
pub first_bad→ : (os : List ℕ) (i : ℕ) → first_bad os ≡ Some i → FirstBad os i
first_bad→ os i e = subst (BadMarks os) e (first_bad_is os)

-- ---- the last `@`
-- one mark on: the board that is due, as far as it is known
pub last_at_steps : (i : ℕ) (os : List ℕ) (d : Option ℕ) → i < length os
    → last_at i (drop i os) d ≡ last_at (suc i) (drop (suc i) os) (when eqb (get_or os i 0) at_mark then (λ _. Some i) else λ _. d)
unfolding last_at
last_at_steps i os d h = ap (λ (cs : List ℕ). last_at i cs d) (drop-cons os i 0 h)

-- no `@` among the marks from i on
abbrev pub NoneAt : List ℕ → ℕ → Type 0
NoneAt os i = (k : ℕ) → i ≤ k → k < length os → get_or os k 0 ≡ at_mark → ⊥

none_at_later : (c : ℕ) (cs : List ℕ) (i : ℕ) → NoneAt cs i → NoneAt (c ∷ cs) (suc i)
none_at_later c cs i f zero h l = absurd (omega arith)
none_at_later c cs i f (suc k) h l = f k (omega arith) (omega arith)

none_at_all : (c : ℕ) (cs : List ℕ) → (c ≡ at_mark → ⊥) → NoneAt cs 0 → NoneAt (c ∷ cs) 0
none_at_all c cs n f zero _ _ = n
none_at_all c cs n f (suc k) _ l = f k (omega arith) (omega arith)

-- it is the last place that holds `@`, or with none what was due before
pub last_at_cases {κ} : (P : Option ℕ → Type κ) (i : ℕ) (os : List ℕ) (d : Option ℕ) →
    (NoneAt os 0 → P d) → ((k : ℕ) → k < length os → get_or os k 0 ≡ at_mark → NoneAt os (suc k) → P (Some (i + k))) →
    P (last_at i os d)
unfolding last_at
last_at_cases P i [] d x f = x (λ k _ h. absurd (omega arith))
last_at_cases P i (c ∷ cs) d x f = last_at_cases P (suc i) cs _
    (λ n. if_equal P c at_mark _ _
    (λ e. subst (λ (k : ℕ). P (Some k)) (omega arith) (f 0 (omega arith) e (none_at_later c cs 0 n)))
    (λ m. x (none_at_all c cs m n)))
    (λ k h e n. subst (λ (k : ℕ). P (Some k)) (omega arith) (f (suc k) (omega arith) e (none_at_later c cs (suc k) n)))

-- without an `@` nothing becomes due
pub last_at_none : (os : List ℕ) (d : Option ℕ) → NoneAt os 0 → last_at 0 os d ≡ d
last_at_none os d n = last_at_cases (λ r. r ≡ d) 0 os d (λ _. refl) (λ k h e _. absurd (n k (omega arith) h e))

-- the last `@` is due
pub last_at_is : (os : List ℕ) (d : Option ℕ) (i : ℕ) → i < length os → get_or os i 0 ≡ at_mark → NoneAt os (suc i) →
    last_at 0 os d ≡ Some i
last_at_is os d i h e n = last_at_cases (λ r. r ≡ Some i) 0 os d
    (λ m. absurd (m i (omega arith) h e)) (λ k l f m. go k l f m (is (ltb i k)) (is (ltb k i)))
  where
    go : (k : ℕ) → k < length os → get_or os k 0 ≡ at_mark → NoneAt os (suc k)
        → T (ltb i k) ⊎ T (not (ltb i k)) → T (ltb k i) ⊎ T (not (ltb k i)) → Some (0 + k) ≡ Some i
    go k l f m (inl t) u = absurd (n k (ltb→lt i k t) l f)
    go k l f m (inr t) (inl u) = absurd (m i (ltb→lt k i u) h e)
    go k l f m (inr t) (inr u) = ap Some (omega (arith, nltb→le))

-- ---- the fault of a byte of the cells
-- byte i is a cell's mark
abbrev pub KnownCell : List ℕ → ℕ → Type 0
KnownCell cs i = T (known (cell_mark (get_or cs i 0)))

-- the cases of a byte: a `/` that is there, lacks or is replaced; a cell that is lacking, there or bad
module _ (cs : List ℕ) (i : ℕ) where
  pub fault_cases {κ} : (P : ℕ → Type κ) →
      (i % 10 ≡ 9 → i < length cs → get_or cs i 0 ≡ slash → P 0) →
      (i % 10 ≡ 9 → (i < length cs → get_or cs i 0 ≡ slash → ⊥) → P 5) →
      ((i % 10 ≡ 9 → ⊥) → length cs ≤ i → P 6) →
      ((i % 10 ≡ 9 → ⊥) → i < length cs → KnownCell cs i → P 0) →
      ((i % 10 ≡ 9 → ⊥) → i < length cs → (KnownCell cs i → ⊥) → P 3) →
      P (fault_at cs i)
  unfolding fault_at
  fault_cases P a b c d e = if_equal P (i % 10) 9 _ _
      (λ s. if_ind P (ltb i (length cs) && eqb (get_or cs i 0) slash) _ _
      (λ t. let r = and→ (ltb i (length cs)) _ t in a s (ltb→lt _ _ r.0) (eqb→eq _ _ r.1))
      (λ n. b s (λ h k. T_not (ltb i (length cs) && eqb (get_or cs i 0) slash) n
      (→and (ltb i (length cs)) _ (lt→ltb i (length cs) h) (subst (λ (x : ℕ). T (eqb (get_or cs i 0) x)) k
      (eqb_refl (get_or cs i 0)))))))
      (λ n. if_ind P (not (ltb i (length cs))) _ _
      (λ t. c n (nltb→le _ _ t))
      (λ t. let h = ltb→lt i (length cs) (not_not (ltb i (length cs)) t) in
      if_ind P (known (cell_mark (get_or cs i 0))) _ _ (d n h) (λ u. e n h (T_not (known (cell_mark (get_or cs i 0))) u))))

  -- a `/` in its place is no fault
  pub slash_stands : i % 10 ≡ 9 → i < length cs → get_or cs i 0 ≡ slash → fault_at cs i ≡ 0
  slash_stands s h e =
      fault_cases (λ f. f ≡ 0) (λ _ _ _. refl) (λ _ n. absurd (n h e)) (λ n _. absurd (n s)) (λ _ _ _. refl) (λ n _ _. absurd (n s))

  -- another byte there, or none, is 5
  pub slash_lacks : i % 10 ≡ 9 → (i < length cs → get_or cs i 0 ≡ slash → ⊥) → fault_at cs i ≡ 5
  slash_lacks s m =
      fault_cases (λ f. f ≡ 5) (λ _ h e. absurd (m h e)) (λ _ _. refl) (λ n _. absurd (n s)) (λ n _ _. absurd (n s))
      (λ n _ _. absurd (n s))

  -- a cell that lacks is 6
  pub cell_lacks : (i % 10 ≡ 9 → ⊥) → length cs ≤ i → fault_at cs i ≡ 6
  cell_lacks n l =
      fault_cases (λ f. f ≡ 6) (λ s _ _. absurd (n s)) (λ s _. absurd (n s)) (λ _ _. refl) (λ _ h _. absurd (omega arith))
      (λ _ h _. absurd (omega arith))

  -- a cell with a mark is no fault
  pub cell_stands : (i % 10 ≡ 9 → ⊥) → i < length cs → KnownCell cs i → fault_at cs i ≡ 0
  cell_stands n h t =
      fault_cases (λ f. f ≡ 0) (λ _ _ _. refl) (λ s _. absurd (n s)) (λ _ l. absurd (omega arith)) (λ _ _ _. refl)
      (λ _ _ m. absurd (m t))

  -- another byte there is 3
  pub cell_bad : (i % 10 ≡ 9 → ⊥) → i < length cs → (KnownCell cs i → ⊥) → fault_at cs i ≡ 3
  cell_bad n h m =
      fault_cases (λ f. f ≡ 3) (λ s _ _. absurd (n s)) (λ s _. absurd (n s)) (λ _ l. absurd (omega arith)) (λ _ _ t. absurd (m t))
      (λ _ _ _. refl)

  -- a byte without fault is there
  pub faultless_is_there : fault_at cs i ≡ 0 → i < length cs
  faultless_is_there =
      fault_cases (λ f. f ≡ 0 → i < length cs) (λ _ h _ _. h) (λ _ _ e. absurd (omega arith)) (λ _ _ e. absurd (omega arith))
      (λ _ h _ _. h) (λ _ _ _ e. absurd (omega arith))

  -- the numbers end at 6
  pub fault_at_most_6 : fault_at cs i ≤ 6
  fault_at_most_6 =
      fault_cases (λ f. f ≤ 6) (λ _ _ _. lit≤ tt) (λ _ _. lit≤ tt) (λ _ _. lit≤ tt) (λ _ _ _. lit≤ tt) (λ _ _ _. lit≤ tt)

-- ---- the first fault of n bytes from i on
module _ (cs : List ℕ) where
  -- a byte without one is passed over
  pub first_fault_steps : (i n : ℕ) → fault_at cs i ≡ 0 → first_fault cs (from i (suc n)) ≡ first_fault cs (from (suc i) n)
  unfolding first_fault
  first_fault_steps i n e = if_equal (λ f. f ≡ first_fault cs (from (suc i) n)) (fault_at cs i) 0 _ _ (λ _. refl) (λ m. absurd (m e))

  -- a byte with one is the answer
  pub first_fault_stops : (i n : ℕ) → (fault_at cs i ≡ 0 → ⊥) → first_fault cs (from i (suc n)) ≡ fault_at cs i
  unfolding first_fault
  first_fault_stops i n m = if_equal (λ f. f ≡ fault_at cs i) (fault_at cs i) 0 _ _ (λ e. absurd (m e)) (λ _. refl)

  -- it is that of the first byte that has one
  pub first_fault_is : (i n k : ℕ) → k < n → ((j : ℕ) → i ≤ j → j < i + k → fault_at cs j ≡ 0) →
      (fault_at cs (i + k) ≡ 0 → ⊥) → first_fault cs (from i n) ≡ fault_at cs (i + k)
  first_fault_is i zero k h f m = absurd (omega arith)
  first_fault_is i (suc n) zero h f m = let e : i + 0 ≡ i = omega arith in rw e (first_fault_stops i n (rw e at m))
  first_fault_is i (suc n) (suc k) h f m =
      let e : i + suc k ≡ suc i + k = omega arith in
      first_fault_steps i n (f i (omega arith) (omega arith))
      ∙ rw e (first_fault_is (suc i) n k (omega arith) (λ j a b. f j (omega arith) (omega arith)) (rw e at m))

  -- where no byte has one the answer is 0
  pub no_fault : (i n : ℕ) → ((j : ℕ) → i ≤ j → j < i + n → fault_at cs j ≡ 0) → first_fault cs (from i n) ≡ 0
  unfolding first_fault
  no_fault i zero f = refl
  no_fault i (suc n) f =
      first_fault_steps i n (f i (omega arith) (omega arith)) ∙ no_fault (suc i) n (λ j a b. f j (omega arith) (omega arith))

  -- 0 says that none has one
  pub no_fault→ : (i n : ℕ) → first_fault cs (from i n) ≡ 0 → (j : ℕ) → i ≤ j → j < i + n → fault_at cs j ≡ 0
  no_fault→ i zero e j a b = absurd (omega arith)
  no_fault→ i (suc n) e j a b =
      let z : fault_at cs i ≡ 0 = elim (ℕ_discrete (fault_at cs i) 0) [
        | yes y ↦ y
        | no m ↦ absurd (m (sym (first_fault_stops i n m) ∙ e))
      ] in
      elim (ℕ_discrete j i) [
        | yes q ↦ rw q z
        | no q ↦ no_fault→ (suc i) n (sym (first_fault_steps i n z) ∙ e) j (omega arith)
            (omega arith)
      ]

  -- of any bytes it is at most 6
  pub first_fault_at_most_6 : (is : List ℕ) → first_fault cs is ≤ 6
  unfolding first_fault
  first_fault_at_most_6 [] = lit≤ tt
  first_fault_at_most_6 (i ∷ is) =
      if_equal (λ f. f ≤ 6) (fault_at cs i) 0 _ _ (λ _. first_fault_at_most_6 is) (λ _. fault_at_most_6 cs i)
