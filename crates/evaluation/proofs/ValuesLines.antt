-- A line's three places in the digits of a number: its mask finds them, and only the nine low digits count.
use native.Mathlib.Numerals.{unary_clauses}
use mathlib.Core.Path.{◌≡◌, refl, sym, ap, ◌∙◌}
use mathlib.Core.Bool.{Bool, ◌&&◌, and-false}
use mathlib.Core.List.{[], ◌∷◌}
use Prim.Native.Nat.{ℕ, zero, suc, ◌+◌, ◌-◌, ◌%◌, ◌<◌}
use native.Mathlib.Nat.{mod-lt}
use native.Mathlib.Omega.{arith}
use lib.Bits.{bit_and, and_mask, and_mod, and_le_r}
use lib.Dec.{eqb, eqb→eq, ltb, ltb→lt, lit<}
use lib.ListN.{get_or}
use lib.IntN.{ℤ, pos, neg_ℤ, ◌+ℤ◌, ◌-ℤ◌, +ℤ_idl, +ℤ_idr}
use borrow.Author.Tests.{eq-eqb, ne_eqb, eqb-true, eqb-false, lt-ltb}
use Rattle.base.specs.Branch.{when◌then◌else◌}
use Rattle.base.specs.Bits.{bit, digits}
use Rattle.base.specs.Integers.{sum}
use Rattle.base.specs.Lists.{In, all}
use Rattle.base.proofs.Bool.{and→}
use Rattle.base.proofs.Lists.{all_each}
use Rattle.base.proofs.ListsPlaces.{in_at}
use Rattle.base.proofs.Integers.{left_sum}
use Rattle.base.proofs.ListsEvery.{up_to, up_to_at, same_b, same_b_eq}
use Rattle.base.proofs.Bits.{bit_masked, bit_digits}
use Rattle.rules.specs.declared.Weights.{Weights}
use Rattle.rules.specs.Board.{Line, lines}
use Rattle.rules.specs.Evaluation.{places_in, unless_both, worth, board_line}
use Rattle.lines.specs.Masks.{line_at, masks, mask_of}
use Rattle.lines.proofs.Masks.{Low}

-- ---- the lines' places
low_test : Line → Bool
low_test l = ltb l.i 9 && (ltb l.j 9 && ltb l.k 9)

pub low : (l : Line) → In l lines → Low l
unfolding low_test all
low l i =
    let t = and→ (ltb l.i 9) _ (all_each low_test l lines tt i) in
    let u = and→ (ltb l.j 9) _ t.1 in
    (ltb→lt _ 9 t.0, ltb→lt _ 9 u.0, ltb→lt _ 9 u.1)

-- the mask of line i is that of one of the lines
pub line_in : (i : ℕ) → i < 8 → In (line_at i) lines
line_in i h = in_at lines i _ h

pub mask_is : (i : ℕ) → i < 8 → get_or masks i 0 ≡ mask_of (line_at i)
mask_is i h = eqb→eq _ _ (up_to_at (λ i. eqb (get_or masks i 0) (mask_of (line_at i))) 8 tt i h)

-- ---- only the nine low digits count
count_same : (f g : ℕ → Bool) → ((k : ℕ) → k < 9 → f k ≡ g k) → (l : Line) → Low l → places_in f l ≡ places_in g l
unfolding places_in
count_same f g e l h = rw (e l.i h.0, e l.j h.1, e l.k h.2)

pub count_digits : (f : ℕ → Bool) (n : ℕ) (l : Line) → n ≡ digits f 9 → In l lines → places_in (bit n) l ≡ places_in f l
count_digits f n l e i =
    ap (λ (m : ℕ). places_in (bit m) l) e ∙ count_same (bit (digits f 9)) f (bit_digits f 9) l (low l i)

-- eight terms, one for each line
pub eight : (f : Line → ℤ) → f (line_at 0) +ℤ f (line_at 1) +ℤ f (line_at 2) +ℤ f (line_at 3) +ℤ f (line_at 4) +ℤ f
    (line_at 5) +ℤ f (line_at 6) +ℤ f (line_at 7) ≡ sum f lines
unfolding sum
eight f =
    left_sum (f (line_at 0)) (f (line_at 1) ∷ f (line_at 2) ∷ f (line_at 3) ∷ f (line_at 4) ∷ f (line_at 5) ∷ f (line_at 6) ∷
    f (line_at 7) ∷ [])

-- the first lines, one after another
unfoldable pub first_lines : (Line → ℤ) → ℕ → ℤ
first_lines f zero = pos 0
first_lines f (suc i) = first_lines f i +ℤ f (line_at i)

pub first_more : (f : Line → ℤ) (i : ℕ) → first_lines f (i + 1) ≡ first_lines f i +ℤ f (line_at i)
unfolding first_lines
first_more f i = simp unary_clauses refl

pub first_eight : (f : Line → ℤ) → first_lines f 8 ≡ sum f lines
unfolding first_lines
first_eight f =
    ap (λ z. z +ℤ f (line_at 1) +ℤ f (line_at 2) +ℤ f (line_at 3) +ℤ f (line_at 4) +ℤ f (line_at 5) +ℤ f (line_at 6) +ℤ f (line_at 7))
    (+ℤ_idl (f (line_at 0))) ∙ eight f

-- ---- what the mask finds
-- how many places the code takes the line to have, by those, p, that it found by the mask m
found : ℕ → ℕ → ℕ
found m p =
    when eqb p 0 then (λ _. 0) else λ _. when eqb (bit_and p (p - 1)) 0 then (λ _. 1) else λ _. when eqb p m then (λ _. 3) else λ _. 2

-- computed for each line and each board of nine digits
found_test : Line → ℕ → Bool
found_test l n = eqb (found (mask_of l) (bit_and n (mask_of l))) (places_in (bit n) l)

none_test : Line → ℕ → Bool
none_test l n = same_b (eqb (bit_and n (mask_of l)) 0) (eqb (places_in (bit n) l) 0)

module _ (l : Line) (i : In l lines) where
  small_found : (n : ℕ) → n < 512 → found (mask_of l) (bit_and n (mask_of l)) ≡ places_in (bit n) l
  unfolding found_test found when◌then◌else◌ places_in bit all
  small_found n k = eqb→eq _ _ (up_to_at (found_test l) 512 (all_each (λ l. up_to (found_test l) 512) l lines tt i) n k)

  small_none : (n : ℕ) → n < 512 → eqb (bit_and n (mask_of l)) 0 ≡ eqb (places_in (bit n) l) 0
  unfolding none_test places_in bit all
  small_none n k = same_b_eq _ _ (up_to_at (none_test l) 512 (all_each (λ l. up_to (none_test l) 512) l lines tt i) n k)

  small_mask : mask_of l < 512
  unfolding all
  small_mask = ltb→lt (mask_of l) 512 (all_each (λ l. ltb (mask_of l) 512) l lines tt i)

module _ (l : Line) (n : ℕ) (i : In l lines) where
  low_mask : bit_and n (mask_of l) ≡ bit_and (n % 512) (mask_of l)
  low_mask =
      let a = and_mod n (mask_of l) 9 in
      let b = and_le_r n (mask_of l) in
      let s = small_mask l i in
      let c : mask_of l % 512 ≡ mask_of l = omega arith in
      let d = ap (bit_and (n % 512)) c in
      omega arith

  low_count : places_in (bit n) l ≡ places_in (bit (n % 512)) l
  low_count = count_same (bit n) (bit (n % 512)) (λ k h. rw (← and_mask n 9) (sym (bit_masked 9 n k h))) l (low l i)

  count_found : (k : ℕ) → found (mask_of l) (bit_and n (mask_of l)) ≡ k → k ≡ places_in (bit n) l
  count_found k e = sym e ∙ ap (found (mask_of l)) low_mask ∙ small_found l i (n % 512) (mod-lt n (lit< tt)) ∙ sym low_count

  none_found : eqb (bit_and n (mask_of l)) 0 ≡ eqb (places_in (bit n) l) 0
  none_found =
      ap (λ (p : ℕ). eqb p 0) low_mask ∙ small_none l i (n % 512) (mod-lt n (lit< tt)) ∙ ap (λ (p : ℕ). eqb p 0) (sym low_count)

  module _ (m : ℕ) (masked : m ≡ mask_of l) where
    abbrev p : ℕ
    p = bit_and n m

    -- what the code's tests say of them
    counted : (k : ℕ) → found m p ≡ k → k ≡ places_in (bit n) l
    counted k e = count_found k (rw (← masked) e)

    pub worth_none : (w : Weights) → p ≡ 0 → 0 ≡ worth w (places_in (bit n) l)
    unfolding found when◌then◌else◌
    worth_none w e = ap (worth w) (counted 0 (rw (eq-eqb p 0 e)))

    pub worth_one : (w : Weights) → (p ≡ 0 → ⊥) → bit_and p (p - 1) ≡ 0 → w.one ≡ worth w (places_in (bit n) l)
    unfolding found when◌then◌else◌
    worth_one w q e = ap (worth w) (counted 1 (rw (ne_eqb p 0 q, eq-eqb (bit_and p (p - 1)) 0 e)))

    pub worth_all : (w : Weights) → (p ≡ 0 → ⊥) → (bit_and p (p - 1) ≡ 0 → ⊥) → p ≡ m → 0 ≡ worth w (places_in (bit n) l)
    unfolding found when◌then◌else◌
    worth_all w q r e = ap (worth w) (counted 3 (rw (ne_eqb p 0 q, ne_eqb (bit_and p (p - 1)) 0 r, eq-eqb p m e)))

    pub worth_two : (w : Weights) → (p ≡ 0 → ⊥) → (bit_and p (p - 1) ≡ 0 → ⊥) → (p ≡ m → ⊥) → w.two ≡ worth w (places_in (bit n) l)
    unfolding found when◌then◌else◌
    worth_two w q r e = ap (worth w) (counted 2 (rw (ne_eqb p 0 q, ne_eqb (bit_and p (p - 1)) 0 r, ne_eqb p m e)))

    none_here : eqb p 0 ≡ eqb (places_in (bit n) l) 0
    none_here = ap (λ (k : ℕ). eqb (bit_and n k) 0) masked ∙ none_found

    pub none_there : p ≡ 0 → places_in (bit n) l ≡ 0
    none_there e = eqb-true _ 0 (sym none_here ∙ eq-eqb p 0 e)

    pub some_there : (p ≡ 0 → ⊥) → 0 < places_in (bit n) l
    some_there q = let r = eqb-false (places_in (bit n) l) 0 (sym none_here ∙ ne_eqb p 0 q) in omega (arith, r)

-- ---- a line of a board
module _ (w : Weights) (x o : ℕ) where
  only_x : o ≡ 0 → pos (worth w x) ≡ unless_both x o (pos (worth w x) -ℤ pos (worth w o))
  unfolding unless_both when◌then◌else◌
  only_x e = rw (e, and-false (ltb 0 x)) (sym (+ℤ_idr (pos (worth w x))))

  only_o : x ≡ 0 → neg_ℤ (pos (worth w o)) ≡ unless_both x o (pos (worth w x) -ℤ pos (worth w o))
  unfolding unless_both when◌then◌else◌
  only_o e = rw e (sym (+ℤ_idl (neg_ℤ (pos (worth w o)))))

-- a line with both sides in it gives nothing
pub both_sides : (x o : ℕ) (z : ℤ) → 0 < x → 0 < o → pos 0 ≡ unless_both x o z
unfolding unless_both when◌then◌else◌
both_sides x o z h k = rw (lt-ltb 0 x h, lt-ltb 0 o k)

-- one with at most one side in it gives what it has
pub no_x : (x o : ℕ) (z : ℤ) → x ≡ 0 → z ≡ unless_both x o z
unfolding unless_both when◌then◌else◌
no_x x o z e = rw e

pub no_o : (x o : ℕ) (z : ℤ) → o ≡ 0 → z ≡ unless_both x o z
unfolding unless_both when◌then◌else◌
no_o x o z e = rw (e, and-false (ltb 0 x))

module _ (w : Weights) (l : Line) (x o m : ℕ) (i : In l lines) (masked : m ≡ mask_of l) where
  pub line_x : bit_and o m ≡ 0 → pos (worth w (places_in (bit x) l)) ≡ board_line w (bit x) (bit o) l
  unfolding board_line
  line_x e = only_x w (places_in (bit x) l) (places_in (bit o) l) (none_there l o i m masked e)

  pub line_o : bit_and x m ≡ 0 → neg_ℤ (pos (worth w (places_in (bit o) l))) ≡ board_line w (bit x) (bit o) l
  unfolding board_line
  line_o e = only_o w (places_in (bit x) l) (places_in (bit o) l) (none_there l x i m masked e)

  pub line_both : (bit_and x m ≡ 0 → ⊥) → (bit_and o m ≡ 0 → ⊥) → pos 0 ≡ board_line w (bit x) (bit o) l
  unfolding board_line
  line_both q r =
      both_sides (places_in (bit x) l) (places_in (bit o) l) _ (some_there l x i m masked q) (some_there l o i m masked r)
