-- Places written one after the other, and what a call leaves of them.
use mathlib.Core.Path.{◌≡◌, sym, ap, ◌∙◌}
use mathlib.Core.Bool.{Bool, true, false}
use mathlib.Core.List.{List, [], ◌∷◌, ◌++◌, append_assoc}
use Prim.Native.Nat.{ℕ, suc, ◌+◌, ◌≤◌}
use native.Mathlib.Omega.{arith}
use lib.ListN.{length, take, drop, set}
use lib.Seq.{drop-drop, sets, sets-eq}
use Rattle.base.specs.Branch.{when◌then◌else◌}
use Rattle.interface.specs.Lent.{returned, left}

-- what is written stands between what was before and after it
pub sets_between : {A : Type 0} (vs l : List A) (i n : ℕ) → n ≡ length vs → i + length vs ≤ length l →
    take i l ++ (vs ++ drop n (drop i l)) ≡ sets l i vs
sets_between vs l i n e h =
    rw (e, drop-drop (length vs) i l) (sym (append_assoc (take i l) vs (drop (i + length vs) l)) ∙ sym (sets-eq vs l i h))

pub sets_join : (xs ys l : List ℕ) (k : ℕ) → sets (sets l k xs) (k + length xs) ys ≡ sets l k (xs ++ ys)
sets_join [] ys l k = ap (λ (n : ℕ). sets l n ys) (omega arith)
sets_join (x ∷ xs) ys l k =
    ap (λ (n : ℕ). sets (sets (set l k x) (suc k) xs) n ys) (omega arith) ∙ sets_join xs ys (set l k x) (suc k)

-- asked rightly, what is written from the first place on is left
pub left_written : (xs l m : List ℕ) (ok : Bool) → ok ≡ true → length xs ≤ length l → m ≡ sets l 0 xs → m ≡ left ok xs l
unfolding left when◌then◌else◌
left_written xs l m true ok h e =
    let z : 0 + length xs ≡ length xs = omega arith in e ∙ sets-eq xs l 0 (omega arith) ∙ ap (λ (n : ℕ). xs ++ drop n l) z
left_written xs l m false ok h e = let z : ◌≡◌ {A = ℕ} 0 1 = cc in absurd (omega arith)

pub left_kept : (xs l : List ℕ) (ok : Bool) → ok ≡ false → l ≡ left ok xs l
unfolding left when◌then◌else◌
left_kept xs l ok e = sym (ap (λ (b : Bool). when b then (λ _. xs ++ drop (length xs) l) else λ _. l) e)

pub returned_bad : (n : ℕ) (ok : Bool) → ok ≡ false → 255 ≡ returned ok n
unfolding returned when◌then◌else◌
returned_bad n ok e = sym (ap (λ (b : Bool). when b then (λ _. n) else λ _. 255) e)

pub returned_well : (r n : ℕ) (ok : Bool) → ok ≡ true → r ≡ n → r ≡ returned ok n
unfolding returned when◌then◌else◌
returned_well r n ok e q = q ∙ sym (ap (λ (b : Bool). when b then (λ _. n) else λ _. 255) e)
