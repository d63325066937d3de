-- The 256 marks: none at first, one read, one more.
use mathlib.Core.Path.{◌≡◌, refl, sym, ap, ◌∙◌}
use mathlib.Core.Bool.{Bool, true, false, ◌||◌}
use mathlib.Core.List.{List, [], ◌∷◌}
use Prim.Native.Nat.{ℕ, zero, suc, ◌/◌, ◌%◌, ◌^◌, ◌<◌}
use native.Mathlib.Decide.{ℕ_discrete}
use native.Mathlib.Omega.{arith}
use lib.Bits.{bit_and}
use lib.Dec.{eqb}
use lib.ListN.{get_or, set, length, length-set}
use lib.Seq.{get_or-set_same, get_or-set_other, set-get_or}
use borrow.Author.Tests.{eq-eqb, ne_eqb}
use Rattle.base.specs.Bits.{bit}
use Rattle.base.proofs.BitsOperations.{bit_nought}
use Rattle.base.proofs.Bits.{digit_test, marked as digit_set, unmarked as digit_kept, marked_again as digit_set_already}
use Rattle.order.specs.declared.Seen.{Seen}
use Rattle.order.specs.Order.{marked, set_mark}

nought : (i : ℕ) → ◌≡◌ {A = ℕ} (get_or (0 ∷ 0 ∷ 0 ∷ 0 ∷ []) i 0) 0
nought zero = refl
nought (suc zero) = refl
nought (suc (suc zero)) = refl
nought (suc (suc (suc zero))) = refl
nought (suc (suc (suc (suc i)))) = refl

pub none_marked : (m : ℕ) → marked (record { marks = 0 ∷ 0 ∷ 0 ∷ 0 ∷ [] }) m ≡ false
unfolding marked
none_marked m = ap (λ (n : ℕ). bit n (m % 64)) (nought (m / 64)) ∙ bit_nought (m % 64)

pub mark_read : (s : Seen) (m : ℕ) → eqb (bit_and (get_or s.marks (m / 64) 0 / 2 ^ (m % 64)) 1) 1 ≡ marked s m
unfolding marked
mark_read s m = digit_test (get_or s.marks (m / 64) 0) (m % 64)

-- ---- the mark of a move set
pub seen_length : (s : Seen) (m : ℕ) → length (set_mark s m).marks ≡ length s.marks
unfolding set_mark
seen_length s m = length-set s.marks (m / 64) _

-- one that is set already
pub seen_again : (s : Seen) (m : ℕ) → marked s m ≡ true → set_mark s m ≡ s
unfolding marked set_mark
seen_again s m e =
    ap (λ (word : ℕ). record { marks = set s.marks (m / 64) word }) (digit_set_already (get_or s.marks (m / 64) 0) (m % 64) e)
    ∙ ap (λ (words : List ℕ). record { marks = words }) (set-get_or s.marks (m / 64) 0)

module _ (s : Seen) (m : ℕ) (h : m / 64 < length s.marks) where
  abbrev word : ℕ
  word = get_or s.marks (m / 64) 0

  here : marked (set_mark s m) m ≡ true
  unfolding marked set_mark
  here = rw (get_or-set_same s.marks (m / 64) _ 0 h) (digit_set word (m % 64))

  same_word : (k : ℕ) → (k ≡ m → ⊥) → k / 64 ≡ m / 64 → marked (set_mark s m) k ≡ marked s k
  unfolding marked set_mark
  same_word k d e = rw (e, get_or-set_same s.marks (m / 64) _ 0 h) (digit_kept word (m % 64) (k % 64) (λ q. d (omega arith)))

  other_word : (k : ℕ) → (k / 64 ≡ m / 64 → ⊥) → marked (set_mark s m) k ≡ marked s k
  unfolding marked set_mark
  other_word k d = rw (get_or-set_other s.marks (m / 64) (k / 64) _ 0 d)

  -- a mark more
  pub one_more : (k : ℕ) → marked (set_mark s m) k ≡ (eqb k m || marked s k)
  one_more k = go (ℕ_discrete k m) (ℕ_discrete (k / 64) (m / 64))
    where
      go : Dec (k ≡ m) → Dec (k / 64 ≡ m / 64) → marked (set_mark s m) k ≡ (eqb k m || marked s k)
      go (yes e) p = rw e (here ∙ sym (ap (λ (b : Bool). b || marked s m) (eq-eqb m m refl)))
      go (no d) (yes e) = same_word k d e ∙ sym (ap (λ (b : Bool). b || marked s k) (ne_eqb k m d))
      go (no d) (no f) = other_word k f ∙ sym (ap (λ (b : Bool). b || marked s k) (ne_eqb k m d))
