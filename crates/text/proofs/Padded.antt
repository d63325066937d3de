-- Along the list: what is set next after its bytes is one byte more, until the row is full.
use mathlib.Core.Path.{◌≡◌, refl, sym, ap, ◌∙◌}
use mathlib.Core.List.{List, [], ◌∷◌, ◌++◌}
use Prim.Native.Nat.{ℕ, zero, suc, ◌+◌, min, ◌≤◌, ◌<◌}
use native.Mathlib.Decide.{dec_le}
use native.Mathlib.Omega.{arith}
use lib.ListN.{length, take, set, replicate, length-append, length-take}
use lib.Seq.{set_out, take_all}
use Rattle.text.specs.Padded.{padded}

pub length_padded : (n : ℕ) (xs : List ℕ) → length (padded n xs) ≡ n
unfolding padded
length_padded zero xs = refl
length_padded (suc n) [] = ap suc (length_padded n [])
length_padded (suc n) (x ∷ xs) = ap suc (length_padded n xs)

set_next : (n : ℕ) (xs : List ℕ) (b : ℕ) → set (padded n xs) (length xs) b ≡ padded n (xs ++ (b ∷ []))
unfolding padded
set_next zero xs b = refl
set_next (suc n) [] b = refl
set_next (suc n) (x ∷ xs) b = ap (◌∷◌ x) (set_next n xs b)

-- the place of the next byte, at most n
pub set_padded : (n : ℕ) (xs : List ℕ) (b : ℕ) → set (padded n xs) (min (length xs) n) b ≡ padded n (xs ++ (b ∷ []))
set_padded n xs b = go (dec_le (length xs) n)
  where
    go : Dec (length xs ≤ n) → set (padded n xs) (min (length xs) n) b ≡ padded n (xs ++ (b ∷ []))
    go (yes h) = let e : min (length xs) n ≡ length xs = omega arith in rw e (set_next n xs b)
    go (no h) =
        let l = length_padded n xs in
        set_out (padded n xs) (min (length xs) n) b (omega arith) ∙ sym (set_out (padded n xs) (length xs) b (omega arith))
        ∙ set_next n xs b

pub padded_full : (n : ℕ) (xs ys : List ℕ) → n ≤ length xs → padded n (xs ++ ys) ≡ padded n xs
unfolding padded
padded_full zero xs ys h = refl
padded_full (suc n) [] ys h = absurd (omega arith)
padded_full (suc n) (x ∷ xs) ys h = ap (◌∷◌ x) (padded_full n xs ys (omega arith))

pub take_padded : (k n : ℕ) (xs : List ℕ) → k ≤ n → k ≤ length xs → take k (padded n xs) ≡ take k xs
unfolding padded
take_padded zero n xs h l = refl
take_padded (suc k) zero xs h l = absurd (omega arith)
take_padded (suc k) (suc n) [] h l = absurd (omega arith)
take_padded (suc k) (suc n) (x ∷ xs) h l = ap (◌∷◌ x) (take_padded k n xs (omega arith) (omega arith))

pub padded_none : (n : ℕ) → padded n [] ≡ replicate n 0
unfolding padded
padded_none zero = refl
padded_none (suc n) = ap (◌∷◌ 0) (padded_none n)

-- ---- the first k of a row's n bytes, the others 0
module _ (n : ℕ) (row : List ℕ) (k : ℕ) (h : k ≤ n) (e : row ≡ padded n (take k row)) where
  pub held_length : length (take k row) ≡ k
  held_length = let l = ap length e ∙ length_padded n (take k row) in omega (arith, length-take k row)

  -- one more
  pub held_next : (b : ℕ) → k < n → set row k b ≡ padded n (take k row ++ (b ∷ []))
  held_next b l =
      let m : min (length (take k row)) n ≡ k = omega (arith, held_length) in
      ap (λ (r : List ℕ). set r k b) e ∙ ap (λ (i : ℕ). set (padded n (take k row)) i b) (sym m) ∙ set_padded n (take k row) b

  pub held_more : (b : ℕ) → k < n → take (k + 1) (set row k b) ≡ take k row ++ (b ∷ [])
  held_more b l =
      let m : length (take k row ++ (b ∷ [])) ≡ k + 1 = omega (arith, held_length, length-append (take k row) (b ∷ [])) in
      ap (take (k + 1)) (held_next b l) ∙ take_padded (k + 1) n (take k row ++ (b ∷ [])) (omega arith) (omega arith)
      ∙ take_all (k + 1) (take k row ++ (b ∷ [])) (omega arith)

-- ---- the first n of bytes that come one by one
pub first_of_first : (n : ℕ) (xs ys : List ℕ) → take n (take n xs ++ ys) ≡ take n (xs ++ ys)
first_of_first zero xs ys = refl
first_of_first (suc n) [] ys = refl
first_of_first (suc n) (x ∷ xs) ys = ap (◌∷◌ x) (first_of_first n xs ys)
