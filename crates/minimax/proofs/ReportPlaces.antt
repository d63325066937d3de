-- Lists of 81 places: the first d, and the empty ones from there on.
use mathlib.Core.Path.{◌≡◌, ap}
use mathlib.Core.List.{List, [], ◌∷◌, ◌++◌}
use Prim.Native.Nat.{ℕ, zero, suc, ◌+◌, ◌-◌, ◌<◌}
use native.Mathlib.Omega.{arith}
use lib.ListN.{set, take, drop, replicate}
use Rattle.std.proofs.lemmas.List.{map-set}
use Rattle.boards.specs.declared.moves.Move.{Move}
use Rattle.minimax.specs.Report.{byte_of, bytes_of}

-- ---- lists of 81 places, empty from d on
module _ {A : Type 0} where
  pub drop_next : (d : ℕ) (xs ys : List A) (y : A) → drop d xs ≡ y ∷ ys → drop (suc d) xs ≡ ys
  drop_next zero [] ys y e = absurd (let z : ◌≡◌ {A = ℕ} 0 1 = cc in omega arith)
  drop_next zero (x ∷ xs) ys y e = cc
  drop_next (suc d) [] ys y e = absurd (let z : ◌≡◌ {A = ℕ} 0 1 = cc in omega arith)
  drop_next (suc d) (x ∷ xs) ys y e = drop_next d xs ys y e

  pub take_next : (d : ℕ) (xs ys : List A) (y : A) → drop d xs ≡ y ∷ ys → take (suc d) xs ≡ take d xs ++ (y ∷ [])
  take_next zero [] ys y e = absurd (let z : ◌≡◌ {A = ℕ} 0 1 = cc in omega arith)
  take_next zero (x ∷ xs) ys y e = let q : x ≡ y = cc in ap (λ (z : A). z ∷ []) q
  take_next (suc d) [] ys y e = absurd (let z : ◌≡◌ {A = ℕ} 0 1 = cc in omega arith)
  take_next (suc d) (x ∷ xs) ys y e = ap (◌∷◌ x) (take_next d xs ys y e)

-- the rest of 81 empty places
pub rest_next : {A : Type 0} (d : ℕ) (y : A) → d < 81 → replicate (81 - d) y ≡ y ∷ replicate (81 - (d + 1)) y
rest_next {A} d y h = ap (λ (n : ℕ). replicate n y) e
  where
    e : 81 - d ≡ suc (81 - (d + 1))
    e = omega arith

-- ---- moves as bytes, one of them changed
pub bytes_set : (ms : List Move) (i : ℕ) (m : Move) → bytes_of (set ms i m) ≡ set (bytes_of ms) i (byte_of m)
bytes_set ms i m = map-set byte_of ms i m
