-- A variation's places: the first one read and set, and a move put before the variation below.
use mathlib.Core.Path.{◌≡◌, refl, ap}
use mathlib.Core.List.{List, [], ◌∷◌, ◌++◌}
use Prim.Native.Nat.{ℕ, zero, suc, ◌-◌, ◌≤◌, ◌<◌}
use native.Mathlib.Omega.{arith}
use borrow.Rule.Slice.PartMut.{put_mid}
use lib.ListN.{length, get_or, set, take, drop, replicate}
use Rattle.rules.specs.Play.{no_move}
use Rattle.theory.specs.OrderedSearch.{set_first}
use Rattle.boards.specs.declared.moves.Move.{Move}
use Rattle.minimax.specs.Report.{byte_of, bytes_of}

-- ---- the first place
pub first_place : (l : List Move) (x : Move) → 0 < length l → (d : ℕ) → 0 < d →
    byte_of (get_or l 0 x) ≡ get_or (take d (bytes_of l)) 0 no_move
first_place [] x h d k = absurd (omega arith)
first_place (y ∷ l) x h zero k = absurd (omega arith)
first_place (y ∷ l) x h (suc d) k = refl

pub set_first_place : (l : List Move) (m : Move) (d : ℕ) → take d (bytes_of (set l 0 m)) ≡ set_first m.bits (take d (bytes_of l))
unfolding set_first
set_first_place [] m zero = refl
set_first_place [] m (suc d) = refl
set_first_place (y ∷ l) m zero = refl
set_first_place (y ∷ l) m (suc d) = refl

pub set_first_drop : (l : List Move) (m : Move) (d : ℕ) → 0 < d → drop d (set l 0 m) ≡ drop d l
set_first_drop l m zero h = absurd (omega arith)
set_first_drop [] m (suc d) h = refl
set_first_drop (y ∷ l) m (suc d) h = refl

-- ---- a variation's first place, i places of the variation below, and the rest
abbrev pub placed : List Move → List Move → ℕ → List Move
placed [] below i = []
placed (x ∷ pv) below i = x ∷ (take i below ++ drop i pv)

-- as a part of it is copied
pub put_placed : (old below : List Move) (m : Move) (n : ℕ) → 0 < length old →
    put_mid 1 n (set old 0 m) (take n below) ≡ placed (set old 0 m) below n
put_placed [] below m n h = absurd (omega arith)
put_placed (x ∷ old) below m n h = refl

-- the first n places are those of the variation below, the others as they were
take_placed : (n : ℕ) (low rest : List Move) → n ≤ length low → take n (bytes_of (take n low ++ rest)) ≡ take n (bytes_of low)
take_placed zero low rest h = refl
take_placed (suc n) [] rest h = absurd (omega arith)
take_placed (suc n) (x ∷ low) rest h = ap (◌∷◌ x.bits) (take_placed n low rest (omega arith))

drop_placed : (n : ℕ) (low rest : List Move) → n ≤ length low → drop n (take n low ++ rest) ≡ rest
drop_placed zero low rest h = refl
drop_placed (suc n) [] rest h = absurd (omega arith)
drop_placed (suc n) (x ∷ low) rest h = drop_placed n low rest (omega arith)

pub placed_all : (old below now : List Move) (m : Move) (d n : ℕ) → d ≡ suc n → 0 < length old → n ≤ length below →
    now ≡ placed (set old 0 m) below n
    → (take d (bytes_of now) ≡ m.bits ∷ take (d - 1) (bytes_of below)) × (drop d now ≡ drop d old)
placed_all [] below now m d n e h k p = absurd (omega arith)
placed_all (x ∷ old) below now m d n e h k p =
    let q : d - 1 ≡ n = omega arith in
    rw (p, q, e) (ap (◌∷◌ m.bits) (take_placed n below (drop n old) k), drop_placed n below (drop n old) k)

-- ---- the empty variation
pub empty_places : (n k : ℕ) → n ≤ k → replicate n no_move ≡ take n (bytes_of (replicate k (record { bits = no_move })))
empty_places zero k h = refl
empty_places (suc n) zero h = absurd (omega arith)
empty_places (suc n) (suc k) h = ap (◌∷◌ no_move) (empty_places n k (omega arith))
