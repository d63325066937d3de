-- Reading a move from two bytes, as the code has it.
use Rattle.std.specs.Prelude.{Ok, Err}
use mathlib.Core.Path.{◌≡◌, refl, sym, ap, ◌∙◌}
use mathlib.Core.Bool.{Bool, true, false, not, and-false}
use mathlib.Core.List.{List, [], ◌∷◌}
use Prim.Native.Nat.{ℕ, ◌+◌, ◌-◌, ◌*◌, ◌≤◌, ◌<◌}
use native.Mathlib.Omega.{arith}
use lib.Dec.{leb, leb→le}
use lib.ListN.{length, get_or}
use borrow.Author.Tests.{not-false, le-leb, lt-leb}
use Rattle.base.specs.Branch.{when◌then◌else◌}
use Rattle.base.proofs.Bool.{and→}
use Rattle.text.specs.Bytes.{first_letter}
use Rattle.text.specs.MoveText.{reads_move, coordinate, read_letters, read_move}
use Rattle.text.proofs.MoveText.{Lettered}
use Rattle.notation.specs.declared.ParseMoveError.{ParseMoveError}
use Rattle.notation.specs.declared.ParseMoveError.TheVariants.{BadCharacter}
use Rattle.notation.specs.Parsed.{ParsesMove}
use Rattle.notation.specs.Parts.{coordinate_of}

-- ---- a letter
module _ (c : ℕ) where
  pub below_letters : c < 0x61 → Err (BadCharacter c) ≡ coordinate_of c
  unfolding coordinate_of when◌then◌else◌
  below_letters h = rw (lt-leb 0x61 c h)

  pub above_letters : 0x69 < c → Err (BadCharacter c) ≡ coordinate_of c
  unfolding coordinate_of when◌then◌else◌
  above_letters h = rw (lt-leb c 0x69 h, and-false (leb 0x61 c))

  pub a_letter : 0x61 ≤ c → c ≤ 0x69 → Ok (c - 0x61) ≡ coordinate_of c
  unfolding coordinate_of when◌then◌else◌
  a_letter h k = rw (le-leb 0x61 c h, le-leb c 0x69 k)

  bad : (e : ParseMoveError) → coordinate_of c ≡ Err e → (coordinate c ≡ false) × (e ≡ BadCharacter c)
  unfolding coordinate_of when◌then◌else◌
  bad e q = go (coordinate c) refl q
    where
      go : (b : Bool) → coordinate c ≡ b → (when b then (λ _. Ok (c - first_letter)) else λ _. Err (BadCharacter c)) ≡ Err e →
          (coordinate c ≡ false) × (e ≡ BadCharacter c)
      go true r q = cc
      go false r q = (r, cc)

  -- a byte that is no letter is named itself
  pub names_itself : (e : ParseMoveError) → coordinate_of c ≡ Err e → e ≡ BadCharacter c
  names_itself e q = (bad e q).1

  good : (n : ℕ) → coordinate_of c ≡ Ok n → (coordinate c ≡ true) × (n ≡ c - first_letter)
  unfolding coordinate_of when◌then◌else◌
  good n q = go (coordinate c) refl q
    where
      go : (b : Bool) → coordinate c ≡ b → (when b then (λ _. Ok (c - first_letter)) else λ _. Err (BadCharacter c)) ≡ Ok n →
          (coordinate c ≡ true) × (n ≡ c - first_letter)
      go true r q = (r, cc)
      go false r q = cc

  pub coordinate_small : (n : ℕ) → coordinate_of c ≡ Ok n → n ≤ 8
  coordinate_small n q =
      let g = good n q in let r = and→ (leb 0x61 c) (leb c 0x69) (rw g.0 tt) in omega (arith, g.1, leb→le c 0x69 r.1)

lettered : (c : ℕ) → coordinate c ≡ true → Lettered c
lettered c e = let r = and→ (leb 0x61 c) (leb c 0x69) (rw e tt) in record { low = leb→le _ _ r.0; high = leb→le _ _ r.1 }

-- what a byte is, from the test of its letter
pub ruleset letters = (below_letters, above_letters, a_letter)

-- ---- two
two : (t : List ℕ) → length t ≡ 2 → read_move t ≡ read_letters (get_or t 0 0) (get_or t 1 0)
two [] n = absurd (omega arith)
two (b ∷ []) n = absurd (omega arith)
two (b ∷ c ∷ []) n = refl
two (b ∷ c ∷ d ∷ cs) n = absurd (omega arith)

module _ (t : List ℕ) (n : length t ≡ 2) where
  -- the first byte is no letter
  pub first_bad : (e : ParseMoveError) → coordinate_of (get_or t 0 0) ≡ Err e → ParsesMove t (Err e)
  unfolding read_letters when◌then◌else◌
  first_bad e q = let b = bad (get_or t 0 0) e q in rw (b.1, two t n, b.0)

  module _ (m : ℕ) (p : coordinate_of (get_or t 0 0) ≡ Ok m) where
    -- only the second is none
    pub second_bad : (e : ParseMoveError) → coordinate_of (get_or t 1 0) ≡ Err e → ParsesMove t (Err e)
    unfolding read_letters when◌then◌else◌
    second_bad e q = let b = bad (get_or t 1 0) e q in rw (b.1, two t n, (good (get_or t 0 0) m p).0, b.0)

    -- both are
    pub both_good : (k : ℕ) → coordinate_of (get_or t 1 0) ≡ Ok k → ParsesMove t (Ok (record { bits = m * 16 + k }))
    unfolding read_letters when◌then◌else◌
    both_good k q =
        let b = good (get_or t 0 0) m p in
        let c = good (get_or t 1 0) k q in
        rw (two t n, b.0, c.0) (ap reads_move (omega (arith, b.1, c.1)))

  -- a byte of which a test says that it is a letter
  module _ (ok : Bool) (e : ok ≡ coordinate (get_or t 0 0)) where
    pub first_lettered : not ok ≡ false → Lettered (get_or t 0 0)
    first_lettered f = lettered (get_or t 0 0) (sym e ∙ not-false ok f)

    module _ (f : not ok ≡ false) (ok' : Bool) (e' : ok' ≡ coordinate (get_or t 1 0)) where
      pub second_lettered : not ok' ≡ false → Lettered (get_or t 1 0)
      second_lettered g = lettered (get_or t 1 0) (sym e' ∙ not-false ok' g)
