-- Each fact computes; each law goes along the line, or along the digits.
use mathlib.Core.Path.{◌≡◌, refl, ap, ◌∙◌, subst}
use mathlib.Core.Bool.{Bool, true, false}
use mathlib.Core.List.{List, [], ◌∷◌, ◌++◌}
use mathlib.Core.Logic.{inl, inr}
use Prim.Native.Nat.{ℕ, zero, suc, ◌+◌, ◌*◌, ◌/◌, ◌%◌, ◌-◌, ◌^◌, ◌≤◌, ◌<◌}
use native.Mathlib.Nat.{pow-suc}
use native.Mathlib.Omega.{arith}
use lib.Dec.{T, eqb, ltb, eqb→eq, nltb→le, T_not}
use lib.IntN.{ℤ, pos, negsuc, nat_abs}
use lib.ListN.{length, length-append}
use Rattle.base.specs.Branch.{when◌then◌else◌}
use Rattle.base.specs.Lists.{In}
use Rattle.base.proofs.Branch.{if_ind, if_both}
use Rattle.rules.specs.declared.Player.TheVariants.{X}
use Rattle.rules.specs.Status.{Status, unproven, for_player}
use Rattle.rules.specs.Play.{no_move}
use Rattle.text.specs.Bytes.{space, first_digit, quoted}
use Rattle.text.specs.ProgramLine.{Parted, no_blank, around, parted_with, parted, depth_of, no_depth, asks, asked, in_places}
use Rattle.text.specs.ProgramLine.{decimal, signed, shown, status_letters, move_letters, or_minus, moves_text, spaced, answer_text}
use Rattle.text.specs.ProgramLine.{refusal_text}

computing : Unit {0}
unfolding quoted parted depth_of in_places decimal signed move_letters when◌then◌else◌
computing = tt

-- ---- document 01's four outputs, from their parts
pub four_outputs :
    (answer_text unproven 81 1 (pos 16) 82 (0x44 ∷ []) ≡ quoted "XOD 81 1 16 82 ee")
    × (answer_text (for_player X) 7 1 (pos (2 ^ 60)) 8 (0x22 ∷ no_move ∷ 0x44 ∷ []) ≡ quoted "X 7 1 1152921504606846976 8 cc")
    × (answer_text unproven 0 1 (negsuc (2 ^ 60 - 1)) 1 (no_move ∷ []) ≡ quoted "XOD 0 1 -1152921504606846976 1 -")
    × (refusal_text 2 ≡ quoted "E 2")
unfolding computing
four_outputs = (refl, refl, refl, refl)

-- ---- the edges of what a line asks
-- 19: an empty line, no blank, a blank at the end, three digits, something else than a digit first or second, a tab for the blank
pub no_depths :
    (asked [] ≡ no_depth) × (asked (quoted "X3") ≡ no_depth) × (asked (quoted "X 3 ") ≡ no_depth) × (asked (quoted "X 100") ≡ no_depth)
    × (asked (quoted "X -1") ≡ no_depth) × (asked (quoted "X 1x") ≡ no_depth) × (asked (0x58 ∷ 0x09 ∷ 0x33 ∷ []) ≡ no_depth)
unfolding computing
no_depths = (refl, refl, refl, refl, refl, refl, refl)

-- the last of several blanks parts; zeros in front count for nothing; `00` and `82` are numbers
pub depths :
    (asked (quoted "X 3") ≡ asks (quoted "X") 3) × (asked (quoted "X 12 3") ≡ asks (quoted "X 12") 3) ×
    (asked (quoted "X  3") ≡ asks (quoted "X ") 3)
    × (asked (quoted " 3") ≡ asks [] 3) × (asked (quoted "X 04") ≡ asks (quoted "X") 4) × (asked (quoted "X 00") ≡ asks (quoted "X") 0)
    × (asked (quoted "X 82") ≡ asks (quoted "X") 82)
unfolding computing
depths = (refl, refl, refl, refl, refl, refl, refl)

-- ---- a line, parted
-- at its last blank: none follows
abbrev pub Parts : List ℕ → Parted → Type 0
Parts line no_blank = In space line → ⊥
Parts line (around text rest) = (line ≡ text ++ (space ∷ rest)) × (In space rest → ⊥)

parts_with : (c : ℕ) (cs : List ℕ) (p : Parted) → Parts cs p → Parts (c ∷ cs) (parted_with c cs p)
parts_with c cs no_blank h = if_ind (Parts (c ∷ cs)) (eqb c space) _ _
    (λ t. (ap (λ (b : ℕ). b ∷ cs) (eqb→eq c space t), h))
    (λ n i. elim i [ inl e ↦ T_not (eqb c space) n (subst (λ (b : ℕ). T (eqb b space)) e tt) | inr k ↦ h k ])
parts_with c cs (around text rest) h = (ap (◌∷◌ c) h.0, h.1)

pub parted_parts : (line : List ℕ) → Parts line (parted line)
unfolding parted
parted_parts [] = λ i. i
parted_parts (c ∷ cs) = parts_with c cs (parted cs) (parted_parts cs)

-- one byte more: a blank
pub parted_blank : (line : List ℕ) → parted (line ++ (space ∷ [])) ≡ around line []
unfolding parted when◌then◌else◌
parted_blank [] = refl
parted_blank (c ∷ cs) = ap (parted_with c (cs ++ (space ∷ []))) (parted_blank cs)

-- another
abbrev pub followed : ℕ → Parted → Parted
followed b no_blank = no_blank
followed b (around text rest) = around text (rest ++ (b ∷ []))

pub parted_other : (line : List ℕ) (b : ℕ) → eqb b space ≡ false → parted (line ++ (b ∷ [])) ≡ followed b (parted line)
unfolding parted when◌then◌else◌
parted_other [] b n = rw n
parted_other (c ∷ cs) b n = ap (parted_with c (cs ++ (b ∷ []))) (parted_other cs b n) ∙ front (parted cs)
  where
    front : (p : Parted) → parted_with c (cs ++ (b ∷ [])) (followed b p) ≡ followed b (parted_with c cs p)
    front no_blank = if_both (λ (p q : Parted). p ≡ followed b q) (eqb c space) _ _ _ _ (λ _. refl) (λ _. refl)
    front (around text rest) = refl

-- ---- lengths
-- a number below 10 ^ k has at most k digits
in_places_short : (f k n : ℕ) → n < 10 ^ suc k → length (in_places f n) ≤ suc k
unfolding in_places
in_places_short zero k n h = omega arith
in_places_short (suc f) zero n h =
    if_ind (λ (t : List ℕ). length t ≤ 1) (ltb n 10) _ _ (λ _. omega arith) (λ t. absurd (omega (arith, nltb→le n 10 t)))
in_places_short (suc f) (suc k) n h = if_ind (λ (t : List ℕ). length t ≤ suc (suc k)) (ltb n 10) _ _ (λ _. omega arith)
    (λ _. let p = pow-suc 10 (suc k) in omega (
      arith,
      in_places_short f k (n / 10) (omega arith),
      length-append (in_places f (n / 10)) ((first_digit + n % 10) ∷ []),
    ))

pub decimal_short : (k n : ℕ) → n < 10 ^ suc k → length (decimal n) ≤ suc k
unfolding decimal
decimal_short k n h = in_places_short (suc n) k n h

signed_short : (k : ℕ) (z : ℤ) → nat_abs z < 10 ^ suc k → length (signed z) ≤ suc (suc k)
unfolding signed
signed_short k (pos n) h = omega (arith, decimal_short k n h)
signed_short k (negsuc n) h = omega (arith, decimal_short k (suc n) h)

status_short : (s : Status) → length (status_letters s) ≤ 3
status_short s =
    omega (
      arith,
      length-append (shown s.x 88) (shown s.o 79 ++ shown s.draw 68),
      length-append (shown s.o 79) (shown s.draw 68),
      one s.x 88,
      one s.o 79,
      one s.draw 68,
    )
  where
    one : (b : Bool) (c : ℕ) → length (shown b c) ≤ 1
    one true c = omega arith
    one false c = omega arith

letters_short : (ms : List ℕ) → length (move_letters ms) ≤ 2 * length ms
unfolding move_letters
letters_short [] = omega arith
letters_short (m ∷ ms) =
    if_ind (λ (t : List ℕ). length t ≤ 2 * suc (length ms)) (eqb m no_move) _ _ (λ _. omega arith)
    (λ _. omega (arith, letters_short ms))

joined_short : (ms : List ℕ) → length ms ≤ 81 → length (moves_text ms) ≤ 162
joined_short ms h = go (move_letters ms) (omega (arith, letters_short ms))
  where
    go : (t : List ℕ) → length t ≤ 162 → length (or_minus t) ≤ 162
    go [] k = omega arith
    go (c ∷ cs) k = k

spaced_length : (t u : List ℕ) (us : List (List ℕ)) → length (spaced (t ∷ u ∷ us)) ≡ length t + suc (length (spaced (u ∷ us)))
spaced_length t u us = length-append t (space ∷ spaced (u ∷ us))

-- the longest answer
pub answer_short : (s : Status) (legal depth : ℕ) (score : ℤ) (count : ℕ) (line : List ℕ) → legal < 10 ^ 2 → depth < 10 ^ 2 →
    nat_abs score < 10 ^ 19 → count < 10 ^ 7 → length line ≤ 81 →
    length (answer_text s legal depth score count line) ≤ 201
answer_short s legal depth score count line a b c d e =
    omega (
      arith,
      status_short s,
      decimal_short 1 legal a,
      decimal_short 1 depth b,
      signed_short 18 score c,
      decimal_short 6 count d,
      joined_short line e,
      spaced_length (status_letters s) (decimal legal) (decimal depth ∷ signed score ∷ decimal count ∷ moves_text line ∷ []),
      spaced_length (decimal legal) (decimal depth) (signed score ∷ decimal count ∷ moves_text line ∷ []),
      spaced_length (decimal depth) (signed score) (decimal count ∷ moves_text line ∷ []),
      spaced_length (signed score) (decimal count) (moves_text line ∷ []),
      spaced_length (decimal count) (moves_text line) [],
    )
