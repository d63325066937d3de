-- Laws of moves as text: each of the 81 places reads back as itself, and nothing else is read.
use mathlib.Core.Path.{◌≡◌, refl, ap, ap₂, subst}
use mathlib.Core.List.{List, [], ◌∷◌}
use Prim.Native.Nat.{ℕ, ◌+◌, ◌-◌, ◌<◌, ◌≤◌}
use native.Mathlib.Omega.{arith}
use lib.Dec.{T, leb, leb→le, le→leb, T_not}
use lib.ListN.{length}
use Rattle.base.proofs.Bool.{and→, →and}
use Rattle.base.proofs.Branch.{if_ind}
use Rattle.rules.specs.Play.{move_of, board_of, cell_of}
use Rattle.text.specs.Bytes.{first_letter}
use Rattle.text.specs.MoveText.{MoveReading, reads_move, bad_length, bad_character, coordinate, read_letters, read_move, move_text}

-- ---- letters
-- c is one of the letters `a` to `i`
pub record Lettered (c : ℕ) : Type 0 where
  pub low : 0x61 ≤ c
  pub high : c ≤ 0x69

coordinate→ : (c : ℕ) → T (coordinate c) → Lettered c
coordinate→ c t = let r = and→ (leb first_letter c) _ t in record { low = leb→le _ _ r.0; high = leb→le _ _ r.1 }

→coordinate : (c : ℕ) → Lettered c → T (coordinate c)
→coordinate c l = →and (leb first_letter c) _ (le→leb _ _ l.low) (le→leb _ _ l.high)

-- the cases of two letters: both good, the first bad, or only the second
pub letters_cases {κ} : (P : MoveReading → Type κ) (b c : ℕ) →
    (Lettered b → Lettered c → P (reads_move (move_of (b - 0x61) (c - 0x61)))) → ((Lettered b → ⊥) → P (bad_character b)) →
    (Lettered b → (Lettered c → ⊥) → P (bad_character c)) →
    P (read_letters b c)
unfolding read_letters
letters_cases P b c f g h = if_ind P (coordinate b) _ _
    (λ t. if_ind P (coordinate c) _ _ (λ u. f (coordinate→ b t) (coordinate→ c u))
    (λ n. h (coordinate→ b t) (λ l. T_not (coordinate c) n (→coordinate c l))))
    (λ n. g (λ l. T_not (coordinate b) n (→coordinate b l)))

-- ---- a move, written and read
-- every move of a board and a cell below 9 reads back as itself
pub move_reads_back : (b c : ℕ) → b < 9 → c < 9 → read_move (move_text (move_of b c)) ≡ reads_move (move_of b c)
move_reads_back b c h k =
    letters_cases (λ r. r ≡ reads_move (move_of b c)) (first_letter + board_of (move_of b c)) (first_letter + cell_of (move_of b c))
    (λ _ _. ap reads_move (omega arith)) (λ n. absurd (n (omega arith))) (λ _ n. absurd (n (omega arith)))

-- m is in one of the nine cells of one of the nine boards, and t is its text
pub record MoveRead (t : List ℕ) (m : ℕ) : Type 0 where
  pub board : board_of m < 9
  pub cell : cell_of m < 9
  pub text_is : t ≡ move_text m

abbrev Says : List ℕ → MoveReading → Type 0
Says t (reads_move m) = MoveRead t m
Says t bad_length = Unit {0}
Says t (bad_character c) = Unit {0}

read_move_says : (t : List ℕ) → Says t (read_move t)
read_move_says [] = tt
read_move_says (b ∷ []) = tt
read_move_says (b ∷ c ∷ []) = letters_cases (Says (b ∷ c ∷ [])) b c
    (λ x y. record {
      board = omega arith;
      cell = omega arith;
      text_is = ap₂ (λ (i j : ℕ). i ∷ j ∷ []) (omega arith) (omega arith);
    }) (λ _. tt) (λ _ _. tt)
read_move_says (b ∷ c ∷ d ∷ cs) = tt

-- only such moves are read
pub read_move_is : (t : List ℕ) (m : ℕ) → read_move t ≡ reads_move m → MoveRead t m
read_move_is t m e = subst (Says t) e (read_move_says t)

-- any other length is refused
pub not_two_is_bad_length : (t : List ℕ) → (length t ≡ 2 → ⊥) → read_move t ≡ bad_length
not_two_is_bad_length [] n = refl
not_two_is_bad_length (b ∷ []) n = refl
not_two_is_bad_length (b ∷ c ∷ []) n = absurd (n refl)
not_two_is_bad_length (b ∷ c ∷ d ∷ cs) n = refl
