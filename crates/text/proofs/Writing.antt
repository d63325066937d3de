-- Laws of a position's text: it is byte_at at 0 to 100, which antt computes byte by byte.
use mathlib.Core.Path.{◌≡◌, refl, ap, ◌∙◌}
use mathlib.Core.List.{List, map}
use Prim.Native.Nat.{ℕ, ◌/◌, ◌%◌, ◌<◌}
use native.Mathlib.Omega.{arith}
use borrow.Author.Tests.{eq-eqb, ne_eqb}
use lib.ListN.{length, get_or}
use Rattle.base.specs.Branch.{when◌then◌else◌}
use Rattle.base.specs.Lists.{from}
use Rattle.base.proofs.ListsPlaces.{run_length, run_at}
use Rattle.rules.specs.Board.{nine}
use Rattle.rules.specs.Position.{Position}
use Rattle.text.specs.Bytes.{slash}
use Rattle.text.specs.Writing.{cell_byte, overall_byte, board_text, joined_by, text_of, cells_byte, byte_at}

-- each tenth byte is a `/`
pub slash_every_tenth : (p : Position) (k : ℕ) → k % 10 ≡ 9 → cells_byte p k ≡ slash
unfolding cells_byte when◌then◌else◌
slash_every_tenth p k e = rw (eq-eqb (k % 10) 9 e)

-- the others are cells
pub cell_elsewhere : (p : Position) (k : ℕ) → (k % 10 ≡ 9 → ⊥) → cells_byte p k ≡ cell_byte (p.cells (k / 10) (k % 10))
unfolding cells_byte when◌then◌else◌
cell_elsewhere p k n = rw (ne_eqb (k % 10) 9 n)

-- the text is those bytes
pub text_is_bytes : (p : Position) → text_of p ≡ map (byte_at p) (from 0 101)
unfolding text_of byte_at cells_byte joined_by board_text when◌then◌else◌
text_is_bytes p = refl

-- every position's text has 101 bytes
pub text_has_101_bytes : (p : Position) → length (text_of p) ≡ 101
text_has_101_bytes p = ap length (text_is_bytes p) ∙ run_length (byte_at p) 0 101

-- what stands at each place
pub text_at : (p : Position) (i : ℕ) → i < 101 → get_or (text_of p) i 0 ≡ byte_at p i
text_at p i h = ap (λ (t : List ℕ). get_or t i 0) (text_is_bytes p) ∙ run_at (byte_at p) 0 0 101 i h ∙ ap (byte_at p) (omega arith)

-- ---- its last two sections
-- the overall marks
abbrev pub marks_of : Position → List ℕ
marks_of p = map (overall_byte p) nine

-- one for each board
pub marks_at : (p : Position) (b : ℕ) → b < 9 → get_or (marks_of p) b 0 ≡ overall_byte p b
marks_at p b h = run_at (overall_byte p) 0 0 9 b h ∙ ap (overall_byte p) (omega arith)

-- the cells
abbrev pub cells_of : Position → List ℕ
cells_of p = joined_by slash (board_text p) nine

cells_are_bytes : (p : Position) → cells_of p ≡ map (cells_byte p) (from 0 89)
unfolding cells_byte joined_by board_text when◌then◌else◌
cells_are_bytes p = refl

-- they take 89 bytes
pub cells_have_89_bytes : (p : Position) → length (cells_of p) ≡ 89
cells_have_89_bytes p = ap length (cells_are_bytes p) ∙ run_length (cells_byte p) 0 89

-- what stands at each place of them
pub cells_at : (p : Position) (k : ℕ) → k < 89 → get_or (cells_of p) k 0 ≡ cells_byte p k
cells_at p k h =
    ap (λ (t : List ℕ). get_or t k 0) (cells_are_bytes p) ∙ run_at (cells_byte p) 0 0 89 k h ∙ ap (cells_byte p) (omega arith)
