-- A text of bytes, read as a position, or refused with a number and the place of the part that is at fault.
use Rattle.std.specs.Prelude.{Bool, true, false, not, ◌&&◌, ◌||◌, List, [], ◌∷◌, ℕ, suc, ◌+◌, ◌*◌, ◌%◌, eqb, ltb, length, get_or, Option}
use Rattle.std.specs.Prelude.{None, Some}
use Rattle.rules.specs.declared.Player.{Player}
use Rattle.rules.specs.declared.Player.TheVariants.{X, O}
use Rattle.rules.specs.declared.CellState.{CellState}
use Rattle.rules.specs.declared.CellState.TheVariants.{Empty, Played}
use Rattle.rules.specs.declared.GameState.{GameState}
use Rattle.rules.specs.declared.GameState.TheVariants.{InPlay, Drawn, Won}
use Rattle.base.specs.Branch.{when◌then◌else◌}
use Rattle.base.specs.Lists.{from}
use Rattle.rules.specs.Board.{other, in_play, won_by, result_of}
use Rattle.rules.specs.Position.{Position}
use Rattle.text.specs.Bytes.{semicolon, slash, dot, hash_mark, at_mark, letter}

pub data Reading : Type 0 where
  reads : Position → Reading
  -- number, offset and length
  refuses : ℕ → ℕ → ℕ → Reading

-- the number of a refused text, 0 where it reads
abbrev pub text_refusal : Reading → ℕ
text_refusal (reads p) = 0
text_refusal (refuses n offset size) = n

-- ---- marks
-- a letter, as the side that it names
unfoldable pub side_of : ℕ → Option Player
side_of c =
    when eqb c (letter X) then (λ _. Some X) else
    λ _. when eqb c (letter O) then (λ _. Some O) else λ _. None

abbrev pub won_mark : Option Player → Option GameState
won_mark None = None
won_mark (Some w) = Some (Won w)

-- an overall mark: in play for `.` and `@`, `#` drawn, a letter for the side that has won
unfoldable pub overall_mark : ℕ → Option GameState
overall_mark c =
    when eqb c dot || eqb c at_mark then (λ _. Some InPlay) else
    λ _. when eqb c hash_mark then (λ _. Some Drawn) else λ _. won_mark (side_of c)

abbrev pub played_mark : Option Player → Option CellState
played_mark None = None
played_mark (Some w) = Some (Played w)

unfoldable pub cell_mark : ℕ → Option CellState
cell_mark c = when eqb c dot then (λ _. Some Empty) else λ _. played_mark (side_of c)

abbrev pub known : {A : Type 0} → Option A → Bool
known None = false
known (Some a) = true

abbrev pub or_else : {A : Type 0} → Option A → A → A
or_else None d = d
or_else (Some a) d = a

-- ---- sections: what the semicolons part
abbrev pub first_longer : ℕ → List (List ℕ) → List (List ℕ)
first_longer c [] = (c ∷ []) ∷ []
first_longer c (s ∷ ss) = (c ∷ s) ∷ ss

unfoldable pub sections : List ℕ → List (List ℕ)
sections [] = [] ∷ []
sections (c ∷ cs) = when eqb c semicolon then (λ _. [] ∷ sections cs) else λ _. first_longer c (sections cs)

-- ---- the overall section: its first bad mark; and the last `@`, which is the next board
abbrev pub one_on : Option ℕ → Option ℕ
one_on None = None
one_on (Some i) = Some (suc i)

unfoldable pub first_bad : List ℕ → Option ℕ
first_bad [] = None
first_bad (c ∷ cs) = when known (overall_mark c) then (λ _. one_on (first_bad cs)) else λ _. Some 0

-- i is the number of the first mark
unfoldable pub last_at : ℕ → List ℕ → Option ℕ → Option ℕ
last_at i [] d = d
last_at i (c ∷ cs) d = last_at (suc i) cs (when eqb c at_mark then (λ _. Some i) else λ _. d)

-- ---- the cells' section: nine boards of nine cells joined by `/`, 89 bytes; what follows is ignored
-- the fault of byte i: a `/` lacking or replaced is 5, a cell that is lacking 6, a bad cell mark 3; 0 for none
unfoldable pub fault_at : List ℕ → ℕ → ℕ
fault_at cs i =
    when eqb (i % 10) 9 then (λ _. when ltb i (length cs) && eqb (get_or cs i 0) slash then (λ _. 0) else λ _. 5) else
    λ _. when not (ltb i (length cs)) then (λ _. 6) else
    λ _. when known (cell_mark (get_or cs i 0)) then (λ _. 0) else λ _. 3

unfoldable pub first_fault : List ℕ → List ℕ → ℕ
first_fault cs [] = 0
first_fault cs (i ∷ is) = let f = fault_at cs i in when eqb f 0 then (λ _. first_fault cs is) else λ _. f

-- ---- the position that three good sections say: the overall marks are taken on trust, and only the lines of the side not to move are
-- looked at
unfoldable pub cell_in : List ℕ → ℕ → ℕ → CellState
cell_in cs b c = when ltb b 9 && ltb c 9 then (λ _. or_else (cell_mark (get_or cs (10 * b + c) dot)) Empty) else λ _. Empty

unfoldable pub state_in : List ℕ → ℕ → GameState
state_in os b = when ltb b 9 then (λ _. or_else (overall_mark (get_or os b dot)) InPlay) else λ _. InPlay

unfoldable pub said : Player → List ℕ → List ℕ → Position
said w os cs =
    let v = other w in
    record {
      turn = w;
      next_board = last_at 0 os None;
      cells = cell_in cs;
      states = state_in os;
      state = result_of v (λ b. won_by v (state_in os b)) (λ b. in_play (state_in os b));
    }

-- ---- the tests, in their order
-- the cells' section begins at 12
unfoldable pub read_cells : Player → List ℕ → List ℕ → Reading
read_cells w os cs = let f = first_fault cs (from 0 89) in when eqb f 0 then (λ _. reads (said w os cs)) else λ _. refuses f 12 (length cs)

-- the overall section begins at 2
abbrev pub read_marks : Option ℕ → Player → List ℕ → List ℕ → Reading
read_marks None w os cs = read_cells w os cs
read_marks (Some i) w os cs = refuses 5 (2 + i) 1

unfoldable pub read_overall : Player → List ℕ → List ℕ → Reading
read_overall w os cs = when eqb (length os) 9 then (λ _. read_marks (first_bad os) w os cs) else λ _. refuses 4 2 (length os)

-- the side is one letter
abbrev pub lone_side : List ℕ → Option Player
lone_side [] = None
lone_side (c ∷ []) = side_of c
lone_side (c ∷ d ∷ cs) = None

abbrev pub read_side : Option Player → List ℕ → List ℕ → List ℕ → Reading
read_side None s os cs = refuses 3 0 (length s)
read_side (Some w) s os cs = read_overall w os cs

abbrev pub read_sections : List (List ℕ) → ℕ → Reading
read_sections [] n = refuses 2 0 n
read_sections (s ∷ []) n = refuses 2 0 n
read_sections (s ∷ os ∷ []) n = refuses 2 0 n
read_sections (s ∷ os ∷ cs ∷ []) n = read_side (lone_side s) s os cs
read_sections (s ∷ os ∷ cs ∷ t ∷ ts) n = refuses 2 0 n

-- over 256 bytes is 1, which has no place
unfoldable pub read : List ℕ → Reading
read text = when ltb 256 (length text) then (λ _. refuses 1 0 0) else λ _. read_sections (sections text) (length text)
