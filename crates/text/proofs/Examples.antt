-- Worked examples, computed, with some of the Rust's answers.
use Rattle.std.specs.Prelude.{Option, None, Some}
use mathlib.Core.Path.{◌≡◌, refl, sym, ap, ◌∙◌}
use mathlib.Core.List.{List, [], ◌∷◌, ◌++◌}
use Prim.Native.Nat.{ℕ}
use Prim.Native.String.{String}
use lib.ListN.{length, take, replicate}
use Rattle.base.specs.Branch.{when◌then◌else◌}
use Rattle.base.specs.Lists.{any}
use Rattle.rules.specs.declared.Player.TheVariants.{X, O}
use Rattle.rules.specs.declared.GameState.{GameState}
use Rattle.rules.specs.declared.GameState.TheVariants.{InPlay, Drawn, Won}
use Rattle.rules.specs.Board.{has_line, result_of}
use Rattle.rules.specs.Position.{Position, start}
use Rattle.rules.specs.Hash.{cell_key, board_key, next_board_key, xors, cells_hash, board_hash, hash}
use Rattle.text.specs.Bytes.{semicolon, quoted}
use Rattle.text.specs.Reading.{Reading, reads, refuses, side_of, overall_mark, cell_mark, sections, first_bad, last_at, fault_at}
use Rattle.text.specs.Reading.{first_fault, cell_in, state_in, said, read_cells, read_overall, read}
use Rattle.text.specs.Writing.{overall_byte, board_text, joined_by, text_of}
use Rattle.text.specs.MoveText.{reads_move, bad_length, bad_character, read_letters, read_move, move_text}
use Rattle.text.proofs.WritingRoundTrip.{start_is_written, read_after_write}

-- ---- what the facts compute with
-- what is told of the position that is read, if any
abbrev pub told : {A : Type 0} → (Position → A) → Reading → Option A
told f (reads p) = Some (f p)
told f (refuses n o l) = None

-- the position written again, its game's state, its next board and its hash
pub record Seen : Type 0 where
  pub text : List ℕ
  pub state : GameState
  pub next_board : Option ℕ
  pub hash : ℕ

-- what is compared with the Rust
abbrev pub seen : Reading → Option Seen
seen r = told (λ p. record { text = text_of p; state = p.state; next_board = p.next_board; hash = hash p }) r

reading : Unit {0}
unfolding quoted read sections read_overall first_bad read_cells first_fault fault_at side_of overall_mark cell_mark said last_at cell_in
    state_in result_of has_line any when◌then◌else◌
reading = tt

seeing : Unit {0}
unfolding text_of joined_by board_text overall_byte hash xors board_hash cells_hash cell_key board_key next_board_key reading
seeing = tt

-- ---- the empty board
-- the cells of nine empty boards
unfoldable pub e9 : List ℕ
e9 = quoted "........./........./........./........./........./........./........./........./........."

-- the text of 101 bytes
unfoldable pub empty_text : List ℕ
empty_text = quoted "X;.........;" ++ e9

-- it is what the empty board is written as
pub start_text : text_of start ≡ empty_text
unfolding empty_text e9 seeing
start_text = refl

-- and what reads as the empty board
pub empty_text_reads : read empty_text ≡ reads start
empty_text_reads = ap read (sym start_text) ∙ read_after_write start start_is_written

-- its hash is 0
pub empty_text_is_seen : seen (read empty_text) ≡ Some (record { text = empty_text; state = InPlay; next_board = None; hash = 0 })
unfolding empty_text e9 seeing
empty_text_is_seen = refl

-- its first 100 bytes lack a cell, and so does its head alone
pub short_texts : (length empty_text ≡ 101) × (read (take 100 empty_text) ≡ refuses 6 12 88) ×
    (read (quoted "X;.........;") ≡ refuses 6 12 0) × (read [] ≡ refuses 2 0 0)
unfolding empty_text e9 reading
short_texts = (refl, refl, refl, refl)

-- a tail up to 256 bytes passes, 257 bytes do not, and a third `;` is 2
pub tails :
    (told text_of (read (empty_text ++ replicate 155 0xff)) ≡ Some empty_text)
    × (read (empty_text ++ replicate 156 0xff) ≡ refuses 1 0 0)
    × (read (empty_text ++ (semicolon ∷ [])) ≡ refuses 2 0 102)
unfolding empty_text e9 seeing
tails = (refl, refl, refl)

-- ---- the refusals, each of a text that the next tests would refuse too
pub refusals :
    (read (quoted "Y;;") ≡ refuses 3 0 1)
    × (read (quoted ";x;") ≡ refuses 3 0 0)
    × (read (quoted "XX;x;") ≡ refuses 3 0 2)
    × (read (quoted "X;......xx;x") ≡ refuses 4 2 8)
    × (read (quoted "X;xxxxxxxxxx;x") ≡ refuses 4 2 10)
    × (read (quoted "X;...x.....;x") ≡ refuses 5 5 1)
    × (read (quoted "X;........x;x") ≡ refuses 5 10 1)
    × (read (quoted "X;." ++ (0xc3 ∷ 0xa9 ∷ quoted "......;" ++ e9)) ≡ refuses 5 3 1)  -- here the Rust panics
unfolding e9 reading
refusals = (refl, refl, refl, refl, refl, refl, refl, refl)

-- the cells are looked at from left to right: a `/` replaced or lacking is 5, a bad cell 3
pub cell_refusals :
    (read (quoted "X;.........;.........|x") ≡ refuses 5 12 11)
    × (read (quoted "X;.........;..........") ≡ refuses 5 12 10)
    × (read (quoted "X;.........;.........") ≡ refuses 5 12 9)
    × (read (quoted "X;.........;x........|") ≡ refuses 3 12 10)
    × (read (quoted "X;.........;......../") ≡ refuses 3 12 9)
    × (read (quoted "X;.........;........./") ≡ refuses 6 12 10)
unfolding reading
cell_refusals = (refl, refl, refl, refl, refl, refl)

-- ---- with more than one `@` the next board is where the last stands, and each of them is a board in play
pub several_due :
    (told (λ p. p.next_board) (read (quoted "O;@X@.#@.O.;" ++ e9)) ≡ Some (Some 5))
    × (told text_of (read (quoted "O;@X@.#@.O.;" ++ e9)) ≡ Some (quoted "O;.X..#@.O.;" ++ e9))
unfolding e9 seeing
several_due = (refl, refl)

-- ---- only the lines of the side not to move are looked at
pub trusted_marks :
    (told (λ p. p.state) (read (quoted "X;XXX......;" ++ e9)) ≡ Some InPlay)
    × (told (λ p. p.state) (read (quoted "O;XXX......;" ++ e9)) ≡ Some (Won X))
unfolding e9 reading
trusted_marks = (refl, refl)

-- ---- the Rust's answers
-- refusals with their places
pub rust_refusals :
    (read (quoted ";;;") ≡ refuses 2 0 3)
    × (read (quoted "X;...X@..O.") ≡ refuses 2 0 11)
    × (read (quoted "O;.@.......;.O......./.XOX...XX/XO......./.O......./........X/.X......X/.OX...X../.....O.../....OOO..;") ≡ refuses 2
    0 102)
    × (read (quoted ";;") ≡ refuses 3 0 0)
    × (read (0xc3 ∷ 0xa9 ∷ (quoted ";X." ++ (0xc3 ∷ 0xa9 ∷ quoted ".X..XX;........./........./......."))) ≡ refuses 3 0 2)
    × (read (quoted "O;...@.....;........./.O...@..X./....O....") ≡ refuses 3 12 30)
    × (read (quoted "X;@........;......../........./X......../........./" ++ (0xc3 ∷ 0xa9 ∷ [])) ≡ refuses 3 12 41)
    × (read (quoted "O;.XO.X.OXX;.O.." ++
    (0xc3 ∷ 0xa9 ∷ quoted ".X../.OX.X.X../.....XOOO/........./XXXo...../.OX..OO../..O.O.O.X/..O.O.XXX/O...O.XXX")) ≡ refuses 3 12 90)
    × (read (quoted "X;;") ≡ refuses 4 2 0)
    × (read (quoted "X;X" ++ (0xc3 ∷ 0xa9 ∷ quoted "XXXXXXX;...OO.X.O/OO....X.X/.O...X.../..X...XX./..O..O..X")) ≡ refuses 4 2 10)
    × (read (quoted "X;.X.@O.." ++ (0xe2 ∷ 0x82 ∷ 0xac ∷ quoted ".;XO..OX.../..OXXX.../..XOX..O")) ≡ refuses 4 2 11)
    × (read (quoted "O;O.X9X@..X;O") ≡ refuses 5 5 1)
    × (read (quoted "X;X.@.... .;..X.X.X.X/..X.O...X/OX..OX.../.O.XOX.../..OOXX.XO/OO.X.O.OO/..O....../O....X..O/..OOXX.X.") ≡ refuses 5
    9 1)
    × (read (quoted "O;...X@.X..;XO.O.OO.O/X.X.X..X./..OOX.O..") ≡ refuses 5 12 29)
    × (read (quoted "O;OXOXO.XXX;......OOO..X..X.OX..O..O..O..X.X.X...O..O..O.XO.O....OO..XXX.O.XXX........X.X.X..") ≡ refuses 5 12 81)
    × (read (quoted "X;...@.....;........./........./......O../................../...O...../.....X..O/........./..X...X..") ≡ refuses 5
    12 88)
    × (read (quoted "X;.OX.X..OO;.X.OO...X/") ≡ refuses 6 12 10)
    × (read (quoted "X;.......@.;..O....../........./.....O.X./X......../.......O./...O...X./....X..../..X..XOO./") ≡ refuses 6 12 80)
unfolding reading
rust_refusals = (refl, refl, refl, refl, refl, refl, refl, refl, refl, refl, refl, refl, refl, refl, refl, refl, refl, refl)

-- a text reads, with what the Rust then shows
abbrev Rust : List ℕ → String → GameState → Option ℕ → ℕ → Type 0
Rust t again g d h = seen (read t) ≡ Some (record { text = quoted again; state = g; next_board = d; hash = h })

-- positions: won, drawn though X has every line, with a tail, with several `@`
pub rust_readings :
    (Rust (quoted "O;.@.......;.OO....../XX.O...X./.OX....../......X../........./........./XX....O.O/.O......./......X..")
    "O;.@.......;.OO....../XX.O...X./.OX....../......X../........./........./XX....O.O/.O......./......X.."
    InPlay (Some 1) 16275768051207996528)
    × (Rust (quoted "X;OX.OOOX@X;OOOX...../.O.XXX.../.....O..X/......OOO/XOX.O.OO./XO..O..O./.X..X..X./.X..XX.O./X..X..X.O")
    "X;OX.OOOX@X;OOOX...../.O.XXX.../.....O..X/......OOO/XOX.O.OO./XO..O..O./.X..X..X./.X..XX.O./X..X..X.O"
    (Won O) (Some 7) 7471298720362326179)
    × (Rust (quoted "X;XXXXXXXXX;.......OO/......X../O......../..X....../.X......X/...O.O.O./XX......./OOO..X.../..O......")
    "X;XXXXXXXXX;.......OO/......X../O......../..X....../.X......X/...O.O.O./XX......./OOO..X.../..O......" Drawn None 7042103740342865050)
    × (Rust (quoted "X;OO.OO..OO;..O.X...O/O..XX..X./X......../XO......./........./.....XO../.O......./........./.X.......tail")
    "X;OO.OO..OO;..O.X...O/O..XX..X./X......../XO......./........./.....XO../.O......./........./.X......."
    (Won O) None 6599334585561191219)
    × (Rust (quoted "O;X#XOXOOXO;OXXXOOXXX/XOXOOXOXO/OOXOXOX.O/OOOX.X.OX/XX..O.XXX/O...OXO.O/XXOOOXOOX/...XXX.../OXXOOOXOX" ++
    (0xc3 ∷ 0xa9 ∷ []))
    "O;X#XOXOOXO;OXXXOOXXX/XOXOOXOXO/OOXOXOX.O/OOOX.X.OX/XX..O.XXX/O...OXO.O/XXOOOXOOX/...XXX.../OXXOOOXOX" Drawn None 8260499521574549790)
    × (Rust (quoted "X;@@@.@@.@.;.O..X..../...XO..O./..X....../.....XO../OX.X..X.O/....OXXXX/X.OOO.X.O/.....O..O/.X.......")
    "X;.......@.;.O..X..../...XO..O./..X....../.....XO../OX.X..X.O/....OXXXX/X.OOO.X.O/.....O..O/.X......."
    InPlay (Some 7) 8000145076095137924)
unfolding seeing
rust_readings = (refl, refl, refl, refl, refl, refl)

-- ---- moves
pub move_examples :
    (read_move (quoted "aa") ≡ reads_move 0x00)
    × (read_move (quoted "ii") ≡ reads_move 0x88)
    × (read_move (quoted "eh") ≡ reads_move 0x47)
    × (read_move (quoted "ij") ≡ bad_character 0x6a)
    × (read_move (quoted "`j") ≡ bad_character 0x60)
    × (read_move (0xc3 ∷ 0xa9 ∷ []) ≡ bad_character 0xc3)
    × (read_move (quoted "a") ≡ bad_length)
    × (read_move (quoted "aaa") ≡ bad_length)
    × (move_text 0x47 ≡ quoted "eh")
    × (move_text 0xff ≡ quoted "pp")
unfolding quoted read_letters when◌then◌else◌
move_examples = (refl, refl, refl, refl, refl, refl, refl, refl, refl, refl)
