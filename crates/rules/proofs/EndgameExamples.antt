-- The Rust's answers about endgames, comparisons and counts, computed from the texts of the positions.
use Rattle.std.specs.Prelude.{Option, None, Some}
use mathlib.Core.Path.{◌≡◌, refl}
use mathlib.Core.Bool.{true, false, ◌||◌}
use mathlib.Core.List.{List, [], ◌∷◌}
use Prim.Native.Nat.{ℕ, zero, suc, ◌+◌, ◌*◌}
use Prim.Native.Char.{code}
use Prim.Native.String.{String}
use lib.Dec.{eqb}
use Rattle.base.specs.Branch.{when◌then◌else◌}
use Rattle.base.specs.Lists.{count, concat_map, total}
use Rattle.rules.specs.declared.Player.{Player}
use Rattle.rules.specs.declared.Player.TheVariants.{X, O}
use Rattle.rules.specs.declared.CellState.{CellState}
use Rattle.rules.specs.declared.CellState.TheVariants.{Empty, Played}
use Rattle.rules.specs.declared.GameState.{GameState}
use Rattle.rules.specs.declared.GameState.TheVariants.{InPlay, Drawn, Won}
use Rattle.rules.specs.Board.{other, nine, in_play, won_by, result_of}
use Rattle.rules.specs.Position.{Position}
use Rattle.rules.specs.Moves.{moves}
use Rattle.rules.specs.Compare.{bound_depth, open_boards, equivalent}
use Rattle.rules.specs.Status.{as_byte}
use Rattle.rules.specs.Endgame.{prove_attacker, forced_loss, Analysis, analysis, judge, evaluate_move}
use Rattle.rules.proofs.Examples.{playing, listing, analysing}

-- ---- a position from its text: byte 0 is the side, the marks of board b stand at 2 + b, cell c of board b at 12 + 10 b + c
unfoldable pub nth : String → ℕ → ℕ
nth String.[] i = 0
nth (String.◌∷◌ c s) zero = code c
nth (String.◌∷◌ c s) (suc i) = nth s i

unfoldable pub side_shown : ℕ → Player
side_shown k = when eqb k 0x58 then (λ _. X) else λ _. O

unfoldable pub cell_shown : ℕ → CellState
cell_shown k = when eqb k 0x2e then (λ _. Empty) else λ _. Played (side_shown k)

unfoldable pub state_shown : ℕ → GameState
state_shown k = when eqb k 0x2e || eqb k 0x40 then (λ _. InPlay) else λ _. when eqb k 0x23 then (λ _. Drawn) else λ _. Won (side_shown k)

unfoldable pub due_shown : String → List ℕ → Option ℕ
due_shown s [] = None
due_shown s (b ∷ bs) = when eqb (nth s (2 + b)) 0x40 then (λ _. Some b) else λ _. due_shown s bs

unfoldable pub shown : String → Position
shown s =
    let w = side_shown (nth s 0) in
    let states : ℕ → GameState = λ b. state_shown (nth s (2 + b)) in
    record {
      turn = w;
      next_board = due_shown s nine;
      cells = λ b c. cell_shown (nth s (12 + 10 * b + c));
      states = states;
      state = result_of (other w) (λ b. won_by (other w) (states b)) (λ b. in_play (states b));
    }

-- ---- what is compared with the Rust
-- the byte of the status, and the six counts
abbrev pub told : Analysis → List ℕ
told a = let s = a.stats in
    as_byte a.status ∷ s.attacker_critical ∷ s.defender_critical ∷ s.both_critical ∷ s.unwinnable ∷ s.prove_attacker ∷
    s.prove_defender ∷ []

-- each move, and the byte of what is said of it as a last digit
abbrev pub judged : Position → List ℕ
judged p = concat_map (λ m. (m * 16 + as_byte (evaluate_move p m).status) ∷ []) (moves p)

showing : Unit {0}
unfolding shown nth side_shown cell_shown state_shown due_shown playing
showing = tt

judging : Unit {0}
unfolding evaluate_move judge showing listing analysing
judging = tt

comparing : Unit {0}
unfolding equivalent bound_depth open_boards count total showing
comparing = tt

-- ---- endgames
-- both proofs hold: only the one for the side to move counts
unfoldable pub both_proofs : Position
both_proofs = shown "O;XO..@.XO.;X.X.X.XX./.XOO..XO./OOX.OOO.X/OX.OXXX../OXXOXX.OO/.....O.../.XXO...O./OO.XOXOX./XOX....X."

pub both_proofs_told : let p = both_proofs in
    (prove_attacker p ≡ true) × (forced_loss p ≡ true) × (told (analysis p) ≡ 2 ∷ 1 ∷ 1 ∷ 1 ∷ 0 ∷ 1 ∷ 0 ∷ []) ×
    (judged p ≡ 0x461 ∷ [])
unfolding both_proofs judging
both_proofs_told = (refl, refl, refl, refl)

-- the side to move is forced to lose
unfoldable pub lost_endgame : Position
lost_endgame = shown "O;OO..X@XX#;X.XXO.OO./.OXXXXX.X/XXOX..OX./.O.OXOOOX/.X..OXXX./OOXOXX.XO/OOO.O.OX./.X.OX..../..O...O.."

pub lost_endgame_told : (told (analysis lost_endgame) ≡ 1 ∷ 1 ∷ 1 ∷ 1 ∷ 0 ∷ 0 ∷ 1 ∷ []) ×
    (judged lost_endgame ≡ 0x561 ∷ [])
unfolding lost_endgame judging
lost_endgame_told = (refl, refl)

-- neither side can win any more
pub nobody_wins : told
    (analysis (shown "O;..#.####.;O....O.../.O..O..../.....XO.X/.X......./........./........./....X..../.....O.../.O..O....")) ≡ 4 ∷ 0 ∷
    0 ∷ 0 ∷ 2 ∷ 0 ∷ 0 ∷ []
unfolding judging
nobody_wins = refl

-- O cannot win any more; moves in X's critical board 2 are not called lost, those that send there or to a closed board are
unfoldable pub x_or_draw : Position
x_or_draw = shown "O;XX..#.OO#;X.X...X../.X.OX.OOX/O.XXX.OOX/XX.X...../........./OXO...OXO/........./OX...XX.X/.XX.OOOOO"

pub x_or_draw_told :
    (told (analysis x_or_draw) ≡ 5 ∷ 0 ∷ 1 ∷ 0 ∷ 1 ∷ 0 ∷ 0 ∷ [])
    × (judged x_or_draw ≡ 0x217 ∷ 0x257 ∷ 0x321 ∷ 0x341 ∷ 0x357 ∷ 0x361 ∷ 0x371 ∷ 0x381 ∷ 0x537 ∷ 0x541 ∷ 0x557 ∷
    [])
unfolding x_or_draw judging
x_or_draw_told = (refl, refl)

-- X cannot; the same with sides changed
unfoldable pub o_or_draw : Position
o_or_draw = shown "X;X##OO.#O.;........./.....XO.X/XXOXXXOXO/O..OO..../........./.OO.OX.X./X.OO.XOXO/..X..XO../..XOOXOX."

pub o_or_draw_told : (told (analysis o_or_draw) ≡ 6 ∷ 0 ∷ 1 ∷ 0 ∷ 1 ∷ 0 ∷ 0 ∷ []) ×
    (judged o_or_draw ≡ 0x507 ∷ 0x537 ∷ 0x567 ∷ 0x587 ∷ 0x802 ∷ 0x812 ∷ 0x887 ∷ [])
unfolding o_or_draw judging
o_or_draw_told = (refl, refl)

-- X has no critical board: no move is called lost, not even those to a closed board
unfoldable pub unthreatened : Position
unthreatened = shown "O;OO...OO@.;XX.OO...O/.X.XO..../O......../XOXXX..OO/X....O.../X.OXOX.XO/XX.O.XOO./XO......X/OO.X..X.."

pub unthreatened_told : (told (analysis unthreatened) ≡ 6 ∷ 1 ∷ 0 ∷ 0 ∷ 1 ∷ 0 ∷ 0 ∷ []) ×
    (judged unthreatened ≡ 0x727 ∷ 0x737 ∷ 0x747 ∷ 0x757 ∷ 0x767 ∷ 0x777 ∷ [])
unfolding unthreatened judging
unthreatened_told = (refl, refl)

-- ---- comparisons
-- unlike in a cell of board 1, which is open
pub unlike_cells :
    equivalent (shown "O;...O.X...;.O.O.OO.X/........./O.O....../XO.X.O..X/.O.OO..../.XOO.X..X/.XOXX..../.OO.XXOXO/.........")
    (shown "O;...O.X...;.O.O.OO.X/....X..../O.O....../XO.X.O..X/.O.OO..../.XOO.X..X/.XOXX..../.OO.XXOXO/.........") ≡ false
unfolding comparing
unlike_cells = refl

-- unlike only in the game's state, as far as is compared: O has won the first
pub unlike_states :
    equivalent (shown "X;#OO.O@OXX;O.X..O.../.O.O.X.XX/.......X./........./....OX.../OXOX.OOO./...O.XO../.X..X.X.X/.....XX.X")
    (shown "X;#O..O@OXX;O.X..O.../.O.O.X.XX/........./........./....OX.../OXOX.OOO./...O.XO../.X..X.X.X/.....XX.X") ≡ false
unfolding comparing
unlike_states = refl

-- unlike in a board that is closed in the first alone: only the second, compared with the first, differs
unfoldable pub one_closed : Position
one_closed = shown "X;#..X..OXX;..OXO...X/XOXX...OO/....X..../OXXXOOXOX/.....X.XX/OXO...XOO/O.OOX.XOX/.....X.../O.OOXOOOO"

unfoldable pub one_open : Position
one_open = shown "X;#..X..O.X;..OXO...X/XOXX...OO/....X..../OXXXOOXOX/.....X.XX/OXO...XOO/O.OOX.XOX/........./O.OOXOOOO"

pub one_sided : (equivalent one_closed one_open ≡ true) × (equivalent one_open one_closed ≡ false)
unfolding one_closed one_open comparing
one_sided = (refl, refl)

-- ---- counts: empty cells of closed boards are not in the bound
-- five boards are closed
unfoldable pub four_open : Position
four_open = shown "O;..XX@#.OX;...XOXOO./........./.X.X.O.../.X....X../XOO.X.XXO/........./XX.XXO.../O.......O/XXXOOXOOX"

-- four boards are open, and full
unfoldable pub all_full : Position
all_full = shown "O;O@X..##.O;O...O.OX./OXXOOOXXO/OOXX.O.OO/XOOXXOOXO/OOXXOOXOO/.XX....../..XX..O../XXOOOXXOX/X.XXXXOXX"

-- a finished game, with no board open
unfoldable pub none_open : Position
none_open = shown "X;OXXXOOOXX;OXOXXOXOO/XO.X.XX.O/XXX...X.O/XXXO.OOO./OOO....X./OOOXXOX../X...O.OOO/XO.OXOOXX/.X..X.XXO"

pub counts : (bound_depth four_open ≡ 19) × (open_boards four_open ≡ 4) × (bound_depth all_full ≡ 0) ×
    (open_boards all_full ≡ 4) × (bound_depth none_open ≡ 0) × (open_boards none_open ≡ 0) × (none_open.state ≡ Drawn)
unfolding four_open all_full none_open comparing
counts = (refl, refl, refl, refl, refl, refl, refl)
