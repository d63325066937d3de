-- Worked examples, computed.
use Rattle.std.specs.Prelude.{Option, None, Some}
use mathlib.Core.Path.{◌≡◌, refl}
use mathlib.Core.Bool.{Bool, true, false}
use mathlib.Core.List.{List, [], ◌∷◌, map}
use Prim.Native.Nat.{ℕ, suc, ◌+◌, ◌*◌}
use lib.ListN.{length, get_or}
use lib.IntN.{ℤ, pos, negsuc}
use Rattle.base.specs.Branch.{when◌then◌else◌}
use Rattle.base.specs.Lists.{any, all, filter, concat_map, from}
use Rattle.base.specs.Update.{update}
use Rattle.base.specs.Integers.{sum}
use Rattle.rules.specs.declared.Player.{Player}
use Rattle.rules.specs.declared.Player.TheVariants.{X, O}
use Rattle.rules.specs.declared.CellState.{CellState}
use Rattle.rules.specs.declared.CellState.TheVariants.{Empty, Played}
use Rattle.rules.specs.declared.GameState.{GameState}
use Rattle.rules.specs.declared.GameState.TheVariants.{InPlay, Drawn, Won}
use Rattle.rules.specs.declared.Weights.{Weights}
use Rattle.rules.specs.declared.Effect.{Effect}
use Rattle.rules.specs.Board.{line, has_line, result_of}
use Rattle.rules.specs.Position.{Position, start, won_boards}
use Rattle.base.specs.Checks.{all_pass, first_failed}
use Rattle.rules.specs.Play.{accepts, after, refused, play, left_by, tried, reached, no_effect, effect, last_effect}
use Rattle.rules.specs.Play.{effect_number}
use Rattle.rules.specs.Moves.{places, moves}
use Rattle.rules.specs.Sound.{sound, proper}
use Rattle.rules.specs.Keys.{x_cell_keys, o_cell_keys, drawn_keys, x_board_keys, o_board_keys, next_board_keys}
use Rattle.rules.specs.Hash.{cell_key, board_key, next_board_key, xors, cells_hash, board_hash, hash, with_turn, zobrist}
use Rattle.rules.specs.Hash.{hash_after}
use Rattle.rules.specs.Evaluation.{won, lost, default_weights, accepted_weights, Scoring, scoring_with, no_draw_winner, places_in}
use Rattle.rules.specs.Evaluation.{unless_both, board_line, board_score, overall_line, score, evaluate, evaluated}
use Rattle.rules.specs.Status.{unproven, for_player, as_byte, from_byte, merge}
use Rattle.rules.specs.Endgame.{completes, winning, critical, has_critical, suits, all_suit, lure, attack, prove_attacker, forced}
use Rattle.rules.specs.Endgame.{forced_loss, winnable, proven, narrow, combine, merged, endgame_stats, or_unproven, analysis, judge}
use Rattle.rules.specs.Endgame.{evaluate_move}

-- ---- what the facts compute with
unfoldable pub playing : Unit {0}
unfolding reached tried left_by play accepts all_pass all any first_failed after update result_of has_line when◌then◌else◌
    last_effect effect
playing = tt

unfoldable pub listing : Unit {0}
unfolding moves filter places concat_map playing
listing = tt

hashing : Unit {0}
unfolding zobrist with_turn hash xors board_hash cells_hash cell_key board_key next_board_key when◌then◌else◌
hashing = tt

valuing : Unit {0}
unfolding evaluate score board_score sum places_in unless_both board_line overall_line when◌then◌else◌
valuing = tt

unfoldable pub analysing : Unit {0}
unfolding analysis or_unproven endgame_stats merged combine narrow proven merge from_byte prove_attacker attack forced_loss forced
    has_critical critical completes winning lure suits all_suit winnable sound playing
analysing = tt

-- ---- positions from lists: boards in play and empty cells where a list ends
unfoldable pub position : Player → Option ℕ → List GameState → List (List CellState) → Position
position w d states cells =
    record {
      turn = w;
      next_board = d;
      cells = λ b c. get_or (get_or cells b []) c Empty;
      states = λ b. get_or states b InPlay;
      state = InPlay;
    }

abbrev x : CellState
x = Played X

abbrev o : CellState
o = Played O

abbrev e : CellState
e = Empty

-- no draw winner, and the default weights
abbrev pub by_default : Scoring
by_default = no_draw_winner default_weights

-- ---- the empty board
pub start_moves : length (moves start) ≡ 81
unfolding listing
start_moves = refl

pub start_hash : (hash start ≡ 0) × (zobrist start ≡ 5407203028010692663)
unfolding hashing
start_hash = (refl, refl)

pub start_status : as_byte (analysis start).status ≡ 7
unfolding analysing
start_status = refl

-- after `ee`
pub centre_value : evaluate by_default (tried start 0x44) ≡ negsuc 15
unfolding playing valuing
centre_value = refl

-- ---- X;XX@......; and XXX....../XXX....../XX......., the other boards empty
abbrev c9 : List (List CellState)
c9 = (x ∷ x ∷ x ∷ []) ∷ (x ∷ x ∷ x ∷ []) ∷ (x ∷ x ∷ []) ∷ []

unfoldable pub second : Position
second = position X (Some 2) (Won X ∷ Won X ∷ []) c9

pub second_is_sound : (sound second ≡ true) × (proper second ≡ true) × (length (moves second) ≡ 7)
unfolding second position sound proper listing
second_is_sound = (refl, refl, refl)

pub second_hash : (hash second ≡ 8575463752168577723) × (zobrist second ≡ 5698740226484268468)
unfolding second position hashing
second_hash = (refl, refl)

-- X alone is left
pub second_analysis : (as_byte (analysis second).status ≡ 1) × (analysis second ≡ record {
  refusal = 0;
  status = for_player X;
  stats =
      record { attacker_critical = 1; defender_critical = 0; both_critical = 0; unwinnable = 0; prove_attacker = 1; prove_defender = 0 };
})
unfolding second position analysing
second_analysis = (refl, refl)

-- `cc` wins the game, and no move is left
unfoldable pub over : Position
over = tried second 0x22

-- the hash kept by that move, which closes a board
pub over_hash : hash_after second 2 2 (hash second) ≡ hash over
unfolding over second position playing hashing hash_after
over_hash = refl

pub over_is_won : (over.state ≡ Won X) × (moves over ≡ []) × (evaluate by_default over ≡ lost)
unfolding over second position listing valuing
over_is_won = (refl, refl, refl)

-- ---- the refusals, each of a move that the next number would refuse too
-- after `cd` and `de` board 4 is due, and cell 4 of board 3 is taken
unfoldable pub later : Position
later = reached second (0x23 ∷ 0x34 ∷ [])

pub refusals :
    (play over 0x90 ≡ refused 9)  -- no such board, and the game is over
    × (play over 0x09 ≡ refused 9)  -- no such cell
    × (play over 0x00 ≡ refused 10)  -- the game is over, and the board closed
    × (play second 0x03 ≡ refused 11)  -- the board is closed, and another is due
    × (play later 0x34 ≡ refused 12)  -- another board is due, and the cell taken
    × (play second 0x20 ≡ refused 13)
unfolding over later second position playing
refusals = (refl, refl, refl, refl, refl, refl)

-- ---- a move that draws a board, by the last cell, and sends to that board: it is neither side's, and the choice is free
unfoldable pub last_cell : Position
last_cell =
    position X (Some 8) []
    ([] ∷ [] ∷ [] ∷ [] ∷ [] ∷ [] ∷ [] ∷ [] ∷ (x ∷ o ∷ x ∷ x ∷ o ∷ o ∷ o ∷ x ∷ e ∷ []) ∷ [])

pub drawn_board : let q = tried last_cell 0x88 in
    (q.states 8 ≡ Drawn) × (won_boards q X 8 ≡ false) × (won_boards q O 8 ≡ false) × (q.next_board ≡ None) ×
    (q.state ≡ InPlay)
unfolding last_cell position playing
drawn_board = (refl, refl, refl, refl, refl)

-- only the mover's lines are looked at: O's line stays unseen, and the board in play
unfoldable pub unseen : Position
unseen = position X None [] ((o ∷ o ∷ o ∷ []) ∷ [])

pub unseen_line : (tried unseen 0x08).states 0 ≡ InPlay
unfolding unseen position playing
unseen_line = refl

-- an unfinished position with a line in a board in play, or with no empty cell in one, is unsound
unfoldable pub full_row : List CellState
full_row = x ∷ o ∷ x ∷ x ∷ o ∷ o ∷ o ∷ x ∷ x ∷ []

pub unsound_positions :
    (sound unseen ≡ false)
    × (sound (position X None [] (full_row ∷ [])) ≡ false)
    × (sound (position X None (Drawn ∷ []) (full_row ∷ [])) ≡ true)
unfolding unseen full_row position sound playing
unsound_positions = (refl, refl, refl)

-- ---- a whole game of 40 moves that ends in a draw, with the Rust's hash
unfoldable pub drawn_game_moves : List ℕ
drawn_game_moves = (
    0x62 ∷ 0x21 ∷ 0x18 ∷ 0x84 ∷ 0x41 ∷ 0x13 ∷ 0x35 ∷ 0x55 ∷ 0x58 ∷ 0x87 ∷ 0x75 ∷ 0x53 ∷ 0x30 ∷ 0x04 ∷ 0x43 ∷
    0x34 ∷ 0x47 ∷ 0x74 ∷ 0x44 ∷ 0x54 ∷
    0x33 ∷ 0x32 ∷ 0x20 ∷ 0x08 ∷ 0x86 ∷ 0x64 ∷ 0x36 ∷ 0x68 ∷ 0x80 ∷ 0x00 ∷ 0x83 ∷ 0x60 ∷ 0x72 ∷ 0x22 ∷ 0x24 ∷
    0x77 ∷ 0x78 ∷ 0x10 ∷ 0x28 ∷ 0x16 ∷ [])

unfoldable pub drawn_game : Position
drawn_game = reached start drawn_game_moves

pub drawn_game_is : (drawn_game.state ≡ Drawn) × (hash drawn_game ≡ 10475654663856873763) ×
    (zobrist drawn_game ≡ 15738742503763087636)
unfolding drawn_game drawn_game_moves playing hashing
drawn_game_is = (refl, refl, refl)

-- X is to move: nothing, or as won or lost by the draw winner
pub drawn_game_value : (evaluate by_default drawn_game ≡ pos 0) × (evaluate (scoring_with (Some X) default_weights) drawn_game ≡ won) ×
    (evaluate (scoring_with (Some O) default_weights) drawn_game ≡ lost)
unfolding drawn_game drawn_game_moves playing valuing
drawn_game_value = (refl, refl, refl)

-- ---- what a move did to its board
abbrev did : GameState → Bool → Effect
did board free = record { board = board; free_choice = free }

-- w has boards 0 and 1, and may win board 2, and with it the game, by its cell 0 or by its cell 8
unfoldable pub two_ways : Player → Position
two_ways w = let own = Played w in position w None (Won w ∷ Won w ∷ []) ([] ∷ [] ∷ (e ∷ own ∷ own ∷ e ∷ e ∷ own ∷ []) ∷ [])

-- the state of the board played in, and not of the one that the cell names; at the game's end too the choice is free exactly if that one
-- is closed
abbrev effects_of : (w : Player) → Type 0
effects_of w = let p = two_ways w in
    (effect p 0x23 ≡ did InPlay false) × (effect p 0x60 ≡ did InPlay true) ×
    (effect p 0x20 ≡ did (Won w) true) × (effect p 0x28 ≡ did (Won w) false) × ((tried p 0x28).state ≡ Won w)

pub winning_effects : effects_of X × effects_of O
unfolding two_ways position playing
winning_effects = ((refl, refl, refl, refl, refl), (refl, refl, refl, refl, refl))

-- the board that is won is the one that is named
unfoldable pub own_named : Player → Position
own_named w = position w None [] ([] ∷ [] ∷ (Played w ∷ Played w ∷ []) ∷ [])

pub own_board_named : (effect second 0x22 ≡ did (Won X) true) × (effect (own_named X) 0x22 ≡ did (Won X) true) ×
    (effect (own_named O) 0x22 ≡ did (Won O) true)
unfolding second own_named position playing
own_board_named = (refl, refl, refl)

-- a board is drawn by either side: the one that is named, or another; and the last move of a drawn game, which wins its board
unfoldable pub one_left : List CellState
one_left = x ∷ o ∷ x ∷ x ∷ o ∷ o ∷ o ∷ x ∷ e ∷ []

unfoldable pub last_cell_of : Player → Position
last_cell_of w = position w (Some 8) [] ([] ∷ [] ∷ [] ∷ [] ∷ [] ∷ [] ∷ [] ∷ [] ∷ one_left ∷ [])

unfoldable pub beside_named : Player → Position
beside_named w = position w None [] ([] ∷ [] ∷ [] ∷ [] ∷ [] ∷ [] ∷ [] ∷ one_left ∷ [])

pub drawing_effects :
    (effect (last_cell_of X) 0x88 ≡ did Drawn true) × (effect (last_cell_of O) 0x88 ≡ did Drawn true) ×
    (effect (beside_named X) 0x78 ≡ did Drawn false) × (effect (beside_named O) 0x78 ≡ did Drawn false) ×
    (last_effect no_effect start drawn_game_moves ≡ did (Won O) true)
unfolding last_cell_of beside_named one_left position drawn_game_moves playing
drawing_effects = (refl, refl, refl, refl, refl)

-- 9 to 13, in closed boards and with a free choice too
pub refused_effects :
    (effect over 0x90 ≡ did InPlay false) × (effect over 0x22 ≡ did InPlay false) × (effect second 0x03 ≡ did InPlay false) ×
    (effect later 0x34 ≡ did InPlay false) × (effect second 0x20 ≡ did InPlay false) × (effect (two_ways X) 0x21 ≡ did InPlay false)
unfolding over later second two_ways position playing
refused_effects = (refl, refl, refl, refl, refl, refl)

-- of no moves what is given for them, of several the last one's, also if that is refused
pub last_effects : (last_effect (did Drawn true) start [] ≡ did Drawn true) ×
    (last_effect no_effect (two_ways X) (0x20 ∷ 0x33 ∷ []) ≡ did InPlay false)
unfolding two_ways position playing
last_effects = (refl, refl)

pub effect_numbers :
    map effect_number (did InPlay false ∷ did Drawn false ∷ did (Won X) false ∷ did (Won O) false ∷
    did InPlay true ∷ did Drawn true ∷ did (Won X) true ∷ did (Won O) true ∷ []) ≡ from 0 8
effect_numbers = refl

-- ---- the keys, each by its place times its number, as they stand in the Rust text
unfoldable pub weighed : ℕ → List ℕ → ℕ
weighed i [] = 0
weighed i (k ∷ ks) = i * k + weighed (suc i) ks

pub keys_are : (weighed 1 x_cell_keys ≡ 32058457650697761632088) × (weighed 1 o_cell_keys ≡ 31175264090485458965237) ×
    (weighed 1 drawn_keys ≡ 489363686111434220960) ×
    (weighed 1 x_board_keys ≡ 435448663095389928648) × (weighed 1 o_board_keys ≡ 327614487108354100565) ×
    (weighed 1 next_board_keys ≡ 375033712546283715090)
unfolding weighed
keys_are = (refl, refl, refl, refl, refl, refl)

-- ---- values
-- three of one side in a board's line give nothing: 3 columns and 2 diagonals of 1, through a corner board's 3 lines
unfoldable pub three_in_line : Position
three_in_line = position X None [] ((x ∷ x ∷ x ∷ []) ∷ [])

pub three_in_line_value : evaluate by_default three_in_line ≡ pos 15
unfolding three_in_line position valuing
three_in_line_value = refl

-- board 1 gives 20 in each of its two lines, also in that with a drawn board
unfoldable pub beside_drawn : Position
beside_drawn = position X None (Drawn ∷ Won X ∷ []) []

pub beside_drawn_value : evaluate by_default beside_drawn ≡ pos 40
unfolding beside_drawn position valuing
beside_drawn_value = refl

-- an overall line with both sides in it gives nothing, not even what its third board scores: X's 2 × 20 and O's 20 in other lines, and 4
-- in two of board 2's three lines
unfoldable pub both_sides : Position
both_sides = position X None (Won X ∷ Won O ∷ []) ([] ∷ [] ∷ (e ∷ e ∷ e ∷ e ∷ x ∷ []) ∷ [])

pub both_sides_value : let p =
    both_sides in (board_score default_weights p 2 ≡ pos 4) ×
    (overall_line default_weights (won_boards p X) (won_boards p O) (board_score default_weights p) (line 0 1 2) ≡ pos 0) ×
    (evaluate by_default p ≡ pos 28)
unfolding both_sides position valuing
both_sides_value = (refl, refl, refl)

-- three boards of one side in an overall line of an unfinished game give 60, and 20 in five other lines
unfoldable pub three_boards : Position
three_boards = position X None (Won X ∷ Won X ∷ Won X ∷ []) []

pub three_boards_value : let p =
    three_boards in (overall_line default_weights (won_boards p X) (won_boards p O) (board_score default_weights p) (line 0 1 2) ≡ pos 60) ×
    (evaluate by_default p ≡ pos 160)
unfolding three_boards position valuing
three_boards_value = (refl, refl)

-- ---- other weights
abbrev weights_of : ℕ → ℕ → ℕ → Weights
weights_of a b w = record { one = a; two = b; board = w }

abbrev pub by_others : Scoring
by_others = no_draw_winner (weights_of 5 70 900)

-- w's cells 0 and 1 of board 4 give one line of two places and three of one, in four overall lines, and w's board 0 counts in three
unfoldable pub two_and_a_board : Player → Player → Position
two_and_a_board turn w = position turn None (Won w ∷ []) ([] ∷ [] ∷ [] ∷ [] ∷ (Played w ∷ Played w ∷ []) ∷ [])

pub other_weights : let value : Weights → ℤ = λ w. evaluate (no_draw_winner w) (two_and_a_board X X) in
    (value (weights_of 5 70 900) ≡ pos 3040) × (value (weights_of 1000 0 0) ≡ pos 12000) × (value (weights_of 0 1000 0) ≡ pos 4000) ×
    (value (weights_of 0 0 1000) ≡ pos 3000)
unfolding two_and_a_board position valuing
other_weights = (refl, refl, refl, refl)

-- the same for O, and as the other side sees it
pub other_sides : (evaluate by_others (two_and_a_board O X) ≡ negsuc 3039) × (evaluate by_others (two_and_a_board X O) ≡ negsuc 3039) ×
    (evaluate by_others (two_and_a_board O O) ≡ pos 3040)
unfolding two_and_a_board position valuing
other_sides = (refl, refl, refl)

-- three in a line give nothing, a drawn board is nobody's, and a line with both sides gives nothing
pub other_positions : (evaluate by_others three_in_line ≡ pos 75) × (evaluate by_others beside_drawn ≡ pos 1800) ×
    (evaluate by_others both_sides ≡ pos 940) × (evaluate by_others three_boards ≡ pos 7200)
unfolding three_in_line beside_drawn both_sides three_boards position valuing
other_positions = (refl, refl, refl, refl)

-- 1,000 is accepted and 1,001 is not, of a finished game too
pub refused_weights : let number : Weights → ℕ = λ w. (evaluated (no_draw_winner w) start).refusal in
    (evaluated (no_draw_winner (weights_of 1000 1000 1000)) over ≡ record { refusal = 0; value = lost }) ×
    (evaluated (no_draw_winner (weights_of 1 3 1001)) over ≡ record { refusal = 20; value = pos 0 }) ×
    (number (weights_of 0 0 0) ≡ 0) × (number (weights_of 1001 3 20) ≡ 20) × (number (weights_of 1 1001 20) ≡ 20)
unfolding over second position playing valuing accepted_weights evaluated
refused_weights = (refl, refl, refl, refl, refl)

-- ---- the endgame
-- X wins by board 2, but O is sent there and can take the cell that X needs: no loss is said
unfoldable pub blockable : Position
blockable = position O (Some 2) (Won X ∷ Won X ∷ []) ([] ∷ [] ∷ (x ∷ x ∷ e ∷ o ∷ o ∷ x ∷ x ∷ o ∷ o ∷ []) ∷ [])

pub blockable_status : (has_critical blockable X ≡ true) × (as_byte (analysis blockable).status ≡ 7)
unfolding blockable position analysing
blockable_status = (refl, refl)

-- each side wins by a board of its own, and O is to move
unfoldable pub race : Position
race =
    position O None (Won X ∷ Won X ∷ InPlay ∷ Won O ∷ Won O ∷ []) ([] ∷ [] ∷ (x ∷ x ∷ []) ∷ [] ∷ [] ∷
    (e ∷ o ∷ o ∷ []) ∷ [])

pub judged_moves :
    (evaluate_move unseen 0x99 ≡ record { refusal = 14; status = unproven })  -- unsound, and no such board
    × (evaluate_move second 0x30 ≡ record { refusal = 12; status = unproven })
    × (evaluate_move race 0x66 ≡ record { refusal = 0; status = unproven })
    × (evaluate_move race 0x60 ≡ record { refusal = 0; status = for_player X })  -- X may then choose
    × (evaluate_move race 0x50 ≡ record { refusal = 0; status = for_player X })  -- called lost, though it wins at once
    × ((tried race 0x50).state ≡ Won O)
unfolding unseen second race position evaluate_move judge analysing
judged_moves = (refl, refl, refl, refl, refl, refl)
