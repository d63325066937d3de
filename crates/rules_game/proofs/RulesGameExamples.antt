-- Searches, computed, with the memory that they leave. What is expected was worked out apart, by a program that agrees with the Rust.
use Rattle.std.specs.Prelude.{Some}
use mathlib.Core.Path.{◌≡◌, refl}
use mathlib.Core.Bool.{Bool, true, false}
use mathlib.Core.List.{List, [], ◌∷◌}
use Prim.Native.Nat.{ℕ}
use lib.IntN.{ℤ, pos, negsuc}
use lib.ListN.{set, replicate}
use Rattle.base.specs.Branch.{when◌then◌else◌}
use Rattle.base.specs.Lists.{any, all, filter, elem, concat_map}
use Rattle.base.specs.Update.{update}
use Rattle.base.specs.Integers.{sum, max_z}
use Rattle.rules.specs.declared.Player.TheVariants.{X, O}
use Rattle.rules.specs.declared.CellState.{CellState}
use Rattle.rules.specs.declared.CellState.TheVariants.{Empty, Played}
use Rattle.rules.specs.declared.GameState.TheVariants.{InPlay, Won}
use Rattle.rules.specs.Board.{has_line, result_of}
use Rattle.rules.specs.Position.{Position, start}
use Rattle.base.specs.Checks.{all_pass, first_failed}
use Rattle.rules.specs.Play.{no_move, accepts, after, play, left_by, tried}
use Rattle.rules.specs.Moves.{places, moves}
use Rattle.rules.specs.Hash.{cell_key, board_key, next_board_key, xors, cells_hash, board_hash, hash, with_turn, zobrist}
use Rattle.rules.specs.Evaluation.{won, lost, places_in, unless_both, board_line}
use Rattle.rules.specs.Evaluation.{board_score, overall_line, score, evaluate}
use Rattle.rules.proofs.Examples.{by_default, by_others, position, second}
use Rattle.theory.specs.PlainMinimax.{best, plain}
use Rattle.theory.specs.Table.{from_word, entry_of, off, begins, look_up, store, suffices, bound_of}
use Rattle.theory.specs.Memory.{Tally, Memory, fresh_memory, begin, enter, leaf, hit, answered, cut, some_move, hints, counts}
use Rattle.theory.specs.Memory.{no_responses}
use Rattle.theory.specs.OrderedSearch.{unlimited, at_most, unless_stopped, entering, probed, on_probe, with_stored, set_first, fresh}
use Rattle.theory.specs.OrderedSearch.{candidates, over_moves, search}
use Rattle.theory.specs.Deepening.{Stats, Completed, nothing_yet, SearchAnswer, on_outcome, deepen, analyze}
use Rattle.rules_game.specs.RulesGame.{game, plain_minimax}

-- ---- what the facts compute with
playing : Unit {0}
unfolding moves places concat_map filter tried left_by play accepts all_pass all any first_failed after update result_of has_line
    when◌then◌else◌
playing = tt

valuing : Unit {0}
unfolding evaluate score board_score sum places_in unless_both board_line overall_line when◌then◌else◌
valuing = tt

hashing : Unit {0}
unfolding zobrist with_turn hash xors board_hash cells_hash cell_key board_key next_board_key when◌then◌else◌
hashing = tt

remembering : Unit {0}
unfolding begin enter leaf hit answered cut some_move hints probed on_probe with_stored set_first from_word entry_of off begins look_up
    store suffices bound_of when◌then◌else◌
remembering = tt

searching : Unit {0}
unfolding analyze deepen on_outcome search entering unless_stopped over_moves candidates fresh elem remembering playing valuing hashing
searching = tt

-- stopped or not, the completed depths, and the memory that is left
abbrev gives : Bool → Completed → Memory → SearchAnswer
gives stopped w s = record { is_stopped = stopped; completed = w; memory = s }

abbrev at_depth : ℕ → ℤ → Tally → Stats
at_depth d r t = record { depth = d; score = r; tally = t }

abbrev none_yet : List ℕ
none_yet = no_responses.to_x

abbrev no_table : Memory
no_table = fresh_memory no_responses []

abbrev counted : ℕ → Tally → Memory
counted n t = record { count = n; tally = t; responses = no_responses; table = [] }

-- ---- the empty board
abbrev one_depth : Completed
one_depth = record { depth = 1; score = pos 16; pv = 0x44 ∷ []; stats = at_depth 1 (pos 16) (counts 82 81 0 0 0) ∷ [] }

-- depth 1: the best of 81 moves is the centre
pub empty_board : analyze (game by_default) unlimited 1 start no_table ≡ gives false one_depth (counted 82 (counts 82 81 0 0 0))
unfolding searching
empty_board = refl

-- 82 positions are just enough for depth 1, and one less is not
pub just_enough : analyze (game by_default) (at_most 82) 1 start no_table ≡ gives false one_depth (counted 82 (counts 82 81 0 0 0))
unfolding searching
just_enough = refl

pub one_short : analyze (game by_default) (at_most 81) 1 start no_table ≡ gives true nothing_yet (counted 81 (counts 81 80 0 0 0))
unfolding searching
one_short = refl

-- nor are they for depth 2: its root is one too many
pub one_depth_whole : analyze (game by_default) (at_most 82) 2 start no_table ≡ gives true one_depth (counted 82 (counts 0 0 0 0 0))
unfolding searching
one_depth_whole = refl

-- ---- X;XX@......; and XXX....../XXX....../XX......., the other boards empty: won at depth 1, which ends the search, with all seven moves
-- tried
pub second_won : analyze (game by_default) unlimited 3 second no_table
    ≡ gives false (record { depth = 1; score = won; pv = 0x22 ∷ []; stats = at_depth 1 won (counts 8 7 0 0 0) ∷ [] })
    (counted 8 (counts 8 7 0 0 0))
unfolding searching second position
second_won = refl

-- ---- X;.X.OO@OX.; and X..X.XO.X/.XXXXOXOO/OOXXXO.XO/OOO.OO.O./OOOX.X.OO/.XXXO.XOX/OOOXXOXO./.OXXX.X.X/.OOXX.OOX
abbrev x : CellState
x = Played X

abbrev o : CellState
o = Played O

abbrev e : CellState
e = Empty

unfoldable pub late : Position
late = position X (Some 5) (InPlay ∷ Won X ∷ InPlay ∷ Won O ∷ Won O ∷ InPlay ∷ Won O ∷ Won X ∷ InPlay ∷ []) (
    (x ∷ e ∷ e ∷ x ∷ e ∷ x ∷ o ∷ e ∷ x ∷ []) ∷
    (e ∷ x ∷ x ∷ x ∷ x ∷ o ∷ x ∷ o ∷ o ∷ []) ∷
    (o ∷ o ∷ x ∷ x ∷ x ∷ o ∷ e ∷ x ∷ o ∷ []) ∷
    (o ∷ o ∷ o ∷ e ∷ o ∷ o ∷ e ∷ o ∷ e ∷ []) ∷
    (o ∷ o ∷ o ∷ x ∷ e ∷ x ∷ e ∷ o ∷ o ∷ []) ∷
    (e ∷ x ∷ x ∷ x ∷ o ∷ e ∷ x ∷ o ∷ x ∷ []) ∷
    (o ∷ o ∷ o ∷ x ∷ x ∷ o ∷ x ∷ o ∷ e ∷ []) ∷
    (e ∷ o ∷ x ∷ x ∷ x ∷ e ∷ x ∷ e ∷ x ∷ []) ∷
    (e ∷ o ∷ o ∷ x ∷ x ∷ e ∷ o ∷ o ∷ x ∷ []) ∷ [])

-- responses: to 0x26 one in a closed board, to 0x07 one in no board, and to the root's empty move a legal one, which is tried first
pub illegal_responses :
    analyze (game by_default) unlimited 4 late
    (fresh_memory (record { to_x = set (set none_yet 0x55 0x80) 0x26 0x13; to_o = set (set none_yet 0x07 0x99) no_move 0x55 }) [])
    ≡ gives false (record {
      depth = 4;
      score = lost;
      pv = 0x55 ∷ 0x02 ∷ 0x26 ∷ 0x04 ∷ [];
      stats =
          at_depth 1 (negsuc 17) (counts 3 2 0 0 0) ∷ at_depth 2 (negsuc 44) (counts 14 11 0 0 0) ∷
          at_depth 3 (pos 32) (counts 39 25 7 0 0) ∷ at_depth 4 lost (counts 46 24 9 0 0) ∷ [];
    })
    (record {
      count = 102;
      tally = counts 46 24 9 0 0;
      responses = record {
        to_x = set (set (set (set (set none_yet 0x04 0x26) 0x07 0x26) 0x26 0x04) 0x50 0x02) 0x55 0x80;
        to_o = set (set (set (set (set (set (set none_yet 0x01 0x02) 0x02 0x26) 0x04 0x26) 0x07 0x02) 0x26 0x02) 0x85 0x02) no_move 0x55;
      };
      table = [];
    })
unfolding searching late position
illegal_responses = refl

-- under other weights: plain minimax and the search score by them
pub by_other_weights : (plain_minimax by_others 1 late ≡ negsuc 1719) ×
    ((analyze (game by_others) unlimited 1 late no_table).completed.score ≡ negsuc 1719)
unfolding searching late position plain best max_z
by_other_weights = (refl, refl)

-- a table of seven entries, all zero: some positions are hit, and some of the hits suffice
pub table_on :
    analyze (game by_default) unlimited 4 late (fresh_memory no_responses (replicate 21 0))
    ≡ gives false (record {
      depth = 4;
      score = lost;
      pv = 0x50 ∷ 0x02 ∷ 0x26 ∷ 0x04 ∷ [];
      stats =
          at_depth 1 (negsuc 17) (counts 3 2 0 0 0) ∷ at_depth 2 (negsuc 44) (counts 8 5 1 1 0) ∷
          at_depth 3 (pos 32) (counts 17 9 4 4 1) ∷ at_depth 4 lost (counts 38 18 9 8 2) ∷ [];
    })
    (record {
      count = 66;
      tally = counts 38 18 9 8 2;
      responses = record {
        to_x = set (set (set (set (set (set none_yet 0x01 0x26) 0x07 0x26) 0x26 0x01) 0x55 0x02) 0x80 0x01) 0x85 0x01;
        to_o = set (set (set none_yet 0x01 0x02) 0x02 0x26) 0x07 0x26;
      };
      table =
          1187711115264183895 ∷ 23 ∷ 131074 ∷ 17237872460323169796 ∷ 17293822569102704640 ∷ 2490626 ∷
          18162194893700427145 ∷ 17293822569102704640 ∷ 5242884 ∷ 813318904449498611 ∷ 1152921504606846976 ∷ 131331 ∷
          17820022403243944664 ∷ 1152921504606846976 ∷ 262145 ∷ 16314664660715848985 ∷ 1152921504606846976 ∷ 131075 ∷
          10046045279676359092 ∷ 17293822569102704640 ∷ 2490370 ∷ [];
    })
unfolding searching late position
table_on = refl
