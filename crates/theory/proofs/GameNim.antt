-- Take one to three of a heap; who takes the last has won. The theorems hold of it, so they are not empty, and its searches are computed:
-- what is expected of them was worked out apart, by a program that follows the Rust variation by variation.
use mathlib.Core.Path.{◌≡◌, refl}
use mathlib.Core.Bool.{Bool, true, false, not, ◌&&◌}
use mathlib.Core.List.{List, [], ◌∷◌}
use mathlib.Core.Logic.{inl, inr}
use Prim.Native.Nat.{ℕ, zero, suc, ◌+◌, ◌-◌, ◌*◌, ◌%◌, ◌<◌}
use native.Mathlib.Omega.{arith}
use lib.Dec.{T, eqb, leb, le→leb, T_not}
use lib.ListN.{set, replicate}
use lib.IntN.{ℤ, pos, negsuc, ◌-ℤ◌}
use lib.Signed.{◌≤ℤ◌, ◌<ℤ◌, le_z_yes}
use Rattle.base.specs.Branch.{when◌then◌else◌}
use Rattle.base.specs.Integers.{max_z}
use Rattle.base.specs.Lists.{In, elem, filter}
use Rattle.base.proofs.Bool.{and→, →and}
use Rattle.base.proofs.Branch.{if_ind}
use Rattle.base.proofs.Integers.{hi, lo, zarith, sm}
use Rattle.base.proofs.Lists.{filter_in, in_filter, in_elem, elem_in}
use Rattle.rules.specs.declared.Player.{Player}
use Rattle.rules.specs.declared.Player.TheVariants.{X, O}
use Rattle.rules.specs.Board.{other}
use Rattle.rules.specs.Evaluation.{won, lost}
use Rattle.theory.specs.Game.{Game}
use Rattle.theory.specs.PlainMinimax.{highest, best, plain}
use Rattle.theory.specs.Table.{from_word, entry_of, off, begins, look_up, store, suffices, bound_of}
use Rattle.theory.specs.Memory.{Tally, Memory, fresh_memory, begin, enter, leaf, hit, answered, cut, some_move, hints, counts}
use Rattle.theory.specs.Memory.{no_responses}
use Rattle.theory.specs.OrderedSearch.{Allowance, unlimited, at_most, unless_stopped, entering, probed, on_probe, with_stored}
use Rattle.theory.specs.OrderedSearch.{set_first, fresh, candidates, over_moves, search}
use Rattle.theory.specs.Deepening.{Stats, Completed, nothing_yet, SearchAnswer, on_outcome, deepen, analyze}
use Rattle.theory.specs.Variation.{play_out, ends_on, AttainsMinimax}
use Rattle.theory.proofs.PlainMinimax.{Lawful}
use Rattle.theory.proofs.Memory.{Off}
use Rattle.theory.proofs.Deepening.{analyze_right}

pub record Nim : Type 0 where
  pub heap : ℕ
  pub side : Player

-- the most first, so that a winning move can come first
abbrev takes : List ℕ
takes = 3 ∷ 2 ∷ 1 ∷ []

abbrev number : Player → ℕ
number X = 0
number O = 1

-- an unfinished game is worth -5 to 5
abbrev pub nim : Game
nim = record {
  Pos = Nim;
  turn = λ p. p.side;
  over = λ p. eqb p.heap 0;
  moves = λ p. filter (λ m. leb m p.heap) takes;
  accepts = λ p m. elem m takes && leb m p.heap;
  play = λ p m. record { heap = p.heap - m; side = other p.side };
  value = λ p. when eqb p.heap 0 then (λ _. lost) else λ _. pos ((p.heap * 7) % 11) -ℤ pos 5;
  key = λ p. 2 * p.heap + number p.side;
}

-- ---- it is lawful
nim_listed : (p : Nim) (m : ℕ) → (In m (nim.moves p) → T (nim.accepts p m)) × (T (nim.accepts p m) → In m (nim.moves p))
nim_listed p m = (
  λ i. let k = filter_in (λ x. leb x p.heap) m takes i in →and (elem m takes) _ (in_elem m takes k.0) k.1,
  λ t. let k = and→ (elem m takes) _ t in in_filter (λ x. leb x p.heap) m takes (elem_in m takes k.0) k.1,
)

not_zero : (h : ℕ) → T (not (eqb h 0)) → 0 < h
not_zero zero t = absurd (T_not (eqb 0 0) t tt)
not_zero (suc h) t = omega arith

nim_some_move : (p : Nim) → T (not (nim.over p)) → (m : ℕ) × In m (nim.moves p)
nim_some_move p t =
    (1, in_filter (λ x. leb x p.heap) 1 takes (inr (inr (inl refl))) (le→leb 1 p.heap (omega (arith, not_zero p.heap t))))

small_inside : (x : ℕ) → x < 11 → (lost <ℤ (pos x -ℤ pos 5)) × ((pos x -ℤ pos 5) <ℤ won)
unfolding hi lo
small_inside x h = (omega (zarith, sm (pos x) (negsuc 4)), omega (zarith, sm (pos x) (negsuc 4)))

nim_inside : (p : Nim) → T (not (nim.over p)) → (lost <ℤ nim.value p) × (nim.value p <ℤ won)
nim_inside p t =
    if_ind (λ z. (lost <ℤ z) × (z <ℤ won)) (eqb p.heap 0) _ _ (λ u. absurd (T_not (eqb p.heap 0) t u))
    (λ _. small_inside ((p.heap * 7) % 11) (omega arith))

nim_within : (p : Nim) → T (nim.over p) → (lost ≤ℤ nim.value p) × (nim.value p ≤ℤ won)
nim_within p t =
    if_ind (λ z. (lost ≤ℤ z) × (z ≤ℤ won)) (eqb p.heap 0) _ _ (λ _. (le_z_yes tt, le_z_yes tt))
    (λ u. absurd (T_not (eqb p.heap 0) u t))

pub nim_lawful : Lawful nim
nim_lawful = record {
  Good = λ p. Unit {0};
  good_play = λ p _ _ m _. tt;
  listed = λ p _ _ m. nim_listed p m;
  some_move = λ p _ t. nim_some_move p t;
  inside = λ p _ t. nim_inside p t;
  within = λ p _ t. nim_within p t;
}

-- searched from any heap, with any response tables, it is answered rightly
pub nim_right : (n : Allowance) (k : ℕ) (p : Nim) (s : Memory) → Off s → T (not (analyze nim n (suc k) p s).is_stopped) →
    AttainsMinimax nim k p (analyze nim n (suc k) p s).completed
unfolding nim_lawful
nim_right n k p s o = analyze_right nim nim_lawful n k p tt s o

-- ---- searches
-- stopped or not, positions entered, and the completed depths
pub record Seen : Type 0 where
  pub is_stopped : Bool
  pub count : ℕ
  pub completed : Completed

abbrev seen : Bool → ℕ → Completed → Seen
seen b n w = record { is_stopped = b; count = n; completed = w }

abbrev at_depth : ℕ → ℤ → Tally → Stats
at_depth d r t = record { depth = d; score = r; tally = t }

abbrev start : ℕ → Nim
start n = record { heap = n; side = X }

abbrev none_yet : List ℕ
none_yet = no_responses.to_x

abbrev no_table : Memory
no_table = fresh_memory no_responses []

-- of so many words
abbrev table : ℕ → Memory
table n = fresh_memory no_responses (replicate n 0)

-- responses of which 77 and 200 are no moves, and 3 and 2 none from a small heap
abbrev junk : Memory
junk = fresh_memory (record { to_x = set none_yet 3 2; to_o = set (set (set none_yet 1 3) 2 77) 255 200 }) []

-- a limit, a heap with X to move, and a memory
unfoldable answer : Allowance → ℕ → ℕ → Memory → SearchAnswer
unfolding analyze deepen on_outcome search entering unless_stopped over_moves candidates fresh elem filter when◌then◌else◌ begin enter leaf
    hit answered cut some_move hints probed on_probe with_stored set_first from_word entry_of off begins look_up store suffices bound_of
answer n limit h s = analyze nim n limit (start h) s

abbrev run : Allowance → ℕ → ℕ → Memory → Seen
run n limit h s = let x = answer n limit h s in seen x.is_stopped x.memory.count x.completed

-- plain minimax, computed
plain_values : (plain nim 4 (start 14) ≡ negsuc 2) × (plain nim 5 (start 9) ≡ won) × (plain nim 6 (start 12) ≡ lost) ×
    (plain nim 5 (start 12) ≡ pos 2)
unfolding plain best max_z filter when◌then◌else◌
plain_values = (refl, refl, refl, refl)

-- ---- the table is off
-- an unfinished game, to the limit
open_game : run unlimited 4 14 no_table
    ≡ seen false 94 (record {
      depth = 4;
      score = negsuc 2;
      pv = 2 ∷ 1 ∷ 3 ∷ 3 ∷ [];
      stats = at_depth 1 (pos 5) (counts 4 3 0 0 0) ∷ at_depth 2 (negsuc 3) (counts 13 9 2 0 0) ∷
          at_depth 3 (pos 4) (counts 32 21 5 0 0) ∷ at_depth 4 (negsuc 2) (counts 45 25 11 0 0) ∷ [];
    })
unfolding answer
open_game = refl

-- and what it leaves: the last depth's counts, and for each side the responses by which a search was cut
open_game_leaves : (answer unlimited 4 14 no_table).memory
    ≡ record {
      count = 94;
      tally = counts 45 25 11 0 0;
      responses = record { to_x = set (set (set none_yet 1 1) 2 2) 3 1; to_o = set (set (set none_yet 1 2) 2 2) 3 1 };
      table = [];
    }
unfolding answer
open_game_leaves = refl

-- a lost game ends the search at the depth that shows it, and so does a won one
lost_game : run unlimited 8 12 no_table
    ≡ seen false 320 (record {
      depth = 6;
      score = lost;
      pv = 3 ∷ 1 ∷ 2 ∷ 2 ∷ 2 ∷ 2 ∷ [];
      stats = at_depth 1 (pos 5) (counts 4 3 0 0 0) ∷ at_depth 2 (negsuc 3) (counts 13 9 2 0 0) ∷
          at_depth 3 (pos 3) (counts 24 15 4 0 0) ∷ at_depth 4 (negsuc 1) (counts 73 45 15 0 0) ∷ at_depth 5 (pos 2) (counts 88 47 22 0 0) ∷
          at_depth 6 lost (counts 118 49 45 0 0) ∷ [];
    })
unfolding answer
lost_game = refl

won_game : run unlimited 9 9 no_table
    ≡ seen false 134 (record {
      depth = 5;
      score = won;
      pv = 1 ∷ 3 ∷ 1 ∷ 3 ∷ 1 ∷ [];
      stats = at_depth 1 (pos 4) (counts 4 3 0 0 0) ∷ at_depth 2 (negsuc 2) (counts 13 9 2 0 0) ∷
          at_depth 3 (pos 2) (counts 24 15 4 0 0) ∷ at_depth 4 (negsuc 1) (counts 41 21 11 0 0) ∷ at_depth 5 won (counts 52 20 19 0 0) ∷
          [];
    })
unfolding answer
won_game = refl

-- a finished game has no move
over_game : run unlimited 5 0 no_table
    ≡ seen false 1 (record { depth = 1; score = lost; pv = 255 ∷ []; stats = at_depth 1 lost (counts 1 1 0 0 0) ∷ [] })
unfolding answer
over_game = refl

-- taking three wins at once and comes first: the loop over the moves goes on, since the score is below the upper edge
every_move_tried : run unlimited 1 3 no_table
    ≡ seen false 4 (record { depth = 1; score = won; pv = 3 ∷ []; stats = at_depth 1 won (counts 4 3 0 0 0) ∷ [] })
unfolding answer
every_move_tried = refl

every_move_tried_deeper : run unlimited 3 7 no_table
    ≡ seen false 42 (record {
      depth = 3;
      score = won;
      pv = 3 ∷ 2 ∷ 2 ∷ [];
      stats = at_depth 1 (pos 3) (counts 4 3 0 0 0) ∷
          at_depth 2 (negsuc 1) (counts 12 8 2 0 0) ∷ at_depth 3 won (counts 26 15 4 0 0) ∷ [];
    })
unfolding answer
every_move_tried_deeper = refl

-- responses that are no moves are passed over
junk_passed_over : run unlimited 8 12 junk
    ≡ seen false 289 (record {
      depth = 6;
      score = lost;
      pv = 3 ∷ 1 ∷ 3 ∷ 1 ∷ 3 ∷ 1 ∷ [];
      stats = at_depth 1 (pos 5) (counts 4 3 0 0 0) ∷ at_depth 2 (negsuc 3) (counts 12 8 2 0 0) ∷
          at_depth 3 (pos 3) (counts 22 13 4 0 0) ∷ at_depth 4 (negsuc 1) (counts 40 20 12 0 0) ∷
          at_depth 5 (pos 2) (counts 110 59 26 0 0) ∷ at_depth 6 lost (counts 101 35 46 0 0) ∷ [];
    })
unfolding answer
junk_passed_over = refl

-- ---- variations, played out: to the depth, or to the game's end if sooner, whatever stands after it
played_out : ((play_out nim 4 (start 14) (2 ∷ 1 ∷ 3 ∷ 3 ∷ [])).accepted ≡ true) ×
    (ends_on nim 4 (start 14) (2 ∷ 1 ∷ 3 ∷ 3 ∷ []) ≡ negsuc 2) ×
    ((play_out nim 4 (start 4) (2 ∷ 2 ∷ 7 ∷ 7 ∷ [])).accepted ≡ true) ×
    (ends_on nim 4 (start 4) (2 ∷ 2 ∷ 7 ∷ 7 ∷ []) ≡ lost) × (ends_on nim 1 (start 3) (3 ∷ []) ≡ won)
unfolding play_out ends_on elem when◌then◌else◌
played_out = (refl, refl, refl, refl, refl)

-- a variation that is too short, or has a move that is not accepted, is not
not_played_out : ((play_out nim 4 (start 14) (2 ∷ 1 ∷ 3 ∷ [])).accepted ≡ false) ×
    ((play_out nim 2 (start 4) (2 ∷ 3 ∷ [])).accepted ≡ false)
unfolding play_out elem when◌then◌else◌
not_played_out = (refl, refl)

-- ---- the table is on
-- seven entries, all zero: some positions are hit, and some of the hits suffice
table_suffices : run unlimited 6 13 (table 21)
    ≡ seen false 319 (record {
      depth = 6;
      score = negsuc 1;
      pv = 1 ∷ 3 ∷ 1 ∷ 3 ∷ 1 ∷ 2 ∷ [];
      stats = at_depth 1 (pos 5) (counts 4 3 0 0 0) ∷ at_depth 2 (negsuc 3) (counts 12 8 2 1 0) ∷
          at_depth 3 (pos 4) (counts 29 18 4 5 1) ∷ at_depth 4 (negsuc 2) (counts 68 37 16 11 4) ∷
          at_depth 5 (pos 2) (counts 76 38 16 12 5) ∷ at_depth 6 (negsuc 1) (counts 130 64 38 9 2) ∷ [];
    })
unfolding answer
table_suffices = refl

table_left : (answer unlimited 6 13 (table 21)).memory.table ≡ 21 ∷ 2 ∷ 65797 ∷ 22 ∷ 18446744073709551614 ∷ 131332 ∷ 23 ∷
    2 ∷ 131333 ∷ 17 ∷ 2 ∷ 196611 ∷ 25 ∷ 2 ∷ 196613 ∷ 26 ∷ 18446744073709551614 ∷ 65542 ∷ 20 ∷
    18446744073709551614 ∷ 65796 ∷ []
unfolding answer
table_left = refl

-- where the table answered, the variation is not known beyond its move
table_sets_one_place : run unlimited 5 14 (table 21)
    ≡ seen false 168 (record {
      depth = 5;
      score = pos 3;
      pv = 1 ∷ 2 ∷ 2 ∷ 255 ∷ 255 ∷ [];
      stats = at_depth 1 (pos 5) (counts 4 3 0 0 0) ∷ at_depth 2 (negsuc 3) (counts 13 9 2 1 0) ∷
          at_depth 3 (pos 4) (counts 29 18 5 5 1) ∷ at_depth 4 (negsuc 2) (counts 33 12 9 10 5) ∷
          at_depth 5 (pos 3) (counts 89 43 18 16 9) ∷ [];
    })
unfolding answer
table_sets_one_place = refl

-- a position that fails low is stored with its variation's first place as it stands: heap 4, X to move, is AtMost 2 at depth 3 with move 1,
-- a sibling's
fails_low_with_stale_move : (answer unlimited 5 10 (table 30)).memory.table ≡ 20 ∷ 1152921504606846976 ∷ 131077 ∷ 11 ∷
    18446744073709551614 ∷ 65538 ∷ 12 ∷ 2 ∷ 65795 ∷ 13 ∷ 18446744073709551614 ∷ 65794 ∷ 14 ∷ 2 ∷ 131331 ∷ 15 ∷
    18446744073709551614 ∷ 196868 ∷ 16 ∷ 2 ∷ 196611 ∷ 17 ∷ 17293822569102704640 ∷ 196612 ∷ 8 ∷ 2 ∷ 66051 ∷ 19 ∷
    18446744073709551614 ∷ 65540 ∷ []
unfolding answer
fails_low_with_stale_move = refl

-- a table's answer sets the variation's first place, to the empty move too
first_emptied : set_first 0xff (5 ∷ 6 ∷ []) ≡ 0xff ∷ 6 ∷ []
unfolding set_first
first_emptied = refl

-- lent for heap 1, O to move: value -2^60 - 1, AtMost at depth 1, the empty move
abbrev lent : Memory
lent = fresh_memory no_responses (3 ∷ 17293822569102704639 ∷ 16712193 ∷ 0 ∷ 0 ∷ 0 ∷ 0 ∷ 0 ∷ 0 ∷ [])

-- it suffices at depth 2, after a sibling has left a 2 in the variation
table_empties_one_place : run unlimited 2 4 lent
    ≡ seen false 9 (record {
      depth = 2;
      score = highest;
      pv = 3 ∷ 255 ∷ [];
      stats = at_depth 1 (pos 2) (counts 4 3 0 0 0) ∷
          at_depth 2 highest (counts 5 2 1 2 1) ∷ [];
    })
unfolding answer
table_empties_one_place = refl

-- ---- the allowance
-- the unlimited search enters 94: so many are enough, and one less is not
just_enough : run (at_most 94) 4 14 no_table
    ≡ seen false 94 (record {
      depth = 4;
      score = negsuc 2;
      pv = 2 ∷ 1 ∷ 3 ∷ 3 ∷ [];
      stats = at_depth 1 (pos 5) (counts 4 3 0 0 0) ∷ at_depth 2 (negsuc 3) (counts 13 9 2 0 0) ∷
          at_depth 3 (pos 4) (counts 32 21 5 0 0) ∷ at_depth 4 (negsuc 2) (counts 45 25 11 0 0) ∷ [];
    })
unfolding answer
just_enough = refl

one_short : run (at_most 93) 4 14 no_table
    ≡ seen true 93 (record {
      depth = 3;
      score = pos 4;
      pv = 2 ∷ 1 ∷ 3 ∷ [];
      stats = at_depth 1 (pos 5) (counts 4 3 0 0 0) ∷
          at_depth 2 (negsuc 3) (counts 13 9 2 0 0) ∷ at_depth 3 (pos 4) (counts 32 21 5 0 0) ∷ [];
    })
unfolding answer
one_short = refl

-- its first three depths enter 49: so many give three completed depths, and one less two
three_depths_exactly : run (at_most 49) 4 14 no_table
    ≡ seen true 49 (record {
      depth = 3;
      score = pos 4;
      pv = 2 ∷ 1 ∷ 3 ∷ [];
      stats = at_depth 1 (pos 5) (counts 4 3 0 0 0) ∷
          at_depth 2 (negsuc 3) (counts 13 9 2 0 0) ∷ at_depth 3 (pos 4) (counts 32 21 5 0 0) ∷ [];
    })
unfolding answer
three_depths_exactly = refl

three_depths_one_short : run (at_most 48) 4 14 no_table
    ≡ seen true 48 (record {
      depth = 2;
      score = negsuc 3;
      pv = 3 ∷ 3 ∷ [];
      stats = at_depth 1 (pos 5) (counts 4 3 0 0 0) ∷
          at_depth 2 (negsuc 3) (counts 13 9 2 0 0) ∷ [];
    })
unfolding answer
three_depths_one_short = refl

-- too few for depth 1
no_depth_whole : run (at_most 3) 4 14 no_table ≡ seen true 3 nothing_yet
unfolding answer
no_depth_whole = refl

-- with the table on
table_stopped : run (at_most 150) 6 13 (table 21)
    ≡ seen true 150 (record {
      depth = 4;
      score = negsuc 2;
      pv = 1 ∷ 1 ∷ 3 ∷ 3 ∷ [];
      stats = at_depth 1 (pos 5) (counts 4 3 0 0 0) ∷ at_depth 2 (negsuc 3) (counts 12 8 2 1 0) ∷
          at_depth 3 (pos 4) (counts 29 18 4 5 1) ∷ at_depth 4 (negsuc 2) (counts 68 37 16 11 4) ∷ [];
    })
unfolding answer
table_stopped = refl

table_stopped_leaves : (answer (at_most 150) 6 13 (table 21)).memory
    ≡ record {
      count = 150;
      tally = counts 37 19 6 7 2;
      responses = record { to_x = set (set (set none_yet 1 2) 2 2) 3 1; to_o = set (set (set none_yet 1 3) 2 2) 3 1 };
      table =
          21 ∷ 3 ∷ 65795 ∷ 22 ∷ 3 ∷ 131075 ∷ 23 ∷ 3 ∷ 131331 ∷ 17 ∷ 18446744073709551614 ∷ 196610 ∷ 25 ∷ 3 ∷
          65539 ∷ 26 ∷ 18446744073709551613 ∷ 65540 ∷ 20 ∷ 18446744073709551613 ∷ 131330 ∷ [];
    }
unfolding answer
table_stopped_leaves = refl
