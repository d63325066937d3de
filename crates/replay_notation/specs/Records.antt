-- Records of texts and of sets of results: what the definitions give for the question that a record holds. tools/lists.py says what the
-- numbers of each kind are.
use Rattle.std.specs.Prelude.{Bool, false, cond, ◌&&◌, ◌||◌, List, [], ◌∷◌, ◌++◌, map, ℕ, ◌%◌, eqb, ltb, length, get_or, take}
use Rattle.std.specs.Prelude.{Option, Some, None, option_map}
use Rattle.std.specs.Int.Bits.{bit_and}
use Rattle.base.specs.Branch.{when◌then◌else◌}
use Rattle.base.specs.Lists.{from}
use Rattle.rules.specs.declared.Player.TheVariants.{X, O}
use Rattle.rules.specs.Board.{state_number}
use Rattle.rules.specs.Position.{Position, start}
use Rattle.rules.specs.Play.{no_move, reached}
use Rattle.rules.specs.Compare.{bound_depth, equivalent}
use Rattle.rules.specs.Hash.{hash, with_turn, zobrist}
use Rattle.rules.specs.Status.{as_byte, from_byte}
use Rattle.status.specs.declared.Status.{Status}
use Rattle.status.specs.Sets.{only_draw, status_of, won_byte}
use Rattle.text.specs.Reading.{Reading, reads, refuses, read}
use Rattle.text.specs.Writing.{text_of}
use Rattle.text.specs.MoveText.{MoveReading, reads_move, bad_length, bad_character, move_refusal, read_move}
use Rattle.game.specs.declared.Game.{Game}
use Rattle.game.specs.Meaning.{position_of}
use Rattle.notation.specs.Parsed.{game_for}
use Rattle.decimals.specs.Lists.{list_of}
use Rattle.replay.specs.declared.totals.Comparison.{Comparison}
use Rattle.replay.specs.declared.totals.Comparison.TheVariants.{Differs}
use Rattle.replay.specs.Agreement.{same_numbers}
use Rattle.replay.specs.Totals.{comparison}

-- ---- the question
-- the lowest byte of the number at a place, 0 past the end
abbrev pub byte_in : List ℕ → ℕ → ℕ
byte_in ns i = get_or ns i 0 % 256

-- how many bytes of text, or moves
abbrev pub count_in : List ℕ → ℕ
count_in ns = get_or ns 1 0 % 512

-- the bytes from place 2 on, as many as a text may have
unfoldable pub bytes_from_2 : List ℕ → List ℕ
bytes_from_2 ns = map (byte_in ns) (from 2 512)

abbrev pub bytes_in : List ℕ → List ℕ
bytes_in ns = take (count_in ns) (bytes_from_2 ns)

-- ---- the records
-- of bytes, with what is answered
abbrev pub with_bytes : ℕ → List ℕ → List ℕ → List ℕ
with_bytes kind bytes answer = kind ∷ length bytes ∷ (bytes ++ answer)

abbrev pub read_position_numbers : Position → List ℕ
read_position_numbers p = text_of p ++ (hash p ∷ zobrist p ∷ state_number p.state ∷ bound_depth p ∷ [])

-- a text that is refused is of kind 4, one that is read of kind 5
abbrev pub reading_record : List ℕ → Reading → List ℕ
reading_record text (refuses n offset size) = with_bytes 4 text (n ∷ offset ∷ size ∷ [])
reading_record text (reads p) = with_bytes 5 text (read_position_numbers p)

-- the move that is read
abbrev pub move_for : MoveReading → ℕ
move_for (reads_move m) = m
move_for bad_length = no_move
move_for (bad_character c) = no_move

-- the byte that refusal 8 names, 0 else
abbrev pub named_byte : MoveReading → ℕ
named_byte (reads_move m) = 0
named_byte bad_length = 0
named_byte (bad_character c) = c

abbrev pub move_reading_numbers : MoveReading → List ℕ
move_reading_numbers r = move_refusal r ∷ named_byte r ∷ move_for r ∷ []

abbrev pub move_record : List ℕ → List ℕ
move_record text = with_bytes 6 text (move_reading_numbers (read_move text))

-- the byte of a set, 0 for none
abbrev pub set_number : Option Status → ℕ
set_number None = 0
set_number (Some s) = s.bits

abbrev pub byte_record : ℕ → List ℕ
byte_record b = 7 ∷ b ∷ set_number (option_map status_of (from_byte b)) ∷ []

abbrev pub merge_record : ℕ → ℕ → List ℕ
merge_record a b = 8 ∷ a ∷ b ∷ set_number (option_map status_of (from_byte (bit_and a b))) ∷ []

abbrev pub play_record : List ℕ → List ℕ
play_record ms = with_bytes 9 ms (text_of (reached start ms))

-- whether a byte is the set of X alone, of O alone; the set of the draw alone
abbrev pub won_record : ℕ → List ℕ
won_record b = 12 ∷ b ∷ cond (eqb b (won_byte X)) 1 0 ∷ cond (eqb b (won_byte O)) 1 0 ∷ as_byte only_draw ∷ []

-- by the kind; what is of no other kind is held to the record of its text, which is of kind 4 or 5
unfoldable pub expected_record : List ℕ → List ℕ
expected_record ns =
    let kind = get_or ns 0 0 in
    when eqb kind 6 then (λ _. move_record (bytes_in ns)) else
    λ _. when eqb kind 7 then (λ _. byte_record (byte_in ns 1)) else
    λ _. when eqb kind 8 then (λ _. merge_record (byte_in ns 1) (byte_in ns 2)) else
    λ _. when eqb kind 9 then (λ _. play_record (bytes_in ns)) else
    λ _. when eqb kind 12 then (λ _. won_record (byte_in ns 1)) else
    λ _. reading_record (bytes_in ns) (read (bytes_in ns))

-- ---- what is found
-- document 01's answer and not the Rust's: a text of over 256 bytes, or a mark that is not ASCII, on which the Rust panics
abbrev pub apart : List ℕ → Reading → Bool
apart text (refuses n offset size) = eqb n 1 || (eqb n 5 && ltb 127 (get_or text offset 0))
apart text (reads p) = false

abbrev pub is_apart : List ℕ → Bool
is_apart ns = eqb (get_or ns 0 0) 4 && apart (bytes_in ns) (read (bytes_in ns))

abbrev pub comparison_of : List ℕ → Comparison
comparison_of ns = comparison (same_numbers ns (expected_record ns)) (is_apart ns)

-- a line that is no list of numbers differs
abbrev pub comparison_for : Option (List ℕ) → Comparison
comparison_for None = Differs
comparison_for (Some ns) = comparison_of ns

abbrev pub outcome_of : List ℕ → Comparison
outcome_of line = comparison_for (list_of 1024 line)

-- ---- what the parts of a comparison add
-- of a game with any hash
abbrev pub game_numbers : Game → List ℕ
game_numbers g = text_of (position_of g) ++
    (g.hash ∷ with_turn (position_of g) g.hash ∷ state_number g.game_state ∷ bound_depth (position_of g) ∷ [])

-- whether two games have the same hash and are equivalent
abbrev pub alike : Game → Game → Bool
alike g h = eqb g.hash h.hash && equivalent (position_of g) (position_of h)

-- of a game and what its text is read as; true of every game that is played from the empty board
abbrev pub reads_back : Game → Bool
reads_back g = alike (game_for (read (text_of (position_of g)))) g
