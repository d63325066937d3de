-- What reading a text gives: document 01's number and place, or the game.
use Rattle.std.specs.Prelude.{◌≡◌, List, ℕ, Result, Ok, Err, IfOk}
use Rattle.rules.specs.Hash.{hash}
use Rattle.text.specs.Reading.{Reading, reads, refuses, read}
use Rattle.text.specs.MoveText.{MoveReading, reads_move, bad_length, bad_character, read_move}
use Rattle.boards.specs.declared.moves.Move.{Move}
use Rattle.game.specs.declared.Game.{Game}
use Rattle.game.specs.Meaning.{position_of}
use Rattle.game.specs.Built.{new_game}
use Rattle.game.specs.Neat.{game_of}
use Rattle.notation.specs.declared.ErrorKind.{ErrorKind}
use Rattle.notation.specs.declared.ErrorKind.TheVariants.{TooLong, MissingSection, BadPlayer, TooFewSquares, BadBoard, TooShort}
use Rattle.notation.specs.declared.ParseError.{ParseError}
use Rattle.notation.specs.declared.ParseMoveError.{ParseMoveError}
use Rattle.notation.specs.declared.ParseMoveError.TheVariants.{BadLength, BadCharacter}

abbrev pub kind_number : ErrorKind → ℕ
kind_number TooLong = 1
kind_number MissingSection = 2
kind_number BadPlayer = 3
kind_number TooFewSquares = 4
kind_number BadBoard = 5
kind_number TooShort = 6

abbrev pub parse_number : ParseError → ℕ
parse_number e = kind_number e.why

-- the answer, as the definition of reading says it
abbrev pub reading_of : Result Game ParseError → Reading
reading_of (Ok g) = reads (position_of g)
reading_of (Err e) = refuses (kind_number e.why) e.offset e.length

-- the neat game of the position that was read, with its fresh hash; where there is none, the empty game
abbrev pub game_for : Reading → Game
game_for (reads p) = game_of p (hash p)
game_for (refuses n o l) = new_game

pub record Parses (text : List ℕ) (r : Result Game ParseError) : Type 0 where
  pub says : reading_of r ≡ read text
  pub game_is : IfOk r (λ g. g ≡ game_for (read text))

-- ---- moves
-- document 01's numbers
abbrev pub move_number : ParseMoveError → ℕ
move_number BadLength = 7
move_number (BadCharacter c) = 8

abbrev pub move_reading_of : Result Move ParseMoveError → MoveReading
move_reading_of (Ok m) = reads_move m.bits
move_reading_of (Err BadLength) = bad_length
move_reading_of (Err (BadCharacter c)) = bad_character c

abbrev pub ParsesMove : List ℕ → Result Move ParseMoveError → Type 0
ParsesMove text r = move_reading_of r ≡ read_move text
