-- A position as twelve words, and back.
use Rattle.std.specs.Prelude.{Bool, true, false, cond, ◌&&◌, List, [], ◌∷◌, ◌++◌, ℕ, ◌+◌, eqb, leb, get_or, Option, None, Some}
use Rattle.rules.specs.Board.{side_number, side_from, state_number, state_from}
use Rattle.boards.specs.declared.local.Row.{Row}
use Rattle.game.specs.declared.Game.{Game}

-- 256, which is no byte, for free choice
abbrev pub next_board_word : Option ℕ → ℕ
next_board_word None = 256
next_board_word (Some b) = b

abbrev pub row_words : List Row → List ℕ
row_words [] = []
row_words (r ∷ rs) = r.x ∷ r.o ∷ row_words rs

-- X's and O's cells of the three rows, X's and O's boards, side to move, due board, state of the game, hash
abbrev pub words_of : Game → List ℕ
words_of g =
    row_words g.local_boards.rows ++
    (g.global_states.x ∷ g.global_states.o ∷
    side_number g.next_player ∷ next_board_word g.next_board ∷ state_number g.game_state ∷ g.hash ∷ [])

-- ---- back
abbrev pub next_board_from : ℕ → Option ℕ
next_board_from w = cond (eqb w 256) None (Some w)

abbrev pub row_from : List ℕ → ℕ → Row
row_from ws k = record { x = get_or ws k 0; o = get_or ws (k + 1) 0 }

unfoldable pub game_from : List ℕ → Game
game_from ws = record {
  next_player = side_from (get_or ws 8 0);
  next_board = next_board_from (get_or ws 9 0);
  local_boards = record { rows = row_from ws 0 ∷ row_from ws 2 ∷ row_from ws 4 ∷ [] };
  global_states = record { x = get_or ws 6 0; o = get_or ws 7 0 };
  game_state = state_from (get_or ws 10 0);
  hash = get_or ws 11 0;
}

-- ---- which words are a position
-- the most that each may be
abbrev pub most : List ℕ
most =
    0xffff_ffff ∷ 0xffff_ffff ∷ 0xffff_ffff ∷ 0xffff_ffff ∷ 0xffff_ffff ∷ 0xffff_ffff ∷
    0xffff ∷ 0xffff ∷ 1 ∷ 256 ∷ 3 ∷ 0xffff_ffff_ffff_ffff ∷ []

-- there is a word for each bound, and none is over it
unfoldable pub all_within : List ℕ → List ℕ → Bool
all_within [] ws = true
all_within (b ∷ bs) [] = false
all_within (b ∷ bs) (w ∷ ws) = leb w b && all_within bs ws

abbrev pub is_position : List ℕ → Bool
is_position ws = all_within most ws
