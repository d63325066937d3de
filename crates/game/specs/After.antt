-- The game after a move, as a struct: one bit more in one row; the board's and the game's state, next board, side and hash replaced.
use Rattle.std.specs.Prelude.{◌≡◌, List, [], ◌∷◌, ℕ, Result, Ok, Err}
use Rattle.base.specs.Branch.{when◌then◌else◌}
use Rattle.rules.specs.Play.{board_of, cell_of, accepts, after, Tried, played, refused, play, tried}
use Rattle.rules.specs.Hash.{hash_after}
use Rattle.boards.specs.declared.moves.Move.{Move}
use Rattle.boards.specs.With.{with_cell, with_state}
use Rattle.rules.specs.Refusal.{answer_number}
use Rattle.boards.specs.declared.moves.MoveError.{MoveError}
use Rattle.boards.specs.Answers.{move_error_number}
use Rattle.game.specs.declared.Game.{Game}
use Rattle.game.specs.Meaning.{position_of}

-- the game after an accepted move in cell c of board b
unfoldable pub after_move : Game → ℕ → ℕ → Game
after_move g b c =
    let q = after (position_of g) b c in
    record {
      next_player = q.turn;
      next_board = q.next_board;
      local_boards = with_cell g.local_boards b c g.next_player;
      global_states = with_state g.global_states b (q.states b);
      game_state = q.state;
      hash = hash_after (position_of g) b c g.hash;
    }

-- the game after a tried move: a refused one leaves the very struct
unfoldable pub game_after : Game → ℕ → Game
game_after g m = when accepts (position_of g) m then (λ _. after_move g (board_of m) (cell_of m)) else λ _. g

unfoldable pub games_after : Game → List ℕ → Game
games_after g [] = g
games_after g (m ∷ ms) = games_after (game_after g m) ms

-- the number of a refusal by the rules, 0 where the move is played
unfoldable pub refusal : Tried → ℕ
refusal (played q) = 0
refusal (refused n) = n

-- what each of some moves is answered, tried one after the other
unfoldable pub answers_each : Game → List ℕ → List ℕ
answers_each g [] = []
answers_each g (m ∷ ms) = refusal (play (position_of g) m) ∷ answers_each (game_after g m) ms

-- the game that a tried move leaves: the one after it, or the very game where it is refused
abbrev pub game_left : Game → Result Game MoveError → Game
game_left g (Ok after) = after
game_left g (Err why) = g

-- what `make_move` gives: the refusal's number, the struct, and the rules' position
pub record Plays (g : Game) (m : Move) (r : Result Game MoveError) : Type 0 where
  pub number : answer_number move_error_number r ≡ refusal (play (position_of g) m.bits)
  pub exact : game_left g r ≡ game_after g m.bits
  pub position : position_of (game_left g r) ≡ tried (position_of g) m.bits
