-- The empty game, a game from its parts, and one whose state is looked at again.
use Rattle.std.specs.Prelude.{ℕ, replicate, Option, None}
use Rattle.rules.specs.declared.Player.{Player}
use Rattle.rules.specs.declared.Player.TheVariants.{X}
use Rattle.rules.specs.declared.GameState.{GameState}
use Rattle.rules.specs.declared.GameState.TheVariants.{InPlay}
use Rattle.rules.specs.Board.{other, result_of, in_play, won_by}
use Rattle.rules.specs.Hash.{hash}
use Rattle.boards.specs.declared.local.LocalBoards.{LocalBoards}
use Rattle.boards.specs.declared.states.GlobalStates.{GlobalStates}
use Rattle.boards.specs.Packed.{no_row, state_at}
use Rattle.game.specs.declared.Game.{Game}
use Rattle.game.specs.Meaning.{position_of}

abbrev pub no_boards : LocalBoards
no_boards = record { rows = replicate 3 no_row }

abbrev pub no_states : GlobalStates
no_states = record { x = 0; o = 0 }

-- `Game::new`: X to move, free choice, hash 0
abbrev pub new_game : Game
new_game =
    record {
      next_player = X;
      next_board = None;
      local_boards = no_boards;
      global_states = no_states;
      game_state = InPlay;
      hash = 0;
    }

abbrev pub with_hash : Game → ℕ → Game
with_hash g h =
    record {
      next_player = g.next_player;
      next_board = g.next_board;
      local_boards = g.local_boards;
      global_states = g.global_states;
      game_state = g.game_state;
      hash = h;
    }

-- a game from its parts, with hash 0
abbrev pub parts : Player → Option ℕ → LocalBoards → GlobalStates → GameState → Game
parts w n l s g =
    record { next_player = w; next_board = n; local_boards = l; global_states = s; game_state = g; hash = 0 }

-- with its hash worked out
unfoldable pub packed : Player → Option ℕ → LocalBoards → GlobalStates → GameState → Game
packed w n l s g = with_hash (parts w n l s g) (hash (position_of (parts w n l s g)))

-- the game's state as the side not to move has left it
unfoldable pub recalculated : Game → Game
recalculated g =
    let v = other g.next_player in
    let s = g.global_states in
    record {
      next_player = g.next_player;
      next_board = g.next_board;
      local_boards = g.local_boards;
      global_states = g.global_states;
      game_state = result_of v (λ b. won_by v (state_at s b)) (λ b. in_play (state_at s b));
      hash = g.hash;
    }
