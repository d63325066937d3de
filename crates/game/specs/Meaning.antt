-- The position that a game means, whatever its fields hold.
use Rattle.rules.specs.Position.{Position}
use Rattle.boards.specs.Packed.{cell_at, state_at}
use Rattle.game.specs.declared.Game.{Game}

abbrev pub position_of : Game → Position
position_of g = record {
  turn = g.next_player;
  next_board = g.next_board;
  cells = cell_at g.local_boards;
  states = state_at g.global_states;
  state = g.game_state;
}
