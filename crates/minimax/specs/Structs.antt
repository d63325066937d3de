-- The engine's games as a game for the search: the struct after a move, and the key made of the hash that it carries.
use Rattle.std.specs.Prelude.{not}
use Rattle.rules.specs.Position.{unfinished}
use Rattle.rules.specs.Play.{accepts}
use Rattle.rules.specs.Moves.{moves}
use Rattle.rules.specs.Hash.{with_turn}
use Rattle.rules.specs.Evaluation.{Scoring, evaluate}
use Rattle.theory.specs.Game.{Game as Searched}
use Rattle.game.specs.declared.Game.{Game}
use Rattle.game.specs.Meaning.{position_of}
use Rattle.game.specs.After.{game_after}

abbrev pub structs : Scoring → Searched
structs sc = record {
  Pos = Game;
  turn = λ g. g.next_player;
  over = λ g. not (unfinished (position_of g));
  moves = λ g. moves (position_of g);
  accepts = λ g m. accepts (position_of g) m;
  play = game_after;
  value = λ g. evaluate sc (position_of g);
  key = λ g. with_turn (position_of g) g.hash;
}
