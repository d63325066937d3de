-- The written rules as a game for the search.
use Rattle.std.specs.Prelude.{not, ℕ, ℤ}
use Rattle.rules.specs.declared.Player.{Player}
use Rattle.rules.specs.Position.{Position, unfinished}
use Rattle.rules.specs.Play.{accepts, tried}
use Rattle.rules.specs.Moves.{moves}
use Rattle.rules.specs.Hash.{zobrist}
use Rattle.rules.specs.Evaluation.{won, seen_by, evaluate, Scoring}
use Rattle.theory.specs.Game.{Game}
use Rattle.theory.specs.PlainMinimax.{plain}

-- the key is worked out afresh
abbrev pub game : Scoring → Game
game sc = record {
  Pos = Position;
  turn = λ p. p.turn;
  over = λ p. not (unfinished p);
  moves = moves;
  accepts = accepts;
  play = tried;
  value = evaluate sc;
  key = zobrist;
}

-- plain minimax of a position
abbrev pub plain_minimax : Scoring → ℕ → Position → ℤ
plain_minimax sc d p = plain (game sc) d p

-- the score, for the side to move, of a game that w wins
abbrev pub win_for : Player → Position → ℤ
win_for w p = seen_by p.turn (seen_by w won)
