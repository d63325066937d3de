-- A game of two sides, as a search sees it.
use Rattle.std.specs.Prelude.{Bool, List, ℕ, ℤ}
use Rattle.rules.specs.declared.Player.{Player}

pub record Game : Type 1 where
  pub Pos : Type 0
  -- the side to move
  pub turn : Pos → Player
  pub over : Pos → Bool
  -- the list of moves
  pub moves : Pos → List ℕ
  pub accepts : Pos → ℕ → Bool
  -- the position after a move
  pub play : Pos → ℕ → Pos
  -- the evaluation for the side to move
  pub value : Pos → ℤ
  -- the key by which the table knows the position
  pub key : Pos → ℕ
