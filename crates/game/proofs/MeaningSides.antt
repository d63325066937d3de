-- What the derived comparisons of sides, next boards and states give is what the rules' comparisons say.
use mathlib.Core.Path.{◌≡◌, refl, ap₂}
use mathlib.Core.Bool.{◌&&◌}
use Prim.Native.Nat.{ℕ}
use lib.Dec.{eqb}
use Rattle.std.specs.Prelude.{Option, None, Some}
use Rattle.std.specs.Option.{option_eq}
use Rattle.rules.specs.declared.Player.{Player}
use Rattle.rules.specs.declared.Player.TheVariants.{X, O}
use Rattle.rules.specs.declared.GameState.{GameState}
use Rattle.rules.specs.declared.GameState.TheVariants.{InPlay, Drawn, Won}
use Rattle.rules.specs.contracts.PlayerPartialEq.TheImpl as Sides
use Rattle.rules.specs.contracts.GameStatePartialEq.TheImpl as States
use Rattle.rules.specs.Board.{same, same_state}
use Rattle.rules.specs.Position.{Position, same_next_board}

sides : (w v : Player) → Sides.ghosts.eq w v ≡ same w v
sides X X = refl
sides X O = refl
sides O X = refl
sides O O = refl

next_boards : (n m : Option ℕ) → option_eq eqb n m ≡ same_next_board n m
next_boards None None = refl
next_boards None (Some b) = refl
next_boards (Some b) None = refl
next_boards (Some b) (Some c) = refl

states : (s t : GameState) → States.ghosts.eq s t ≡ same_state s t
states InPlay InPlay = refl
states InPlay Drawn = refl
states InPlay (Won w) = refl
states Drawn InPlay = refl
states Drawn Drawn = refl
states Drawn (Won w) = refl
states (Won w) InPlay = refl
states (Won w) Drawn = refl
states (Won X) (Won X) = refl
states (Won X) (Won O) = refl
states (Won O) (Won X) = refl
states (Won O) (Won O) = refl

pub parts_same : (p q : Position) → ((Sides.ghosts.eq p.turn q.turn && option_eq eqb p.next_board q.next_board) &&
    States.ghosts.eq p.state q.state) ≡ ((same p.turn q.turn && same_next_board p.next_board q.next_board) && same_state p.state q.state)
parts_same p q = ap₂ ◌&&◌ (ap₂ ◌&&◌ (sides p.turn q.turn) (next_boards p.next_board q.next_board)) (states p.state q.state)
