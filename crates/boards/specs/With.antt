-- The boards with one cell more, and their states with one board's more: one bit more in one number or two.
use Rattle.std.specs.Prelude.{◌&&◌, ℕ, ◌/◌, ◌^◌, ltb, set}
use Rattle.std.specs.Int.Bits.{bit_or}
use Rattle.rules.specs.declared.Player.{Player}
use Rattle.rules.specs.declared.Player.TheVariants.{X, O}
use Rattle.rules.specs.declared.GameState.{GameState}
use Rattle.rules.specs.declared.GameState.TheVariants.{InPlay, Drawn, Won}
use Rattle.base.specs.Branch.{when◌then◌else◌}
use Rattle.boards.specs.declared.local.Row.{Row}
use Rattle.boards.specs.declared.local.LocalBoards.{LocalBoards}
use Rattle.boards.specs.declared.states.GlobalStates.{GlobalStates}
use Rattle.boards.specs.Packed.{row_of, place}

abbrev pub row_with : Player → Row → ℕ → Row
row_with X r k = record { x = bit_or r.x (2 ^ k); o = r.o }
row_with O r k = record { x = r.x; o = bit_or r.o (2 ^ k) }

unfoldable pub with_cell : LocalBoards → ℕ → ℕ → Player → LocalBoards
with_cell l b c w =
    when ltb b 9 && ltb c 9
    then (λ _. record { rows = set l.rows (b / 3) (row_with w (row_of l b) (place b c)) })
    else λ _. l

abbrev pub state_with : GlobalStates → ℕ → GameState → GlobalStates
state_with s k InPlay = s
state_with s k Drawn = record { x = bit_or s.x (2 ^ k); o = bit_or s.o (2 ^ k) }
state_with s k (Won X) = record { x = bit_or s.x (2 ^ k); o = s.o }
state_with s k (Won O) = record { x = s.x; o = bit_or s.o (2 ^ k) }

unfoldable pub with_state : GlobalStates → ℕ → GameState → GlobalStates
with_state s b g = when ltb b 9 then (λ _. state_with s b g) else λ _. s
