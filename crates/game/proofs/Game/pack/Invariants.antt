use mathlib.Core.Path.{◌≡◌}
use Prim.Native.Nat.{◌≤◌}
use lib.ListN.{drop}
use lib.Bits.{bit_xor}
use Rattle.rules.specs.Hash.{board_hash, xors, hash}
use Rattle.rules.specs.Board.{nine}
use Rattle.boards.specs.Packed.{cell_at, state_at}
use Rattle.game.specs.Meaning.{position_of}
use Rattle.game.specs.Built.{parts}
use Rattle.game.proofs.Game.pack.Given as goal

abbrev pub invariant-loop-board : goal.invariant-loop-board
invariant-loop-board l =
    (l.board ≤ 9) × (bit_xor l.hash (xors (λ b. board_hash b (cell_at l.local_boards b) (state_at l.global_states b)) (drop l.board nine))
    ≡ Rattle.rules.specs.Hash.hash (position_of (parts l.next_player l.next_board l.local_boards l.global_states l.game_state)))
