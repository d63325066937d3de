-- The set that a status means, and the status of a set.
use Rattle.std.specs.Prelude.{true, false, ℕ}
use Rattle.rules.specs.declared.Player.{Player}
use Rattle.base.specs.Bits.{bit}
use Rattle.rules.specs.Status.{Status as Set, for_player, as_byte}
use Rattle.status.specs.declared.Status.{Status}

-- the low three bits: X wins, O wins, draw
abbrev pub set_of : Status → Set
set_of s = record { x = bit s.bits 0; o = bit s.bits 1; draw = bit s.bits 2 }

abbrev pub status_of : Set → Status
status_of s = record { bits = as_byte s }

abbrev pub only_draw : Set
only_draw = record { x = false; o = false; draw = true }

-- the byte of a set that holds a side alone
abbrev pub won_byte : Player → ℕ
won_byte w = as_byte (for_player w)
