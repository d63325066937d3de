-- The entry's refusals at their edges, computed: each number, the limits that it rests on, and the order of the four.
use mathlib.Core.Path.{◌≡◌, refl}
use Prim.Native.Nat.{ℕ}
use Rattle.base.specs.Branch.{when◌then◌else◌}
use Rattle.base.specs.Checks.{first_failed}
use Rattle.rules.specs.Evaluation.{accepted_weights}
use Rattle.theory.specs.Reported.{Settings, entry_refusal}

-- a depth, an allowance, and a weight, thrice
abbrev asking : ℕ → ℕ → ℕ → Settings
asking d n w = record { max_depth = d; allowance = n; weights = record { one = w; two = w; board = w } }

-- three weights
abbrev weighing : ℕ → ℕ → ℕ → Settings
weighing a b w = record { max_depth = 1; allowance = 1; weights = record { one = a; two = b; board = w } }

pub record EntryEdges : Type 0 where
  pub least : entry_refusal (asking 1 1 0) 0 ≡ 0
  pub most : entry_refusal (asking 81 1000000000 1000) 196608 ≡ 0
  -- what a later check would refuse too is refused by the first
  pub no_depth : entry_refusal (asking 0 0 1001) 1 ≡ 15
  pub too_deep : entry_refusal (asking 82 0 1001) 1 ≡ 15
  pub no_position : entry_refusal (asking 81 0 1001) 1 ≡ 16
  pub too_many_positions : entry_refusal (asking 81 1000000001 1001) 1 ≡ 16
  pub half_an_entry : entry_refusal (asking 81 1000000000 1001) 196607 ≡ 17
  pub too_many_words : entry_refusal (asking 81 1000000000 1001) 196611 ≡ 17
  pub too_great_weights : entry_refusal (asking 81 1000000000 1001) 196608 ≡ 20
  pub too_great_one : entry_refusal (weighing 1001 3 20) 0 ≡ 20
  pub too_great_two : entry_refusal (weighing 1 1001 20) 0 ≡ 20
  pub too_great_board : entry_refusal (weighing 1 3 1001) 0 ≡ 20

pub entry_edges : EntryEdges
unfolding entry_refusal first_failed accepted_weights when◌then◌else◌
entry_edges = record {
  least = refl;
  most = refl;
  no_depth = refl;
  too_deep = refl;
  no_position = refl;
  too_many_positions = refl;
  half_an_entry = refl;
  too_many_words = refl;
  too_great_weights = refl;
  too_great_one = refl;
  too_great_two = refl;
  too_great_board = refl;
}
