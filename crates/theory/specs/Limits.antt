-- What a caller may ask of a search.
use Rattle.std.specs.Prelude.{ℕ}

pub record Limits : Type 0 where
  -- the deepest search, and so the places of a variation
  pub deepest : ℕ
  -- the most positions, and the most words of a table
  pub positions : ℕ
  pub words : ℕ

abbrev pub console : Limits
console = record { deepest = 81; positions = 1000000000; words = 196608 }
