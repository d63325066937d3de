-- What a table's entry is good for, by the tests that the code makes.
use mathlib.Core.Path.{◌≡◌, sym, ap, ◌∙◌}
use mathlib.Core.Bool.{Bool, true, false}
use Prim.Native.Nat.{ℕ, ◌≤◌, ◌<◌}
use lib.IntN.{ℤ}
use lib.Signed.{le_z}
use borrow.Author.Tests.{le-leb, lt-leb}
use Rattle.base.specs.Branch.{when◌then◌else◌}
use Rattle.theory.specs.Table.{suffices, bound_of, bound_suffices}
use Rattle.table.specs.declared.Bound.{Bound}
use Rattle.table.specs.declared.Entry.{Entry}
use Rattle.table.specs.Entries.{bound_number, entry_means}

module _ (e : Entry) (d : ℕ) (a b : ℤ) where
  pub too_shallow : e.depth < d → false ≡ suffices (entry_means e) d a b
  unfolding suffices
  too_shallow h = rw (lt-leb d e.depth h)

  module _ (h : d ≤ e.depth) where
    deep_enough : suffices (entry_means e) d a b ≡ bound_suffices (bound_number e.bound) e.value a b
    unfolding suffices
    deep_enough = rw (le-leb d e.depth h)

    pub by_bound : (k : Bound) (x : Bool) → e.bound ≡ k → x ≡ bound_suffices (bound_number k) e.value a b →
        x ≡ suffices (entry_means e) d a b
    by_bound k x q p = p ∙ sym (ap (λ (y : Bound). bound_suffices (bound_number y) e.value a b) q) ∙ sym deep_enough

module _ (a b r : ℤ) where
  pub bound_low : le_z r a ≡ true → ◌≡◌ {A = ℕ} 2 (bound_of a b r)
  unfolding bound_of when◌then◌else◌
  bound_low e = rw e

  pub bound_high : le_z r a ≡ false → le_z b r ≡ true → ◌≡◌ {A = ℕ} 1 (bound_of a b r)
  unfolding bound_of when◌then◌else◌
  bound_high e f = rw (e, f)

  pub bound_exact : le_z r a ≡ false → le_z b r ≡ false → ◌≡◌ {A = ℕ} 0 (bound_of a b r)
  unfolding bound_of when◌then◌else◌
  bound_exact e f = rw (e, f)
