-- The byte at each place of a game's text, as the code has it.
use Rattle.std.specs.Prelude.{Option, None, Some, nat_eq}
use mathlib.Core.Path.{◌≡◌, refl, sym, ◌∙◌, subst}
use mathlib.Core.Bool.{Bool, true, false}
use mathlib.Core.List.{List}
use Prim.Native.Nat.{ℕ, zero, suc, ◌+◌, ◌-◌, ◌/◌, ◌%◌, ◌≤◌, ◌<◌}
use native.Mathlib.Omega.{arith}
use native.Mathlib.Decide.{ℕ_discrete}
use lib.ListN.{get_or}
use denote.Param.Members.{Mut}
use Rattle.std.specs.Fn.{Called}
use Rattle.std.specs.Array.{IsFromFnResultFrom}
use Rattle.std.specs.Option.{option_eq}
use borrow.Author.Tests.{lt-ltb, le-ltb, ne_eqb}
use Rattle.base.specs.Branch.{when◌then◌else◌}
use Rattle.rules.specs.declared.CellState.{CellState}
use Rattle.rules.specs.declared.GameState.{GameState}
use Rattle.rules.specs.Position.{Position, same_next_board}
use Rattle.text.specs.Bytes.{semicolon, slash, at_mark, letter}
use Rattle.text.specs.Writing.{state_byte, cell_byte, overall_byte, cells_byte, byte_at}
use Rattle.text.proofs.Writing.{slash_every_tenth, cell_elsewhere}

module _ (p : Position) (i : ℕ) where
  -- the side
  pub at_side : i ≡ 0 → letter p.turn ≡ byte_at p i
  unfolding byte_at when◌then◌else◌
  at_side e = rw e

  -- the two semicolons
  pub at_first : i ≡ 1 → semicolon ≡ byte_at p i
  unfolding byte_at when◌then◌else◌
  at_first e = rw e

  pub at_second : i ≡ 11 → semicolon ≡ byte_at p i
  unfolding byte_at when◌then◌else◌
  at_second e = rw e

  module _ (n0 : i ≡ 0 → ⊥) (n1 : i ≡ 1 → ⊥) where
    by_mark : i < 11 → byte_at p i ≡ overall_byte p (i - 2)
    unfolding byte_at when◌then◌else◌
    by_mark h = rw (ne_eqb i 0 n0, ne_eqb i 1 n1, ne_eqb i 11 (λ e. omega arith), lt-ltb i 11 h)

    -- the board that is due, and another
    pub at_due : (r : Bool) → i < 11 → r ≡ same_next_board p.next_board (Some (i - 2)) → r ≡ true → at_mark ≡ byte_at p i
    unfolding overall_byte when◌then◌else◌
    at_due r h e t = sym (by_mark h ∙ rw (sym e ∙ t))

    pub at_state : (r : Bool) (s : GameState) → i < 11 → r ≡ same_next_board p.next_board (Some (i - 2)) → r ≡ false
        → s ≡ p.states (i - 2) → state_byte s ≡ byte_at p i
    unfolding overall_byte when◌then◌else◌
    at_state r s h e t f = rw f (sym (by_mark h ∙ rw (sym e ∙ t)))

    module _ (h : 11 ≤ i) (n11 : i ≡ 11 → ⊥) where
      by_cell : byte_at p i ≡ cells_byte p (i - 12)
      unfolding byte_at when◌then◌else◌
      by_cell = rw (ne_eqb i 0 n0, ne_eqb i 1 n1, ne_eqb i 11 n11, le-ltb i 11 h)

      -- a `/`, and a cell
      pub at_slash : (i - 12) % 10 ≡ 9 → slash ≡ byte_at p i
      at_slash e = sym (by_cell ∙ slash_every_tenth p (i - 12) e)

      pub at_cell : (s : CellState) → ((i - 12) % 10 ≡ 9 → ⊥) → s ≡ p.cells ((i - 12) / 10) ((i - 12) % 10) →
          cell_byte s ≡ byte_at p i
      at_cell s n e = rw e (sym (by_cell ∙ cell_elsewhere p (i - 12) n))

-- the comparison of the code is that of the definitions
pub same_due : (d : Option ℕ) (b : ℕ) → option_eq nat_eq d (Some b) ≡ same_next_board d (Some b)
same_due None b = refl
same_due (Some c) b = refl
