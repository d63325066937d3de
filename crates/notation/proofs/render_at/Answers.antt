-- Each way out is a place of the text.
use Rattle.std.specs.Prelude.{Option, Some, nat_eq}
use Rattle.std.specs.Option.{option_eq}
use mathlib.Core.Path.{◌≡◌, ap, ◌∙◌}
use mathlib.Core.Logic.{⊎_elim}
use Prim.Native.Nat.{ℕ, ◌-◌}
use Rattle.rules.specs.Position.{same_next_board}
use Rattle.text.specs.Bytes.{letter}
use Rattle.game.specs.Meaning.{position_of}
use Rattle.notation.proofs.PartsBytes.{same_due, at_side, at_first, at_second, at_due, at_state, at_slash, at_cell}
use borrow.Author.Rules.{rules}
use Rattle.notation.proofs.render_at.Goals as goal
use Rattle.notation.proofs.render_at.Goals.{After-eq}

pub returns-in-0 : goal.returns-in-0
returns-in-0 c = c.letter.ensures ∙ ap letter c.player.ensures ∙ at_side _ _ c.in-0.is

pub returns-in-1 : goal.returns-in-1
returns-in-1 c = ⊎_elim (at_first _ _) (at_second _ _) c.in-1.is

-- whether the board is due
due : (c : After-eq) → c.eq.result ≡ same_next_board c.args.g.next_board (Some (c.args.i - 2))
due c =
    c.eq.ensures ∙ ap (λ (d : Option ℕ). option_eq nat_eq d (Some (c.args.i - 2))) c.board_to_play.ensures
    ∙ same_due c.args.g.next_board (c.args.i - 2)

pub returns-then-eq : goal.returns-then-eq
returns-then-eq c =
    at_due (position_of c.args.g) _ (search rules) (search rules) _ (search rules) (due (goal.at.returns-then-eq c).After-eq) c.if-eq.true

pub returns-else-eq : goal.returns-else-eq
returns-else-eq c =
    c.state_byte.ensures ∙ at_state (position_of c.args.g) _ (search rules) (search rules) _ _ (search rules)
    (due (goal.at.returns-else-eq c).After-eq) c.if-eq.false c.at.ensures

pub returns-then-k-eq9 : goal.returns-then-k-eq9
returns-then-k-eq9 c = at_slash (position_of c.args.g) _ (search rules) (search rules) (search rules) (search rules) c.if-k-eq9.true

pub returns-else-k-eq9 : goal.returns-else-k-eq9
returns-else-k-eq9 c =
    c.cell_byte.ensures ∙ at_cell (position_of c.args.g) _ (search rules) (search rules) (search rules) (search rules) _
    c.if-k-eq9.false c.at-else-k-eq9.ensures
