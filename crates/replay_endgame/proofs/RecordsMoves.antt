-- The moves that a record lists: those of the rules where moves are judged; and what the code's tests say of them.
use mathlib.Core.Path.{◌≡◌, refl, sym, ap, ◌∙◌}
use mathlib.Core.Bool.{Bool, true, false}
use mathlib.Core.List.{List, [], ◌∷◌}
use Prim.Native.Nat.{ℕ}
use native.Mathlib.Omega.{arith}
use lib.Dec.{T, T_not}
use lib.ListN.{length}
use denote.Floats.{is_true}
use Rattle.base.specs.Bits.{bit}
use Rattle.base.specs.Branch.{when◌then◌else◌}
use Rattle.base.specs.Lists.{any, filter}
use Rattle.base.proofs.ListsAgree.{false_by}
use Rattle.rules.specs.declared.GameState.{GameState}
use Rattle.rules.specs.declared.GameState.TheVariants.{InPlay, Drawn, Won}
use Rattle.rules.specs.declared.Player.{Player}
use Rattle.rules.specs.declared.Player.TheVariants.{X, O}
use Rattle.rules.specs.Board.{in_play, has_line}
use Rattle.rules.specs.Position.{Position, unfinished, won_boards}
use Rattle.rules.specs.Play.{accepts}
use Rattle.rules.specs.Moves.{moves}
use Rattle.rules.specs.Sound.{sound}
use Rattle.rules.proofs.Sound.{sound→}
use Rattle.boards.specs.declared.moves.MoveIterator.{MoveIterator}
use Rattle.boards.specs.Cursor.{row_moves, moves_left, cursor_over}
use Rattle.boards.proofs.Cursor.{cursor_kept}
use Rattle.replay_endgame.specs.Records.{has_line_of_boards, reopened, listed_moves, or_first, expected_moves}

module _ (p : Position) where
  -- ---- a line of boards
  module _ (e : unfinished p ≡ true) where
    pub lined_by_x : has_line (won_boards p X) ≡ true → true ≡ has_line_of_boards p
    unfolding any
    lined_by_x x = rw (e, x)

    pub lined_by_o : has_line (won_boards p X) ≡ false → (o : Bool) → has_line (won_boards p O) ≡ o → o ≡ has_line_of_boards p
    unfolding any
    lined_by_o x true h = rw (e, x, h)
    lined_by_o x false h = rw (e, x, h)

  -- ---- the cursor over the list
  pub none_listed : has_line_of_boards p ≡ true → moves_left (record { top = 0; middle = 0; bottom = 0 }) ≡ listed_moves p
  unfolding listed_moves when◌then◌else◌ moves_left row_moves filter bit
  none_listed e = rw e

  pub all_listed : has_line_of_boards p ≡ false → (q : Position) → q ≡ reopened p → (it : MoveIterator) → it ≡ cursor_over (moves q) →
      moves_left it ≡ listed_moves p
  unfolding listed_moves when◌then◌else◌ moves
  all_listed e q f it h = ap moves_left h ∙ cursor_kept (accepts q) ∙ ap moves f ∙ rw e

  -- ---- what is expected
  pub first_expected : length (listed_moves p) ≡ 0 → expected_moves p ≡ 0 ∷ []
  first_expected h = go (listed_moves p) h
    where
      go : (ms : List ℕ) → length ms ≡ 0 → or_first ms ≡ 0 ∷ []
      go [] h = refl
      go (m ∷ ms) h = absurd (omega arith)

  pub some_expected : (length (listed_moves p) ≡ 0 → ⊥) → expected_moves p ≡ listed_moves p
  some_expected h = go (listed_moves p) h
    where
      go : (ms : List ℕ) → (length ms ≡ 0 → ⊥) → or_first ms ≡ ms
      go [] h = absurd (h refl)
      go (m ∷ ms) h = refl

  -- ---- where moves are judged
  as_it_is : (s : GameState) → s ≡ p.state → T (in_play s) → reopened p ≡ p
  as_it_is InPlay e t = λ i. record { turn = p.turn; next_board = p.next_board; cells = p.cells; states = p.states; state = e i }
  as_it_is Drawn e t = absurd t
  as_it_is (Won w) e t = absurd t

  pub judged_listed : T (unfinished p) → T (sound p) → listed_moves p ≡ moves p
  unfolding listed_moves when◌then◌else◌
  judged_listed u s =
      rw (sym (lined_by_o (is_true (unfinished p) u) (none X) false (none O))) (ap moves (as_it_is p.state refl u))
    where
      none : (w : Player) → has_line (won_boards p w) ≡ false
      none w = let own = has_line (won_boards p w) in false_by own (T_not own ((sound→ p s).no_line w))
