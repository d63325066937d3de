-- The value of a board: its score while it is in play, and its weight for the side that has won it.
use mathlib.Core.Path.{◌≡◌, refl, sym, ap, ◌∙◌}
use mathlib.Core.Bool.{Bool, not, cond}
use Prim.Native.Nat.{ℕ, ◌+◌, ◌*◌, ◌<◌}
use native.Mathlib.Omega.{arith}
use lib.Dec.{T}
use lib.IntN.{pos}
use Rattle.base.proofs.ListsPlaces.{run_at}
use Rattle.base.specs.Branch.{when◌then◌else◌}
use Rattle.base.specs.Bits.{bit, digits}
use Rattle.base.specs.Integers.{sum}
use Rattle.base.proofs.Integers.{hi, lo, ng}
use Rattle.base.proofs.Sums.{sum_same}
use Rattle.rules.specs.declared.Player.TheVariants.{X, O}
use Rattle.rules.specs.declared.GameState.{GameState}
use Rattle.rules.specs.declared.GameState.TheVariants.{InPlay, Drawn, Won}
use Rattle.rules.specs.declared.Weights.{Weights}
use Rattle.rules.specs.Board.{in_play, won_by, lines}
use Rattle.rules.specs.Position.{Position, has, won_boards}
use Rattle.rules.specs.Evaluation.{board_line, board_score}
use Rattle.evaluation.specs.Values.{value_in, board_value, values_of, value_at}
use Rattle.evaluation.proofs.ValuesLines.{count_digits}

-- the lines of a board, by the nine digits of each side
pub board_sum : (w : Weights) (f g : ℕ → Bool) (x o : ℕ) → x ≡ digits f 9 → o ≡ digits g 9 →
    sum (board_line w (bit x) (bit o)) lines ≡ sum (board_line w f g) lines
unfolding board_line
board_sum w f g x o e d =
    sum_same (board_line w (bit x) (bit o)) (board_line w f g) lines (λ l i. rw (count_digits f x l e i, count_digits g o l d i))

module _ (w : Weights) (p : Position) (b : ℕ) where
  pub value_is : (s : GameState) → p.states b ≡ s → value_in w p b s ≡ board_value w p b
  unfolding board_value
  value_is s e = ap (value_in w p b) (sym e)

  pub value_open : p.states b ≡ InPlay → sum (board_line w (has p X b) (has p O b)) lines ≡ board_value w p b
  unfolding board_score when◌then◌else◌
  value_open e = rw e at (value_is InPlay e)

  closed_score : (s : GameState) → p.states b ≡ s → T (not (in_play s)) → board_score w p b ≡ pos 0
  unfolding board_score when◌then◌else◌
  closed_score InPlay e t = absurd t
  closed_score Drawn e t = rw e
  closed_score (Won v) e t = rw e

  -- its score, and the weight for each side that has won it
  pub value_parts : hi (board_value w p b) + lo (board_score w p b) + cond (won_boards p O b) 1 0 * w.board
      ≡ lo (board_value w p b) + hi (board_score w p b) + cond (won_boards p X b) 1 0 * w.board
  unfolding board_value hi lo
  value_parts = go (p.states b) (closed_score (p.states b) refl)
    where
      go : (s : GameState) → (T (not (in_play s)) → board_score w p b ≡ pos 0)
          → hi (value_in w p b s) + lo (board_score w p b) + cond (won_by O s) 1 0 * w.board
          ≡ lo (value_in w p b s) + hi (board_score w p b) + cond (won_by X s) 1 0 * w.board
      go InPlay e = omega arith
      go Drawn e = rw (e tt)
      go (Won X) e = rw (e tt) (omega arith)
      go (Won O) e = rw (e tt) (omega (arith, ng (pos w.board)))

-- ---- the nine values
pub nine_values : (w : Weights) (p : Position) (b : ℕ) → b < 9 → value_at (values_of w p) b ≡ board_value w p b
unfolding values_of
nine_values w p b h = let e : 0 + b ≡ b = omega arith in run_at (board_value w p) (pos 0) 0 9 b h ∙ ap (board_value w p) e
