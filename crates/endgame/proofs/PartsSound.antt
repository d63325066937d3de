-- Soundness, test by test, in the code's order.
use mathlib.Core.Path.{◌≡◌, sym, ap, ◌∙◌}
use mathlib.Core.Bool.{Bool, true, false, not, ◌&&◌}
use Prim.Native.Nat.{ℕ, ◌+◌, ◌<◌}
use native.Mathlib.Numerals.{add-one}
use lib.ListN.{drop}
use lib.Seq.{drop-cons}
use Rattle.base.specs.Lists.{any, all}
use Rattle.rules.specs.declared.Player.TheVariants.{X, O}
use Rattle.rules.specs.Board.{nine, has_line}
use Rattle.rules.specs.Position.{Position, open_board, won_boards, free_cell, has}
use Rattle.rules.specs.Sound.{sound}
use Rattle.rules.proofs.Board.{nine_at}
use Rattle.endgame.specs.Parts.{live}

module _ (p : Position) (b : ℕ) where
  pub live_closed : open_board p b ≡ false → true ≡ live p b
  unfolding live
  live_closed e = rw e

  module _ (e : open_board p b ≡ true) where
    pub live_full : any (free_cell p b) nine ≡ false → false ≡ live p b
    unfolding live
    live_full f = rw (e, f)

    module _ (f : any (free_cell p b) nine ≡ true) where
      pub live_line_x : has_line (has p X b) ≡ true → false ≡ live p b
      unfolding live all
      live_line_x x = rw (e, f, x)

      pub live_line_o : has_line (has p X b) ≡ false → (o : Bool) → has_line (has p O b) ≡ o → not o ≡ live p b
      unfolding live all
      live_line_o x true y = rw (e, f, x, y)
      live_line_o x false y = rw (e, f, x, y)

module _ (p : Position) where
  pub line_of_x : has_line (won_boards p X) ≡ true → false ≡ sound p
  unfolding sound all
  line_of_x x = rw x

  module _ (x : has_line (won_boards p X) ≡ false) where
    pub line_of_o : has_line (won_boards p O) ≡ true → false ≡ sound p
    unfolding sound all
    line_of_o o = rw (x, o)

    pub no_line : has_line (won_boards p O) ≡ false → all (live p) nine ≡ sound p
    unfolding sound all live
    no_line o = rw (x, o)

-- the boards from i on
module _ (f : ℕ → Bool) (i : ℕ) (h : i < 9) where
  boards_from : all f (drop i nine) ≡ (f i && all f (drop (i + 1) nine))
  unfolding all
  boards_from = ap (all f) (drop-cons nine i 0 h) ∙ rw (nine_at i h, add-one i)

  module _ (b : Bool) (e : all f (drop i nine) ≡ b) where
    pub board_fails : f i ≡ false → false ≡ b
    board_fails t = sym (ap (λ (x : Bool). x && all f (drop (i + 1) nine)) t) ∙ sym boards_from ∙ e

    pub board_passes : f i ≡ true → all f (drop (i + 1) nine) ≡ b
    board_passes t = sym (ap (λ (x : Bool). x && all f (drop (i + 1) nine)) t) ∙ sym boards_from ∙ e
