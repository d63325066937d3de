-- What `make_move` gives, from the number that `check_move` has answered.
use Rattle.std.specs.Prelude.{Ok, Err}
use mathlib.Core.Path.{◌≡◌, sym, ap, ◌∙◌}
use Prim.Native.Nat.{ℕ, ◌<◌}
use native.Mathlib.Omega.{arith}
use lib.Dec.{T}
use lib.ListN.{length}
use Rattle.rules.specs.Position.{open_board, free_cell}
use Rattle.rules.specs.Play.{board_of, cell_of, accepts, play}
use Rattle.rules.proofs.Play.{accepts→}
use Rattle.boards.specs.declared.moves.Move.{Move}
use Rattle.boards.specs.declared.moves.MoveError.{MoveError}
use Rattle.boards.specs.Answers.{move_error_number}
use Rattle.boards.proofs.Answers.{error_not_0}
use Rattle.game.specs.declared.Game.{Game}
use Rattle.game.specs.Meaning.{position_of}
use Rattle.game.specs.After.{after_move, game_after, refusal, Plays}
use Rattle.game.proofs.AfterRefusals.{nought_accepts, refused_not_accepts}
use Rattle.game.proofs.Meaning.{game_accepted, game_refused, game_after_means}

module _ (g : Game) (m : Move) where
  module _ (e : 0 ≡ refusal (play (position_of g) m.bits)) (b c : ℕ) (eb : b ≡ board_of m.bits) (ec : c ≡ cell_of m.bits) where
    accepted : T (accepts (position_of g) m.bits)
    accepted = nought_accepts (position_of g) m.bits (sym e)

    -- what `play` asks
    pub may_play : (b < 9) × (c < 9) × T (open_board (position_of g) b) × T (free_cell (position_of g) b c)
    may_play = let l = accepts→ (position_of g) m.bits accepted in rw (eb, ec) (l.board, l.cell, l.opened, l.empty)

    pub plays_accepted : (h : Game) → h ≡ after_move g b c → length g.local_boards.rows ≡ 3 → Plays g m (Ok h)
    plays_accepted h p n =
        let q : h ≡ game_after g m.bits = p ∙ (λ i. after_move g (eb i) (ec i)) ∙ sym (game_accepted g m.bits accepted) in
        record { number = e; exact = q; position = ap position_of q ∙ game_after_means g m.bits n }

  pub plays_refused : (r : MoveError) → move_error_number r ≡ refusal (play (position_of g) m.bits) →
      length g.local_boards.rows ≡ 3 → Plays g m (Err r)
  plays_refused r k n =
      let q : g ≡ game_after g m.bits = sym (game_refused g m.bits
      (refused_not_accepts (position_of g) m.bits (λ z. omega (arith, error_not_0 r)))) in
      record { number = k; exact = q; position = ap position_of q ∙ game_after_means g m.bits n }
