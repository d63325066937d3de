-- What the boards before the next one give, and what the others do, make the hash.
use mathlib.Core.Path.{◌≡◌, refl, sym, ap, ◌∙◌}
use native.Mathlib.Omega.{arith}
use lib.Bits.{xor_zero_r}
use borrow.Author.Rules.{rules}
use Rattle.rules.specs.Hash.{board_hash, xors, hash}
use Rattle.boards.specs.Packed.{cell_at, state_at}
use Rattle.boards.proofs.RowsHash.{one_more}
use Rattle.game.specs.Built.{parts, with_hash, packed}
use Rattle.game.proofs.Game.pack.Goals as goal

pub loop-board-init : goal.loop-board-init
unfolding hash
loop-board-init c = (search rules, refl)

pub loop-board-preserved : goal.loop-board-preserved
loop-board-preserved c =
    let a = c.args in
    let l = c.loop-board in
    let h = c.loop-board-test.true in (
      search rules,
      one_more (λ b. board_hash b (cell_at a.local_boards b) (state_at a.global_states b)) l.board h l.hash
          c.board_hash-hash.result _
          (c.board_hash-hash.ensures ∙ ap (board_hash l.board (cell_at a.local_boards l.board)) c.at.ensures)
          l.invariant.1,
    )

pub returns : goal.returns
unfolding packed xors
returns c =
    let a = c.args in
    let e : c.loop-board.board ≡ 9 = omega arith in
    ap (with_hash (parts a.next_player a.next_board a.local_boards a.global_states a.game_state))
    (sym (xor_zero_r c.loop-board.hash) ∙ (rw e at c.loop-board.invariant.1))
