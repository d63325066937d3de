-- What `judge` says of a move outside the critical boards.
use mathlib.Core.Path.{◌≡◌, sym, ap, ◌∙◌}
use mathlib.Core.Bool.{Bool, not}
use Prim.Native.Nat.{ℕ, ◌<◌}
use lib.Bits.{bit_or}
use lib.Dec.{T}
use Rattle.base.specs.Bits.{bit, digits}
use Rattle.rules.specs.declared.Player.{Player}
use Rattle.rules.specs.Board.{other}
use Rattle.rules.specs.Position.{Position, open_board}
use Rattle.rules.specs.Play.{board_of, cell_of}
use Rattle.rules.specs.Sound.{sound}
use Rattle.rules.specs.Status.{for_player}
use Rattle.rules.specs.Endgame.{critical, suits}
use Rattle.boards.specs.declared.moves.Move.{Move}
use Rattle.status.specs.Sets.{status_of}
use Rattle.game.specs.Meaning.{position_of}
use Rattle.endgame.proofs.PartsAttack.{set_suits, any_critical, none_critical, known_critical}
use Rattle.endgame.proofs.PartsAttack.{judged_lost, judged_open, judged_safe, judged_blocking}
use Rattle.endgame.proofs.move_status.Goals as goal
use Rattle.endgame.proofs.move_status.Goals.{else-defender-ne0-via-then-defender-ne0+then-not-holds+else-holds}
use Rattle.endgame.proofs.move_status.Goals.{else-defender-ne0-via-then-defender-ne0+else-not-holds, else-defender-ne0-via-else-defender-ne0}

-- the other side's critical boards
others : (p : Position) (t w : Player) (n : ℕ) → t ≡ p.turn → w ≡ other t → n ≡ digits (critical p w) 9 →
    n ≡ digits (critical p (other p.turn)) 9
others p t w n a b e = e ∙ ap (λ (w : Player). digits (critical p w) 9) (b ∙ ap other a)

-- whether the move is in one of them, and whether it sends the other side where it suits
module _ (p : Position) (m : Move) (n : ℕ) (e : n ≡ digits (critical p (other p.turn)) 9) where
  here : T (sound p) → (b : ℕ) (r : Bool) → r ≡ bit n b → b ≡ board_of m.bits → critical p (other p.turn) (board_of m.bits) ≡ r
  here s b r f g = known_critical _ _ _ e s _ _ (f ∙ ap (bit n) g)

  sent : (done : ℕ) → done ≡ digits (λ b. not (open_board p b)) 9 → cell_of m.bits < 9 → (i : ℕ) (r : Bool) →
      r ≡ bit (bit_or done n) i → i ≡ cell_of m.bits → suits p (other p.turn) (cell_of m.bits) ≡ r
  sent done d h i r f g = sym (set_suits p _ _ e done d _ h) ∙ ap (bit (bit_or done n)) (sym g) ∙ sym f

pub returns-then-holds : goal.returns-then-holds
returns-then-holds c =
    let p = position_of c.args.pos in
    let e = others p _ _ _ c.player.ensures c.other-who.ensures c.critical_boards-defender.ensures in
    c.for_player.ensures
    ∙ ap (λ (w : Player). status_of (for_player w)) (c.other-who.ensures ∙ ap other c.player.ensures)
    ∙ ap status_of (judged_lost _ _ (any_critical _ _ _ e c.if-defender-ne0.true)
    (here p c.args.m _ e c.requires.0 _ _ c.holds.ensures c.global.ensures ∙ c.if-not-holds.true)
    (sent p c.args.m _ e _ c.donebits.ensures c.requires.1 _ _ c.holds-then-not-holds.ensures c.local.ensures ∙ c.if-holds.true))

pub returns : goal.returns
returns c =
    let p = position_of c.args.pos in
    let e = others p _ _ _ c.player.ensures c.other-who.ensures c.critical_boards-defender.ensures in
    c.unproven.ensures ∙ ap status_of (elim c.else-defender-ne0.branch [
      | else-defender-ne0-via-then-defender-ne0+then-not-holds+else-holds w ↦
          judged_open _ _ (any_critical _ _ _ e w.if-defender-ne0.true)
          (here p c.args.m _ e c.requires.0 _ _ w.holds.ensures w.global.ensures ∙ w.if-not-holds.true)
          (sent p c.args.m _ e _ c.donebits.ensures c.requires.1 _ _ w.holds-then-not-holds.ensures w.local.ensures ∙ w.if-holds.false)
      | else-defender-ne0-via-then-defender-ne0+else-not-holds w ↦
          judged_blocking _ _ (here p c.args.m _ e c.requires.0 _ _ w.holds.ensures w.global.ensures ∙ w.if-not-holds.false)
      | else-defender-ne0-via-else-defender-ne0 w ↦ judged_safe _ _ (none_critical _ _ _ e w.if-defender-ne0.false)
    ])
