-- Play keeps the hash worked out afresh.
use Rattle.std.specs.Prelude.{Option}
use mathlib.Core.Path.{◌≡◌, refl, sym, ap, ◌∙◌, subst}
use mathlib.Core.Logic.{inl, inr}
use Prim.Native.Nat.{ℕ}
use lib.ListN.{length}
use Rattle.base.specs.Branch.{when◌then◌else◌}
use Rattle.base.proofs.Bool.{is}
use Rattle.rules.specs.declared.Player.{Player}
use Rattle.rules.specs.declared.GameState.{GameState}
use Rattle.rules.specs.Play.{board_of, cell_of, accepts}
use Rattle.rules.specs.Hash.{cell_key, xors, cells_hash, board_hash, hash, hash_after, with_turn, zobrist}
use Rattle.rules.proofs.Hash.{hash_kept_is_fresh}
use Rattle.rules.proofs.Play.{accepts→}
use Rattle.boards.specs.declared.local.LocalBoards.{LocalBoards}
use Rattle.boards.specs.declared.states.GlobalStates.{GlobalStates}
use Rattle.game.specs.declared.Game.{Game}
use Rattle.game.specs.Meaning.{position_of}
use Rattle.game.specs.After.{after_move, game_after}
use Rattle.game.specs.Built.{new_game, packed, recalculated}
use Rattle.game.proofs.Meaning.{after_move_means, game_accepted, game_refused, new_game_means}

-- ---- the hash that a game has is the one worked out afresh from its position
abbrev pub Fresh : Game → Type 0
Fresh g = g.hash ≡ hash (position_of g)

-- play keeps it so
pub game_after_hash : (g : Game) (m : ℕ) → length g.local_boards.rows ≡ 3 → Fresh g → Fresh (game_after g m)
unfolding after_move
game_after_hash g m n e = elim (is (accepts (position_of g) m)) [
  | inl t ↦ (let p = position_of g in let b = board_of m in let c = cell_of m in let l = accepts→ p m t in
      ap (λ (h : Game). h.hash) (game_accepted g m t)
      ∙ ap (hash_after p b c) e
      ∙ sym (hash_kept_is_fresh p b c l)
      ∙ ap hash (sym (ap position_of (game_accepted g m t) ∙ after_move_means g b c n l.board l.cell l.opened l.empty)))
  | inr t ↦ subst Fresh (sym (game_refused g m t)) e
]

pub new_game_hash : Fresh new_game
unfolding hash xors board_hash cells_hash cell_key when◌then◌else◌
new_game_hash = sym (ap hash new_game_means)

pub packed_hash : (w : Player) (n : Option ℕ) (l : LocalBoards) (s : GlobalStates) (t : GameState) → Fresh (packed w n l s t)
unfolding packed hash
packed_hash w n l s t = refl

-- the game's state is no part of it
pub recalculated_hash : (g : Game) → Fresh g → Fresh (recalculated g)
unfolding recalculated hash
recalculated_hash g e = e

-- with next board and side to move it is Zobrist's hash of the rules
pub zobrist_fresh : (g : Game) → Fresh g → with_turn (position_of g) g.hash ≡ zobrist (position_of g)
unfolding zobrist
zobrist_fresh g e = ap (with_turn (position_of g)) e
