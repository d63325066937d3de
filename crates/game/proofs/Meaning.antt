-- The struct after a move means the position after it: the new bits change the cells and states of the board that is played, and nothing
-- else.
use Rattle.std.specs.Prelude.{Option, None, Some}
use Rattle.std.specs.Bool.{then_some}
use mathlib.Core.Path.{◌≡◌, refl, sym, ap, ◌∙◌}
use mathlib.Core.Bool.{Bool, true, false, not}
use mathlib.Core.Logic.{inl, inr}
use Prim.Native.Nat.{ℕ, ◌+◌, ◌*◌, ◌/◌, ◌<◌}
use native.Mathlib.Decide.{dec_lt}
use native.Mathlib.Omega.{arith}
use lib.Bits.{bit_xor, xor_comm, xor_zero_l}
use lib.Dec.{T, T_not}
use lib.ListN.{length, get_or, get_or-replicate}
use Rattle.base.specs.Branch.{when◌then◌else◌}
use Rattle.base.specs.Update.{update}
use Rattle.base.proofs.Branch.{if_ind}
use Rattle.base.proofs.Bool.{is}
use Rattle.base.proofs.Update.{update_at}
use Rattle.base.proofs.BitsOperations.{bit_nought}
use Rattle.rules.specs.declared.Player.{Player}
use Rattle.rules.specs.declared.CellState.{CellState}
use Rattle.rules.specs.declared.CellState.TheVariants.{Empty}
use Rattle.rules.specs.declared.GameState.{GameState}
use Rattle.rules.specs.declared.GameState.TheVariants.{InPlay, Drawn, Won}
use Rattle.rules.specs.Board.{other, mine, blank, in_play, won_by, result_of}
use Rattle.rules.specs.Position.{Position, start, open_board, free_cell}
use Rattle.rules.specs.Play.{board_of, cell_of, accepts, after, tried}
use Rattle.rules.specs.Hash.{cell_keys, cell_key, board_key, cells_hash, hash_after}
use Rattle.rules.proofs.Play.{same_position, accepts→, tried_accepted, tried_refused}
use Rattle.rules.proofs.Sound.{row, made}
use Rattle.boards.specs.declared.local.Row.{Row}
use Rattle.boards.specs.declared.local.LocalBoards.{LocalBoards}
use Rattle.boards.specs.declared.states.GlobalStates.{GlobalStates}
use Rattle.boards.specs.Packed.{no_row, place, cell_at, state_at}
use Rattle.boards.specs.With.{with_cell, with_state}
use Rattle.boards.specs.Rows.{row_cell, closing}
use Rattle.boards.proofs.With.{cell_after, state_after}
use Rattle.boards.proofs.Packed.{cell_in, cell_past_board, cell_past_cell, state_in, state_past}
use Rattle.game.specs.declared.Game.{Game}
use Rattle.game.specs.Meaning.{position_of}
use Rattle.game.specs.After.{after_move, game_after}
use Rattle.game.specs.Built.{no_boards, no_states, new_game}

-- the cell's board is due if it is in play
pub next_due : (s : GlobalStates) (c : ℕ) (ok : Bool) → ok ≡ in_play (state_at s c) →
    then_some ok c ≡ (when in_play (state_at s c) then (λ _. Some c) else λ _. None)
unfolding when◌then◌else◌
next_due s c true e = rw (sym e)
next_due s c false e = rw (sym e)

turned : (h k r s : ℕ) → bit_xor (bit_xor (bit_xor h k) r) s ≡ bit_xor s (bit_xor r (bit_xor k h))
turned h k r s = xor_comm (bit_xor (bit_xor h k) r) s ∙ ap (bit_xor s) (xor_comm (bit_xor h k) r ∙ ap (bit_xor r) (xor_comm h k))

-- the key of a played cell comes in, and the board may close: in the order of the code, and of the rules
closed : (b : ℕ) (r : ℕ → CellState) (s : GameState) (h k : ℕ) → closing (bit_xor h k) b r s
    ≡ bit_xor (board_key b s) (bit_xor (when in_play s then (λ _. 0) else λ _. cells_hash b r) (bit_xor k h))
unfolding closing board_key when◌then◌else◌
closed b r InPlay h k = xor_comm h k ∙ sym (xor_zero_l (bit_xor 0 (bit_xor k h)) ∙ xor_zero_l (bit_xor k h))
closed b r Drawn h k = turned h k (cells_hash b r) _
closed b r (Won w) h k = turned h k (cells_hash b r) _

-- ---- a move in a free cell c of an open board b
module _ (g : Game) (b c : ℕ) (n : length g.local_boards.rows ≡ 3) (hb : b < 9) (hc : c < 9)
    (o : T (open_board (position_of g) b)) (f : T (free_cell (position_of g) b c)) where
  abbrev p : Position
  p = position_of g

  abbrev w : Player
  w = g.next_player

  abbrev boards : LocalBoards
  boards = with_cell g.local_boards b c w

  abbrev states : GlobalStates
  states = with_state g.global_states b ((after p b c).states b)

  cells_made : cell_at boards ≡ (after p b c).cells
  unfolding after
  cells_made = cell_after g.local_boards b c w n hb hc f

  row_made : cell_at boards b ≡ row p b c
  row_made =
      ap (λ (h : ℕ → ℕ → CellState). h b) (cell_after g.local_boards b c w n hb hc f)
      ∙ update_at (λ (r : ℕ → CellState). r ≡ row p b c) p.cells b (row p b c) refl

  made_here : (after p b c).states b ≡ made p b c
  unfolding after
  made_here = update_at (λ (s : GameState). s ≡ made p b c) p.states b (made p b c) refl

  -- the board's state, as it is looked up in the new boards
  pub state_made : result_of w (λ i. mine w (cell_at boards b i)) (λ i. blank (cell_at boards b i)) ≡ (after p b c).states b
  state_made = ap (λ (r : ℕ → CellState). result_of w (λ i. mine w (r i)) (λ i. blank (r i))) row_made ∙ sym made_here

  states_made : state_at states ≡ (after p b c).states
  unfolding after
  states_made = state_after g.global_states b ((after p b c).states b) hb o ∙ ap (update p.states b) made_here

  pub game_made : result_of w (λ i. won_by w (state_at states i)) (λ i. in_play (state_at states i)) ≡ (after p b c).state
  unfolding after
  game_made = ap (λ (s : ℕ → GameState). result_of w (λ i. won_by w (s i)) (λ i. in_play (s i))) states_made

  -- the position after the move
  pub after_move_means : position_of (after_move g b c) ≡ after p b c
  unfolding after_move
  after_move_means = λ i. record {
    turn = (after p b c).turn;
    next_board = (after p b c).next_board;
    cells = cells_made i;
    states = states_made i;
    state = (after p b c).state;
  }

  -- what the code works out, field by field, is the struct after the move
  module _ (v : Player) (next : Option ℕ) (ls : LocalBoards) (s t : GameState) (ss : GlobalStates) (k h : ℕ)
      (e_player : v ≡ other w)
      (e_next : next ≡ (when in_play (state_at ss c) then (λ _. Some c) else λ _. None))
      (e_boards : ls ≡ boards)
      (e_state : s ≡ result_of w (λ i. mine w (cell_at ls b i)) (λ i. blank (cell_at ls b i)))
      (e_states : ss ≡ with_state g.global_states b s)
      (e_game : t ≡ result_of w (λ i. won_by w (state_at ss i)) (λ i. in_play (state_at ss i)))
      (e_key : k ≡ get_or (cell_keys w) (9 * b + c) 0)
      (e_hash : h ≡ closing (bit_xor g.hash k) b (cell_at ls b) s) where
    state_is : s ≡ (after p b c).states b
    state_is =
        e_state ∙ ap (λ (l : LocalBoards). result_of w (λ i. mine w (cell_at l b i)) (λ i. blank (cell_at l b i))) e_boards ∙ state_made

    states_are : ss ≡ states
    states_are = e_states ∙ ap (with_state g.global_states b) state_is

    next_is : next ≡ (after p b c).next_board
    unfolding after
    next_is =
        e_next ∙ ap (λ (f : ℕ → GameState). when in_play (f c) then (λ _. Some c) else λ _. None)
        (ap state_at states_are ∙ states_made)

    game_is : t ≡ (after p b c).state
    game_is =
        e_game ∙ ap (λ (z : GlobalStates). result_of w (λ i. won_by w (state_at z i)) (λ i. in_play (state_at z i))) states_are
        ∙ game_made

    hash_is : h ≡ hash_after p b c g.hash
    unfolding hash_after cell_key
    hash_is =
        e_hash
        ∙ closed b (cell_at ls b) s g.hash k
        ∙ (λ i. bit_xor (board_key b (state_is i))
        (bit_xor (when in_play (state_is i) then (λ _. 0) else λ _. cells_hash b
        ((ap (λ (l : LocalBoards). cell_at l b) e_boards ∙ row_made) i)) (bit_xor (e_key i) g.hash)))

    pub play_makes : ◌≡◌ {A = Game}
        (record { next_player = v; next_board = next; local_boards = ls; global_states = ss; game_state = t; hash = h })
        (after_move g b c)
    unfolding after_move after
    play_makes =
        λ i. record {
          next_player = e_player i;
          next_board = next_is i;
          local_boards = e_boards i;
          global_states = states_are i;
          game_state = game_is i;
          hash = hash_is i;
        }

-- ---- a move, tried
module _ (g : Game) (m : ℕ) where
  pub game_accepted : T (accepts (position_of g) m) → game_after g m ≡ after_move g (board_of m) (cell_of m)
  unfolding game_after
  game_accepted t =
      if_ind (λ (h : Game). h ≡ after_move g (board_of m) (cell_of m)) (accepts (position_of g) m) _ _ (λ _. refl)
      (λ d. absurd (T_not (accepts (position_of g) m) d t))

  pub game_refused : T (not (accepts (position_of g) m)) → game_after g m ≡ g
  unfolding game_after
  game_refused t =
      if_ind (λ (h : Game). h ≡ g) (accepts (position_of g) m) _ _ (λ u. absurd (T_not (accepts (position_of g) m) t u)) (λ _. refl)

  -- the position after a tried move
  pub game_after_means : length g.local_boards.rows ≡ 3 → position_of (game_after g m) ≡ tried (position_of g) m
  game_after_means n = elim (is (accepts (position_of g) m)) [
    | inl t ↦ (let l = accepts→ (position_of g) m t in ap position_of (game_accepted t)
        ∙ after_move_means g (board_of m) (cell_of m) n l.board l.cell l.opened l.empty
        ∙ sym (tried_accepted (position_of g) m t))
    | inr t ↦ ap position_of (game_refused t) ∙ sym (tried_refused (position_of g) m t)
  ]

-- ---- the empty game
module _ (b c : ℕ) where
  no_cell : Dec (b < 9) → Dec (c < 9) → cell_at no_boards b c ≡ Empty
  no_cell (no q) k = cell_past_board no_boards b c (omega (arith, q))
  no_cell (yes h) (no q) = cell_past_cell no_boards b c (omega (arith, q))
  no_cell (yes h) (yes k) =
      cell_in no_boards b c h k ∙ ap (λ (r : Row). row_cell r (place b c)) (get_or-replicate 3 (b / 3) no_row no_row (omega arith))
      ∙ rw (bit_nought (place b c))

no_state : (b : ℕ) → Dec (b < 9) → state_at no_states b ≡ InPlay
no_state b (yes h) = state_in no_states b h ∙ rw (bit_nought b)
no_state b (no q) = state_past no_states b (omega (arith, q))

pub new_game_means : position_of new_game ≡ start
new_game_means =
    same_position (position_of new_game) start refl refl (λ b c. no_cell b c (dec_lt b 9) (dec_lt c 9)) (λ b. no_state b (dec_lt b 9)) refl
