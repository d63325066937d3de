-- Sound and proper positions. A move adds only the mover's places, and the mover's lines are looked at, so all play stays sound and proper.
use Rattle.std.specs.Prelude.{Option, None, Some}
use mathlib.Core.Path.{sym, subst}
use mathlib.Core.Bool.{Bool, not, ◌||◌, ◌&&◌}
use mathlib.Core.List.{List, [], ◌∷◌}
use mathlib.Core.Logic.{inl, inr}
use Prim.Native.Nat.{ℕ, ◌<◌}
use lib.Dec.{T, ltb, eqb_refl, ltb→lt, lt→ltb, T_not}
use Rattle.base.specs.Lists.{any, all, In}
use Rattle.base.specs.Update.{update}
use Rattle.base.proofs.Bool.{and→, →and, is, ⇒→, →⇒}
use Rattle.base.proofs.Branch.{if_ind}
use Rattle.base.proofs.Lists.{any_some, all_each, each_all}
use Rattle.base.proofs.Update.{update_ind, update_ind₂}
use Rattle.rules.specs.declared.Player.{Player}
use Rattle.rules.specs.declared.CellState.{CellState}
use Rattle.rules.specs.declared.CellState.TheVariants.{Played}
use Rattle.rules.specs.declared.GameState.{GameState}
use Rattle.rules.specs.Board.{other, sides, blank, mine, in_play, won_by, nine, has_line, result_of}
use Rattle.rules.specs.Position.{Position, start, unfinished, open_board, won_boards, free_cell, has}
use Rattle.rules.specs.Play.{move_of, board_of, cell_of, may, accepts, after, tried, reached}
use Rattle.rules.specs.Moves.{moves}
use Rattle.rules.specs.Sound.{sound, next_board_open, proper}
use Rattle.rules.proofs.Board.{other_differs, side, in_sides, in_nine, nine_in, no_line_mono, result_open, result_other}
use Rattle.rules.proofs.Play.{Legal, accepts→, tried_accepted, tried_refused}
use Rattle.rules.proofs.Moves.{legal_is_listed}

-- ---- the tests, as records
-- what `sound` asks
pub record Fair (p : Position) : Type 0 where
  pub no_line : (w : Player) → T (not (has_line (won_boards p w)))
  pub room : (b : ℕ) → b < 9 → T (open_board p b) → T (any (free_cell p b) nine)
  pub no_board : (b : ℕ) → b < 9 → T (open_board p b) → (w : Player) → T (not (has_line (has p w b)))

fair_board : Position → ℕ → Bool
fair_board p b = any (free_cell p b) nine && all (λ w. not (has_line (has p w b))) sides

pub sound→ : (p : Position) → T (sound p) → Fair p
unfolding sound fair_board
sound→ p t = record {
  no_line = λ w. all_each (λ v. not (has_line (won_boards p v))) w sides r.0 (in_sides w);
  room = λ b h o. (and→ (any (free_cell p b) nine) _ (board b h o)).0;
  no_board =
      λ b h o w. all_each (λ v. not (has_line (has p v b))) w sides (and→ (any (free_cell p b) nine) _ (board b h o)).1 (in_sides w);
}
  where
    r : T (all (λ w. not (has_line (won_boards p w))) sides) × T (all (λ b. not (open_board p b) || fair_board p b) nine)
    r = and→ (all (λ w. not (has_line (won_boards p w))) sides) _ t

    board : (b : ℕ) → b < 9 → T (open_board p b) → T (fair_board p b)
    board b h o =
        ⇒→ (open_board p b) (fair_board p b) (all_each (λ b. not (open_board p b) || fair_board p b) b nine r.1 (in_nine b h)) o

pub →sound : (p : Position) → Fair p → T (sound p)
unfolding sound fair_board
→sound p f =
    →and (all (λ w. not (has_line (won_boards p w))) sides) _ (each_all (λ w. not (has_line (won_boards p w))) sides
    (λ w _. f.no_line w))
    (each_all (λ b. not (open_board p b) || fair_board p b) nine (λ b i. →⇒ (open_board p b) (fair_board p b) (λ o.
    →and (any (free_cell p b) nine) _ (f.room b (nine_in b i) o) (each_all (λ w. not (has_line (has p w b))) sides
    (λ w _. f.no_board b (nine_in b i) o w)))))

-- proper, and sound while unfinished
pub record Good (p : Position) : Type 0 where
  pub due_is : T (next_board_open p p.next_board)
  pub some_open : T (unfinished p) → T (any (open_board p) nine)
  pub fair : T (unfinished p) → Fair p

pub →proper : (p : Position) → T (next_board_open p p.next_board) → (T (unfinished p) → T (any (open_board p) nine)) →
    T (proper p)
unfolding proper
→proper p d o = →and (next_board_open p p.next_board) _ d (→⇒ (unfinished p) _ o)

pub good : (p : Position) → T (proper p) → (T (unfinished p) → T (sound p)) → Good p
unfolding proper
good p t s =
    let r = and→ (next_board_open p p.next_board) _ t in record {
      due_is = r.0;
      some_open = ⇒→ (unfinished p) _ r.1;
      fair = λ o. sound→ p (s o);
    }

pub good_is_sound : (p : Position) → Good p → T (unfinished p) → T (sound p)
good_is_sound p g t = →sound p (g.fair t)

-- ---- after a move
-- in play, with cells r, a board has an empty cell and no side's line
abbrev FairBoard : GameState → (ℕ → CellState) → Type 0
FairBoard g r = T (in_play g) → T (any (λ j. blank (r j)) nine) × ((w : Player) → T (not (has_line (λ j. mine w (r j)))))

-- the cells of the board that is played in, and what becomes of it
abbrev pub row : Position → ℕ → ℕ → ℕ → CellState
row p b c = update (p.cells b) c (Played p.turn)

abbrev pub made : Position → ℕ → ℕ → GameState
made p b c = result_of p.turn (λ i. mine p.turn (row p b c i)) (λ i. blank (row p b c i))

module _ (p : Position) (b c : ℕ) (l : Legal p b c) where
  -- the other side has nothing new in the board
  pub row_other : (i : ℕ) → T (mine (other p.turn) (row p b c i)) → T (has p (other p.turn) b i)
  row_other i =
      update_ind (λ (s : CellState). T (mine (other p.turn) s) → T (has p (other p.turn) b i)) (p.cells b) c (Played p.turn) i
      (λ _ t. absurd (T_not (mine (other p.turn) (Played p.turn)) (other_differs p.turn) t)) (λ t. t)

  -- and no new board
  pub states_other : (i : ℕ) → T (won_by (other p.turn) (update p.states b (made p b c) i)) →
      T (won_boards p (other p.turn) i)
  states_other i =
      update_ind (λ (s : GameState). T (won_by (other p.turn) s) → T (won_boards p (other p.turn) i)) p.states b (made p b c) i
      (λ _ t. absurd (T_not (won_by (other p.turn) (made p b c)) (result_other p.turn _ _) t)) (λ t. t)

  -- the next board is open, whatever the position
  due_after : T (next_board_open (after p b c) (after p b c).next_board)
  unfolding after
  due_after = if_ind (λ (d : Option ℕ). T (next_board_open (after p b c) d)) (in_play (update p.states b (made p b c) c)) _ _
      (λ t. →and (ltb c 9) _ (lt→ltb c 9 l.cell) t) (λ _. tt)

  -- in an unfinished game the mover has no line of boards, and a board is open
  open_after : T (unfinished (after p b c)) → T (not (has_line (won_boards (after p b c) p.turn))) ×
      T (any (open_board (after p b c)) nine)
  unfolding after
  open_after o = result_open p.turn (won_boards (after p b c) p.turn) (open_board (after p b c)) o

  pub after_is_proper : T (proper (after p b c))
  after_is_proper = →proper (after p b c) due_after (λ o. (open_after o).1)

  pub after_is_good : Good p → Good (after p b c)
  unfolding after
  after_is_good g = record { due_is = due_after; some_open = λ o. (open_after o).1; fair = fair }
    where
      f : Fair p
      f = g.fair l.unfinished

      boards : (i : ℕ) → i < 9 → FairBoard (update p.states b (made p b c) i) (update p.cells b (row p b c) i)
      boards i h = update_ind₂ FairBoard p.states p.cells b (made p b c) (row p b c) i
          (λ _ o. let r = result_open p.turn (λ j. mine p.turn (row p b c j)) (λ j. blank (row p b c j)) o in (
            r.1,
            side (λ w. T (not (has_line (λ j. mine w (row p b c j))))) p.turn r.0
                (no_line_mono _ (has p (other p.turn) b) row_other (f.no_board b l.board l.opened (other p.turn))),
          ))
          (λ o. (f.room i h o, f.no_board i h o))

      fair : T (unfinished (after p b c)) → Fair (after p b c)
      fair o = record {
        no_line = side (λ w. T (not (has_line (won_boards (after p b c) w)))) p.turn (open_after o).0
            (no_line_mono _ (won_boards p (other p.turn)) states_other (f.no_line (other p.turn)));
        room = λ i h k. (boards i h k).0;
        no_board = λ i h k. (boards i h k).1;
      }

-- ---- a move, tried: what holds of p and after an accepted move holds where a try leaves the position
pub tried_keeps {κ} : (P : Position → Type κ) (p : Position) (m : ℕ) → (Legal p (board_of m) (cell_of m) →
    P (after p (board_of m) (cell_of m))) → P p → P (tried p m)
tried_keeps P p m a x = elim (is (accepts p m)) [
  | inl t ↦ subst P (sym (tried_accepted p m t)) (a (accepts→ p m t))
  | inr t ↦ subst P (sym (tried_refused p m t)) x
]

-- a good position stays so under any try, accepted or not
pub play_stays_good : (p : Position) → Good p → (m : ℕ) → Good (tried p m)
play_stays_good p g m = tried_keeps Good p m (λ l. after_is_good p (board_of m) (cell_of m) l g) g

-- proper ones stay proper, sound or not
pub play_stays_proper : (p : Position) → T (proper p) → (m : ℕ) → T (proper (tried p m))
play_stays_proper p t m = tried_keeps (λ q. T (proper q)) p m (λ l. after_is_proper p (board_of m) (cell_of m) l) t

-- while unfinished, play stays sound
pub play_stays_sound : (p : Position) → T (sound p) → T (proper p) → (m : ℕ) → T (unfinished (tried p m)) →
    T (sound (tried p m)) × T (proper (tried p m))
play_stays_sound p s t m o = (good_is_sound (tried p m) (play_stays_good p (good p t (λ _. s)) m) o, play_stays_proper p t m)

-- ---- all play from the empty board
pub start_is_sound : T (sound start)
unfolding sound all any has_line
start_is_sound = tt

pub start_is_proper : T (proper start)
unfolding proper any
start_is_proper = tt

pub start_is_good : Good start
start_is_good = good start start_is_proper (λ _. start_is_sound)

-- tried moves leave a good position good
pub reached_good : (p : Position) → Good p → (ms : List ℕ) → Good (reached p ms)
unfolding reached
reached_good p g [] = g
reached_good p g (m ∷ ms) = reached_good (tried p m) (play_stays_good p g m) ms

-- every game from the empty board is sound while unfinished
pub reached_is_sound : (ms : List ℕ) → T (unfinished (reached start ms)) → T (sound (reached start ms))
reached_is_sound ms = good_is_sound (reached start ms) (reached_good start start_is_good ms)

-- ---- a move is left
-- the board that is due, or with a free choice some board in play
playable_board : (p : Position) → Good p → T (unfinished p) → (b : ℕ) × (b < 9) × T (open_board p b) × T (may p.next_board b)
playable_board p g t = go p.next_board g.due_is
  where
    go : (d : Option ℕ) → T (next_board_open p d) → (b : ℕ) × (b < 9) × T (open_board p b) × T (may d b)
    go None u = let r = any_some (open_board p) nine (g.some_open t) in (r.0, nine_in r.0 r.1, r.2, tt)
    go (Some b) u = let r = and→ (ltb b 9) _ u in (b, ltb→lt b 9 r.0, r.1, eqb_refl b)

-- an unfinished sound proper position has a move
pub some_move : (p : Position) → Good p → T (unfinished p) → (m : ℕ) × In m (moves p)
some_move p g t =
    let d = playable_board p g t in
    let c = any_some (free_cell p d.0) nine ((g.fair t).room d.0 d.1 d.2) in (
      move_of d.0 c.0,
      legal_is_listed p d.0 c.0
          (record { board = d.1; cell = nine_in c.0 c.1; unfinished = t; opened = d.2; allowed = d.3; empty = c.2 }),
    )
