-- Laws of playing a move: what an accepted one meets, the order of the refusals, and where a try leaves the position.
use Rattle.std.specs.Prelude.{None, Some}
use mathlib.Core.Path.{◌≡◌, refl, sym, ap, ◌∙◌, subst}
use mathlib.Core.Bool.{Bool, true, false, not, cond, ◌&&◌}
use mathlib.Core.List.{List, [], ◌∷◌, ◌++◌}
use mathlib.Core.Logic.{inl, inr}
use Prim.Native.Nat.{ℕ, ◌+◌, ◌≤◌, ◌<◌}
use native.Mathlib.Omega.{arith}
use lib.Dec.{T, ltb, ltb→lt, lt→ltb, T_not, not_T}
use Rattle.base.specs.Branch.{when◌then◌else◌}
use Rattle.base.specs.Lists.{any, all}
use Rattle.base.proofs.Bool.{and→, →and, is}
use Rattle.base.proofs.Branch.{if_ind}
use Rattle.base.proofs.Lists.{some_any}
use Rattle.base.proofs.Checks.{failed_number, rising, InOrder, first_in_order}
use Rattle.rules.specs.declared.Effect.{Effect}
use Rattle.rules.specs.Board.{drawn, state_number, nine}
use Rattle.rules.specs.Position.{is_free, Position, unfinished, open_board, free_cell}
use Rattle.base.specs.Checks.{all_pass, first_failed}
use Rattle.rules.specs.Play.{move_of, board_of, cell_of, may, checks, accepts, after, played, refused, play, left_by, tried}
use Rattle.rules.specs.Play.{reached, effect_in, no_effect, effect, last_effect, effect_number}
use Rattle.rules.proofs.Board.{in_nine, state_most, result_cases}

-- ---- two positions that agree place by place are one
pub same_position : (p q : Position) → p.turn ≡ q.turn → p.next_board ≡ q.next_board →
    ((b c : ℕ) → p.cells b c ≡ q.cells b c) → ((b : ℕ) → p.states b ≡ q.states b) → p.state ≡ q.state → p ≡ q
same_position p q t d c s g = λ i. record { turn = t i; next_board = d i; cells = λ x y. c x y i; states = λ x. s x i; state = g i }

-- ---- the byte of a move
pub board_of_move : (b c : ℕ) → c < 16 → board_of (move_of b c) ≡ b
board_of_move b c h = omega arith

pub cell_of_move : (b c : ℕ) → c < 16 → cell_of (move_of b c) ≡ c
cell_of_move b c h = omega arith

pub move_of_parts : (m : ℕ) → move_of (board_of m) (cell_of m) ≡ m
move_of_parts m = omega arith

-- ---- what play asks of a move in cell c of board b
pub record Legal (p : Position) (b c : ℕ) : Type 0 where
  pub board : b < 9
  pub cell : c < 9
  pub unfinished : T (unfinished p)
  pub opened : T (open_board p b)
  pub allowed : T (may p.next_board b)
  pub empty : T (free_cell p b c)

-- an accepted move is legal, and a legal one is accepted
pub accepts→ : (p : Position) (m : ℕ) → T (accepts p m) → Legal p (board_of m) (cell_of m)
unfolding accepts all_pass all
accepts→ p m t =
    let r1 = and→ (ltb (board_of m) 9 && ltb (cell_of m) 9) _ t in
    let r0 = and→ (ltb (board_of m) 9) (ltb (cell_of m) 9) r1.0 in
    let r2 = and→ (unfinished p) _ r1.1 in
    let r3 = and→ (open_board p (board_of m)) _ r2.1 in
    let r4 = and→ (may p.next_board (board_of m)) _ r3.1 in
    let r5 = and→ (free_cell p (board_of m) (cell_of m)) _ r4.1 in
    record { board = ltb→lt _ _ r0.0; cell = ltb→lt _ _ r0.1; unfinished = r2.0; opened = r3.0; allowed = r4.0; empty = r5.0 }

pub →accepts : (p : Position) (m : ℕ) → Legal p (board_of m) (cell_of m) → T (accepts p m)
unfolding accepts all_pass all
→accepts p m l =
    →and (ltb (board_of m) 9 && ltb (cell_of m) 9) _ (→and (ltb (board_of m) 9) _ (lt→ltb _ _ l.board) (lt→ltb _ _ l.cell))
    (→and (unfinished p) _ l.unfinished
    (→and (open_board p (board_of m)) _ l.opened
    (→and (may p.next_board (board_of m)) _ l.allowed
    (→and (free_cell p (board_of m) (cell_of m)) _ l.empty tt))))

pub →accepts_at : (p : Position) (b c : ℕ) → Legal p b c → T (accepts p (move_of b c))
→accepts_at p b c l =
    let e = board_of_move b c (omega arith) in let f = cell_of_move b c (omega arith) in
    →accepts p (move_of b c) (subst (λ (x : ℕ). Legal p x (cell_of (move_of b c))) (sym e)
    (subst (λ (x : ℕ). Legal p b x) (sym f) l))

-- ---- a move, tried
pub play_accepted : (p : Position) (m : ℕ) → T (accepts p m) → play p m ≡ played (after p (board_of m) (cell_of m))
unfolding play
play_accepted p m t = if_ind (λ r. r ≡ played (after p (board_of m) (cell_of m))) (accepts p m) _ _
    (λ _. refl) (λ u. absurd (T_not (accepts p m) u t))

pub play_refused : (p : Position) (m : ℕ) → T (not (accepts p m)) → play p m
    ≡ refused (first_failed (checks p (board_of m) (cell_of m)))
unfolding play
play_refused p m t = if_ind (λ r. r ≡ refused (first_failed (checks p (board_of m) (cell_of m)))) (accepts p m) _ _
    (λ u. absurd (T_not (accepts p m) t u)) (λ _. refl)

-- an accepted move gives the position after it
pub tried_accepted : (p : Position) (m : ℕ) → T (accepts p m) → tried p m ≡ after p (board_of m) (cell_of m)
unfolding tried left_by
tried_accepted p m t = ap (left_by p) (play_accepted p m t)

pub tried_at : (p : Position) (b c : ℕ) → Legal p b c → tried p (move_of b c) ≡ after p b c
tried_at p b c l = tried_accepted p (move_of b c) (→accepts_at p b c l)
    ∙ ap (λ (x : ℕ). after p x (cell_of (move_of b c))) (board_of_move b c (omega arith))
    ∙ ap (λ (x : ℕ). after p b x) (cell_of_move b c (omega arith))

-- a refused one changes nothing
pub tried_refused : (p : Position) (m : ℕ) → T (not (accepts p m)) → tried p m ≡ p
unfolding tried left_by
tried_refused p m t = ap (left_by p) (play_refused p m t)

-- ---- what a move did
module _ (p : Position) (m : ℕ) where
  pub effect_accepted : T (accepts p m) → effect p m ≡ effect_in (board_of m) (tried p m)
  unfolding effect
  effect_accepted t = if_ind (λ e. e ≡ effect_in (board_of m) (tried p m)) (accepts p m) _ _
      (λ _. sym (ap (effect_in (board_of m)) (tried_accepted p m t))) (λ u. absurd (T_not (accepts p m) u t))

  pub effect_refused : T (not (accepts p m)) → effect p m ≡ no_effect
  unfolding effect
  effect_refused t = if_ind (λ e. e ≡ no_effect) (accepts p m) _ _ (λ u. absurd (T_not (accepts p m) t u)) (λ _. refl)

  -- of a next board that is the named one if this is in play
  named : (opened : Bool) (c : ℕ) → is_free (when opened then (λ _. Some c) else λ _. None) ≡ not opened
  unfolding when◌then◌else◌
  named true c = refl
  named false c = refl

  -- the choice is free exactly if the board that the cell names is closed then, whatever has become of the game
  pub free_where_closed : T (accepts p m) → (effect p m).free_choice ≡ not (open_board (tried p m) (cell_of m))
  unfolding after
  free_where_closed t = rw (effect_accepted t, tried_accepted p m t) (named _ (cell_of m))

  -- so a move that draws the game leaves a free choice
  none_left : (b c : ℕ) → T (drawn (after p b c).state) → T (not (any (open_board (after p b c)) nine))
  unfolding after
  none_left b c = result_cases p.turn _ _ (λ g. T (drawn g) → T (not (any (open_board (after p b c)) nine)))
      (λ _ d. absurd d) (λ _ _ d. absurd d) (λ _ n _. n)

  pub free_where_drawn : T (accepts p m) → T (drawn (tried p m).state) → T (effect p m).free_choice
  free_where_drawn t =
      rw (free_where_closed t, tried_accepted p m t) (λ d.
      let q = after p (board_of m) (cell_of m) in
      not_T (open_board q (cell_of m)) (λ u. T_not (any (open_board q) nine) (none_left (board_of m) (cell_of m) d)
      (some_any (open_board q) (cell_of m) nine (in_nine (cell_of m) (accepts→ p m t).cell) u)))

-- of a list that is not empty, its last move's, in the position reached before it
pub last_is_last : (e : Effect) (p : Position) (ms : List ℕ) (m : ℕ) → last_effect e p (ms ++ (m ∷ [])) ≡ effect (reached p ms) m
unfolding last_effect reached
last_is_last e p [] m = refl
last_is_last e p (n ∷ ms) m = last_is_last (effect p n) (tried p n) ms m

pub effect_most : (e : Effect) → effect_number e ≤ 7
effect_most e = most e.free_choice
  where
    most : (free : Bool) → state_number e.board + cond free 4 0 ≤ 7
    most true = omega (arith, state_most e.board)
    most false = omega (arith, state_most e.board)

-- ---- the order of the refusals
-- n is 9 to 13, every check with a smaller number passes, and the one with number n fails
pub record FirstFailing (n : ℕ) (ts : List (Bool × ℕ)) : Type 0 where
  pub lowest : 9 ≤ n
  pub highest : n ≤ 13
  pub in_order : InOrder n ts

first_failing : (p : Position) (m : ℕ) → T (not (accepts p m)) →
    FirstFailing (first_failed (checks p (board_of m) (cell_of m))) (checks p (board_of m) (cell_of m))
unfolding accepts all rising
first_failing p m t = let cs = checks p (board_of m) (cell_of m) in record {
  lowest = ltb→lt 8 (first_failed cs) (failed_number (ltb 8) cs tt t);
  highest = omega (arith, ltb→lt (first_failed cs) 14 (failed_number (λ k. ltb k 14) cs tt t));
  in_order = first_in_order 8 cs tt t;
}

-- play refuses with the number of the first check that fails
pub refusal_is_first : (p : Position) (m n : ℕ) → play p m ≡ refused n → FirstFailing n (checks p (board_of m) (cell_of m))
refusal_is_first p m n e = elim (is (accepts p m)) [
  | inl t ↦ (let x = play_accepted p m t in let z : ◌≡◌ {A = ℕ} 0 1 = cc in absurd (omega arith))
  | inr t ↦ (let x = play_refused p m t in subst (λ (k : ℕ). FirstFailing k (checks p (board_of m) (cell_of m))) (cc)
      (first_failing p m t))
]
