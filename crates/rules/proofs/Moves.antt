-- Laws of the list of moves: it is what play accepts of all 81 places, which stand there once each and rising.
use mathlib.Core.Path.{◌≡◌, subst}
use mathlib.Core.Bool.{Bool, true, not, ◌&&◌}
use mathlib.Core.List.{List, [], ◌∷◌, map}
use mathlib.Core.Logic.{◌↔◌, inl, inr}
use Prim.Native.Nat.{ℕ, ◌<◌}
use native.Mathlib.Omega.{arith}
use lib.Dec.{T, ltb, T_not}
use Rattle.base.specs.Lists.{all, filter, In, elem, unique, concat_map}
use Rattle.base.proofs.Bool.{and→, →and}
use Rattle.base.proofs.Branch.{if_ind}
use Rattle.base.proofs.Lists.{all_each, each_all, no_member, filter_in, in_filter, unique_filter, in_concat_map}
use Rattle.rules.specs.Board.{nine}
use Rattle.rules.specs.Position.{Position, unfinished}
use Rattle.rules.specs.Play.{move_of, board_of, cell_of, accepts}
use Rattle.rules.specs.Moves.{places, moves}
use Rattle.rules.proofs.Board.{in_nine}
use Rattle.rules.proofs.Play.{move_of_parts, Legal, accepts→, →accepts_at}

in_map : (b c : ℕ) (xs : List ℕ) → In c xs → In (move_of b c) (map (move_of b) xs)
in_map b c [] h = absurd h
in_map b c (x ∷ xs) (inl e) = inl (omega arith)
in_map b c (x ∷ xs) (inr h) = inr (in_map b c xs h)

in_places : (m : ℕ) → board_of m < 9 → cell_of m < 9 → In m places
unfolding places
in_places m h k = subst (λ (x : ℕ). In x (concat_map (λ b. map (move_of b) nine) nine)) (move_of_parts m)
    (in_concat_map (λ b. map (move_of b) nine) (board_of m) (move_of (board_of m) (cell_of m)) nine (in_nine (board_of m) h)
    (in_map (board_of m) (cell_of m) nine (in_nine (cell_of m) k)))

-- the list holds exactly what play accepts, at every position
pub moves_are_accepted : (p : Position) (m : ℕ) → In m (moves p) ↔ T (accepts p m)
unfolding moves
moves_are_accepted p m = (
  λ i. (filter_in (accepts p) m places i).1,
  λ t. let l = accepts→ p m t in
      in_filter (accepts p) m places (in_places m l.board l.cell) t,
)

pub legal_is_listed : (p : Position) (b c : ℕ) → Legal p b c → In (move_of b c) (moves p)
legal_is_listed p b c l = (moves_are_accepted p (move_of b c)).1 (→accepts_at p b c l)

-- each move stands there once
pub moves_unique : (p : Position) → T (unique (moves p))
unfolding moves places concat_map unique elem
moves_unique p = unique_filter (accepts p) places tt

-- ---- the order
-- each number is less than all that follow
unfoldable pub rising : List ℕ → Bool
rising [] = true
rising (x ∷ xs) = all (ltb x) xs && rising xs

rising_filter : (f : ℕ → Bool) (xs : List ℕ) → T (rising xs) → T (rising (filter f xs))
unfolding rising filter
rising_filter f [] t = tt
rising_filter f (x ∷ xs) t =
    let r = and→ (all (ltb x) xs) _ t in
    if_ind (λ l. T (rising l)) (f x) _ _
    (λ _. →and (all (ltb x) (filter f xs)) _ (each_all (ltb x) (filter f xs)
    (λ y i. all_each (ltb x) y xs r.0 (filter_in f y xs i).0)) (rising_filter f xs r.1))
    (λ _. rising_filter f xs r.1)

-- boards rising, cells rising
pub moves_rise : (p : Position) → T (rising (moves p))
unfolding moves places concat_map rising all
moves_rise p = rising_filter (accepts p) places tt

-- ---- a finished game
-- a finished game has no moves
pub finished_has_no_moves : (p : Position) → T (not (unfinished p)) → moves p ≡ []
finished_has_no_moves p t = no_member (moves p) (λ m i. T_not (unfinished p) t (accepts→ p m ((moves_are_accepted p m).0 i)).unfinished)
