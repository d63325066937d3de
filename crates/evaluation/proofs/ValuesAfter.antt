-- A move changes the value of its own board alone.
use mathlib.Core.Path.{◌≡◌, refl, sym, ap, ◌∙◌}
use mathlib.Core.List.{List, ◌∷◌, map}
use mathlib.Core.Logic.{inl, inr}
use Prim.Native.Nat.{ℕ, zero, suc, ◌+◌, ◌<◌}
use native.Mathlib.Omega.{arith}
use lib.IntN.{ℤ, pos}
use lib.ListN.{length, set}
use Rattle.base.specs.Branch.{when◌then◌else◌}
use Rattle.base.specs.Integers.{sum}
use Rattle.base.specs.Lists.{from}
use Rattle.base.proofs.Bool.{is}
use Rattle.base.proofs.Update.{update_off}
use Rattle.rules.specs.declared.Player.TheVariants.{X, O}
use Rattle.rules.specs.declared.CellState.{CellState}
use Rattle.rules.specs.declared.GameState.{GameState}
use Rattle.rules.specs.declared.GameState.TheVariants.{InPlay, Drawn, Won}
use Rattle.rules.specs.declared.Weights.{Weights}
use Rattle.rules.specs.Board.{mine, in_play, lines}
use Rattle.rules.specs.Position.{Position}
use Rattle.rules.specs.Play.{board_of, cell_of, accepts, after, tried}
use Rattle.rules.specs.Evaluation.{board_line, board_score}
use Rattle.rules.proofs.Play.{tried_accepted, tried_refused}
use Rattle.game.specs.declared.Game.{Game}
use Rattle.game.specs.Meaning.{position_of}
use Rattle.game.specs.After.{game_after}
use Rattle.game.proofs.Meaning.{game_after_means}
use Rattle.evaluation.specs.Values.{value_in, board_value, values_of}

-- ---- a board's value is told by its cells and its state
module _ (w : Weights) (p q : Position) (b : ℕ) (e : p.cells b ≡ q.cells b) (f : p.states b ≡ q.states b) where
  same_score : board_score w p b ≡ board_score w q b
  unfolding board_score
  same_score = λ i. when in_play (f i) then (λ _. sum (board_line w (λ c. mine X (e i c)) (λ c. mine O (e i c))) lines) else λ _. pos 0

  same_value : board_value w p b ≡ board_value w q b
  unfolding board_value
  same_value = go (p.states b) ∙ ap (value_in w q b) f
    where
      go : (s : GameState) → value_in w p b s ≡ value_in w q b s
      go InPlay = same_score
      go Drawn = refl
      go (Won X) = refl
      go (Won O) = refl

-- ---- nine values of which one is another
module _ (f g : ℕ → ℤ) (b : ℕ) (same : (d : ℕ) → (d ≡ b → ⊥) → f d ≡ g d) where
  above : (i n : ℕ) → b < i → map f (from i n) ≡ map g (from i n)
  above i zero h = refl
  above i (suc n) h = λ j. same i (λ e. omega arith) j ∷ above (suc i) n (omega arith) j

  one_set : (i n k : ℕ) → i + k ≡ b → map f (from i n) ≡ set (map g (from i n)) k (f b)
  one_set i zero k e = refl
  one_set i (suc n) zero e = let d : i ≡ b = omega arith in λ j. f (d j) ∷ above (suc i) n (omega arith) j
  one_set i (suc n) (suc k) e = λ j. same i (λ d. omega arith) j ∷ one_set (suc i) n k (omega arith) j

module _ (w : Weights) where
  changed_at : (p q : Position) (b : ℕ) → ((d : ℕ) → (d ≡ b → ⊥) → board_value w q d ≡ board_value w p d) →
      values_of w q ≡ set (values_of w p) b (board_value w q b)
  unfolding values_of
  changed_at p q b h = one_set (board_value w q) (board_value w p) b h 0 9 b (omega arith)

  -- ---- after a move
  other_stays : (p : Position) (b c d : ℕ) → (d ≡ b → ⊥) → board_value w (after p b c) d ≡ board_value w p d
  unfolding after
  other_stays p b c d h =
      same_value w (after p b c) p d
      (update_off (λ (r : ℕ → CellState). r ≡ p.cells d) p.cells b _ d (λ e. h (sym e)) refl)
      (update_off (λ (s : GameState). s ≡ p.states d) p.states b _ d (λ e. h (sym e)) refl)

  pub values_after_move : (p : Position) (b c : ℕ) →
      values_of w (after p b c) ≡ set (values_of w p) b (board_value w (after p b c) b)
  values_after_move p b c = changed_at p (after p b c) b (other_stays p b c)

  -- a refused one changes nothing
  values_tried : (p : Position) (m : ℕ) →
      values_of w (tried p m) ≡ set (values_of w p) (board_of m) (board_value w (tried p m) (board_of m))
  values_tried p m = elim (is (accepts p m)) [
    | inl t ↦ rw (tried_accepted p m t) (values_after_move p (board_of m) (cell_of m))
    | inr t ↦ rw (tried_refused p m t) (changed_at p p (board_of m) (λ d h. refl))
  ]

  pub values_after : (g : Game) (m : ℕ) → length g.local_boards.rows ≡ 3
      → values_of w (position_of (game_after g m)) ≡ set (values_of w (position_of g)) (board_of m)
      (board_value w (position_of (game_after g m)) (board_of m))
  values_after g m n = rw (game_after_means g m n) (values_tried (position_of g) m)

  -- so values that are the boards' own are carried along a game
  pub carried : (g h : Game) (m b : ℕ) (values : List ℤ) → length g.local_boards.rows ≡ 3 →
      values ≡ values_of w (position_of g) → h ≡ game_after g m → b ≡ board_of m
      → set values b (board_value w (position_of h) b) ≡ values_of w (position_of h)
  carried g h m b values n v e f = rw (v, e, f) (sym (values_after g m n))
