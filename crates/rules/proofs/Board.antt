-- Laws of sides, lines and results. A result looks at the mover's lines alone, so it is the mover's win, a draw, or still in play.
use mathlib.Core.Path.{◌≡◌, refl, sym, subst}
use mathlib.Core.Bool.{Bool, not}
use mathlib.Core.Logic.{◌⊎◌, inl, inr}
use Prim.Native.Nat.{ℕ, ◌≤◌, ◌<◌}
use native.Mathlib.Omega.{arith}
use lib.Dec.{T, T_not, not_T, eqb, eqb→eq}
use lib.ListN.{get_or}
use Rattle.base.specs.Lists.{any, In}
use Rattle.base.proofs.Bool.{and→, →and, is}
use Rattle.base.proofs.Branch.{if_ind}
use Rattle.base.proofs.Lists.{any_mono, in_from, from_in}
use Rattle.base.proofs.ListsEvery.{up_to_at}
use Rattle.rules.specs.declared.Player.{Player}
use Rattle.rules.specs.declared.Player.TheVariants.{X, O}
use Rattle.rules.specs.declared.GameState.{GameState}
use Rattle.rules.specs.declared.GameState.TheVariants.{InPlay, Drawn, Won}
use Rattle.rules.specs.Board.{other, same, sides, in_play, won_by, drawn, state_number, nine, lines, all_three, has_line, result_of}

-- ---- sides
pub same_self : (w : Player) → T (same w w)
same_self X = tt
same_self O = tt

pub same→eq : (w v : Player) → T (same w v) → w ≡ v
same→eq X X t = refl
same→eq X O t = absurd t
same→eq O X t = absurd t
same→eq O O t = refl

pub other_differs : (w : Player) → T (not (same (other w) w))
other_differs X = tt
other_differs O = tt

pub other_other : (w : Player) → other (other w) ≡ w
other_other X = refl
other_other O = refl

-- what holds of a side and of the other one holds of every side
pub side {κ} : (P : Player → Type κ) (w : Player) → P w → P (other w) → (v : Player) → P v
side P X a b X = a
side P X a b O = b
side P O a b X = b
side P O a b O = a

pub in_sides : (w : Player) → In w sides
in_sides X = inl refl
in_sides O = inr (inl refl)

-- ---- the nine numbers
pub in_nine : (i : ℕ) → i < 9 → In i nine
in_nine i h = in_from 0 9 i (omega arith) (omega arith)

pub nine_in : (i : ℕ) → In i nine → i < 9
nine_in i h = let r = from_in 0 9 i h in omega arith

-- they stand in their order
pub nine_at : (i : ℕ) → i < 9 → get_or nine i 0 ≡ i
nine_at i h = eqb→eq (get_or nine i 0) i (up_to_at (λ i. eqb (get_or nine i 0) i) 9 tt i h)

-- ---- states
pub state_most : (g : GameState) → state_number g ≤ 3
state_most InPlay = omega arith
state_most Drawn = omega arith
state_most (Won X) = omega arith
state_most (Won O) = omega arith

-- a board in play is nobody's
pub open_not_won : (w : Player) (g : GameState) → T (in_play g) → T (not (won_by w g))
open_not_won w InPlay t = tt
open_not_won w Drawn t = tt
open_not_won w (Won v) t = absurd t

-- a drawn board is won by nobody
pub drawn_is_nobodys : (w : Player) (g : GameState) → T (drawn g) → T (not (won_by w g))
drawn_is_nobodys w InPlay t = tt
drawn_is_nobodys w Drawn t = tt
drawn_is_nobodys w (Won v) t = absurd t

pub won_by_is : (w : Player) (g : GameState) → g ≡ Won w → T (won_by w g)
won_by_is w g e = subst (λ (x : GameState). T (won_by w x)) (sym e) (same_self w)

-- ---- lines
-- more places have every line that fewer have
pub line_mono : (f g : ℕ → Bool) → ((i : ℕ) → T (f i) → T (g i)) → T (has_line f) → T (has_line g)
unfolding has_line
line_mono f g h = any_mono (all_three f) (all_three g) lines (λ l t.
    let a = and→ (f l.i) _ t in let b = and→ (f l.j) _ a.1 in
    →and (g l.i) _ (h _ a.0) (→and (g l.j) _ (h _ b.0) (h _ b.1)))

pub no_line_mono : (f g : ℕ → Bool) → ((i : ℕ) → T (f i) → T (g i)) → T (not (has_line g)) → T (not (has_line f))
no_line_mono f g h t = not_T (has_line f) (λ u. T_not (has_line g) t (line_mono f g h u))

-- ---- what a move makes of a board, or of the game
module _ (w : Player) (own left : ℕ → Bool) where
  -- the three cases of a result
  pub result_cases {κ} : (P : GameState → Type κ) →
      (T (has_line own) → P (Won w)) → (T (not (has_line own)) → T (any left nine) → P InPlay) →
      (T (not (has_line own)) → T (not (any left nine)) → P Drawn) →
      P (result_of w own left)
  unfolding result_of
  result_cases P a b c = if_ind P (has_line own) _ _ a (λ n. if_ind P (any left nine) _ _ (b n) (c n))

  -- a line wins
  pub result_line : T (has_line own) → result_of w own left ≡ Won w
  result_line t =
      result_cases (λ g. g ≡ Won w) (λ _. refl) (λ n _. absurd (T_not (has_line own) n t)) (λ n _. absurd (T_not (has_line own) n t))

  -- without a line, and with something left, it is in play
  pub result_left : T (not (has_line own)) → T (any left nine) → result_of w own left ≡ InPlay
  result_left n t =
      result_cases (λ g. g ≡ InPlay) (λ u. absurd (T_not (has_line own) n u)) (λ _ _. refl)
      (λ _ u. absurd (T_not (any left nine) u t))

  -- in play there is no line, and something is left
  pub result_open : T (in_play (result_of w own left)) → T (not (has_line own)) × T (any left nine)
  result_open =
      result_cases (λ g. T (in_play g) → T (not (has_line own)) × T (any left nine)) (λ _ t. absurd t) (λ n u _. (n, u))
      (λ _ _ t. absurd t)

  -- it is never the other side's
  pub result_other : T (not (won_by (other w) (result_of w own left)))
  result_other = result_cases (λ g. T (not (won_by (other w) g))) (λ _. other_differs w) (λ _ _. tt) (λ _ _. tt)

  -- the mover wins by a line only
  pub result_won : T (won_by w (result_of w own left)) → T (has_line own)
  result_won = result_cases (λ g. T (won_by w g) → T (has_line own)) (λ u _. u) (λ _ _ t. absurd t) (λ _ _ t. absurd t)

  -- with something left it is won or in play
  pub result_some : T (any left nine) → (result_of w own left ≡ Won w) ⊎ (result_of w own left ≡ InPlay)
  result_some t = elim (is (has_line own)) [ inl u ↦ inl (result_line u) | inr u ↦ inr (result_left u t) ]
