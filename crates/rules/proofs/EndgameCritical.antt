-- The Rust's critical places: the one empty place of a line whose two others are the side's. Where the side has no line yet, these are the
-- places that complete one.
use mathlib.Core.Path.{◌≡◌, refl, sym, subst}
use mathlib.Core.Bool.{Bool, true, false, not, cond, ◌||◌, ◌&&◌}
use mathlib.Core.Logic.{◌↔◌}
use Prim.Native.Nat.{ℕ, ◌+◌, ◌<◌}
use lib.Dec.{T, eqb, eqb→eq, T_not, not_T}
use Rattle.base.specs.Branch.{when◌then◌else◌}
use Rattle.base.specs.Lists.{any, all, In}
use Rattle.base.specs.Update.{update}
use Rattle.base.proofs.Bool.{and→, →and, always, ◌⇒◌, ⇒→, →⇒}
use Rattle.base.proofs.Lists.{any_some, some_any, any_mono, all_each}
use Rattle.rules.specs.declared.Player.{Player}
use Rattle.rules.specs.declared.CellState.{CellState}
use Rattle.rules.specs.declared.CellState.TheVariants.{Empty, Played}
use Rattle.rules.specs.declared.GameState.{GameState}
use Rattle.rules.specs.declared.GameState.TheVariants.{InPlay, Drawn, Won}
use Rattle.rules.specs.Board.{same, blank, mine, in_play, won_by, nine, Line, lines, all_three, has_line}
use Rattle.rules.specs.Position.{Position, open_board, won_boards, free_cell, has}
use Rattle.rules.specs.Evaluation.{places_in}
use Rattle.rules.specs.Endgame.{completes, winning, critical}
use Rattle.rules.proofs.Sound.{Fair}

abbrev pub on : ℕ → Line → Bool
on c l = eqb c l.i || (eqb c l.j || eqb c l.k)

-- the side's and the empty places cover the line, and c is its only empty one
unfoldable pub sole_empty : (ℕ → Bool) → (ℕ → Bool) → ℕ → Line → Bool
sole_empty own empty c l = all_three (λ i. own i || empty i) l && (eqb (places_in empty l) 1 && on c l)

-- the Rust's critical_indices
unfoldable pub rust_critical : (ℕ → Bool) → (ℕ → Bool) → ℕ → Bool
rust_critical own empty c = any (sole_empty own empty c) lines

-- the Rust's critical_boards
unfoldable pub rust_critical_board : Position → Player → ℕ → Bool
rust_critical_board p w b =
    open_board p b && (rust_critical (won_boards p w) (open_board p) b &&
    any (λ c. free_cell p b c && rust_critical (has p w b) (free_cell p b) c) nine)

-- ---- one line: at each of its three places, is it the side's, is it empty, is it c
-- no place is both, c is empty, and c stands there once at most
given : Bool → Bool → Bool → Bool → Bool → Bool → Bool → Bool → Bool → Bool
given o₁ e₁ c₁ o₂ e₂ c₂ o₃ e₃ c₃ =
    (not (o₁ && e₁) && (not (o₂ && e₂) && not (o₃ && e₃))) && (((c₁ ⇒ e₁) && ((c₂ ⇒ e₂) && (c₃ ⇒ e₃))) &&
    (not (c₁ && c₂) && (not (c₁ && c₃) && not (c₂ && c₃))))

-- c is its only empty place, and the others are the side's
single : Bool → Bool → Bool → Bool → Bool → Bool → Bool → Bool → Bool → Bool
single o₁ e₁ c₁ o₂ e₂ c₂ o₃ e₃ c₃ =
    ((o₁ || e₁) && ((o₂ || e₂) && (o₃ || e₃))) && (eqb (cond e₁ 1 0 + cond e₂ 1 0 + cond e₃ 1 0) 1 &&
    (c₁ || (c₂ || c₃)))

-- it is not the side's, and with c it is
filled : Bool → Bool → Bool → Bool → Bool → Bool → Bool → Bool → Bool → Bool
filled o₁ e₁ c₁ o₂ e₂ c₂ o₃ e₃ c₃ = ((c₁ || o₁) && ((c₂ || o₂) && (c₃ || o₃))) && not (o₁ && (o₂ && o₃))

-- the two are one
agree : Bool → Bool → Bool → Bool → Bool → Bool → Bool → Bool → Bool → Bool
agree o₁ e₁ c₁ o₂ e₂ c₂ o₃ e₃ c₃ =
    let s = single o₁ e₁ c₁ o₂ e₂ c₂ o₃ e₃ c₃ in let f = filled o₁ e₁ c₁ o₂ e₂ c₂ o₃ e₃ c₃ in
    given o₁ e₁ c₁ o₂ e₂ c₂ o₃ e₃ c₃ ⇒ ((s ⇒ f) && (f ⇒ s))

-- all 512 cases, computed
always_agree : (o₁ e₁ c₁ o₂ e₂ c₂ o₃ e₃ c₃ : Bool) → T (agree o₁ e₁ c₁ o₂ e₂ c₂ o₃ e₃ c₃)
unfolding agree given single filled
always_agree = always 9 agree tt

-- a line's places differ
places_differ : (l : Line) → In l lines → T (not (eqb l.i l.j) && (not (eqb l.i l.k) && not (eqb l.j l.k)))
unfolding all
places_differ l h = all_each (λ l. not (eqb l.i l.j) && (not (eqb l.i l.k) && not (eqb l.j l.k))) l lines tt h

not_two : (c i j : ℕ) → T (not (eqb i j)) → T (not (eqb c i && eqb c j))
not_two c i j n =
    not_T (eqb c i && eqb c j) (λ t. let r = and→ (eqb c i) _ t in T_not (eqb i j) n
    (subst (λ (x : ℕ). T (eqb x j)) (eqb→eq c i r.0) r.1))

update_or : (own : ℕ → Bool) (c i : ℕ) → update own c true i ≡ (eqb c i || own i)
unfolding update when◌then◌else◌
update_or own c i = go (eqb c i)
  where
    go : (b : Bool) → (when b then (λ _. true) else λ _. own i) ≡ (b || own i)
    go true = refl
    go false = refl

-- ---- c is empty, and the side has no line: then c completes one exactly where it is critical
module _ (own empty : ℕ → Bool) (apart : (i : ℕ) → T (not (own i && empty i))) (c : ℕ) (free : T (empty c))
    (none : T (not (has_line own))) where
  abbrev full : Line → Bool
  full l = (eqb c l.i || own l.i) && ((eqb c l.j || own l.j) && (eqb c l.k || own l.k))

  here : (i : ℕ) → T (eqb c i ⇒ empty i)
  here i = →⇒ (eqb c i) _ (λ t. subst (λ (x : ℕ). T (empty x)) (eqb→eq c i t) free)

  at_line : (l : Line) → In l lines → T ((sole_empty own empty c l ⇒ (full l && not (all_three own l))) &&
      ((full l && not (all_three own l)) ⇒ sole_empty own empty c l))
  unfolding agree given single filled places_in sole_empty
  at_line l h =
      let d = places_differ l h in let d₁ = and→ (not (eqb l.i l.j)) _ d in
      let d₂ = and→ (not (eqb l.i l.k)) _ d₁.1 in
      ⇒→ (given (own l.i) (empty l.i) (eqb c l.i) (own l.j) (empty l.j) (eqb c l.j) (own l.k) (empty l.k)
      (eqb c l.k)) _
      (always_agree (own l.i) (empty l.i) (eqb c l.i) (own l.j) (empty l.j) (eqb c l.j) (own l.k) (empty l.k)
      (eqb c l.k))
      (→and (not (own l.i && empty l.i) && (not (own l.j && empty l.j) && not (own l.k && empty l.k))) _
      (→and (not (own l.i && empty l.i)) _ (apart l.i) (→and (not (own l.j && empty l.j)) _ (apart l.j)
      (apart l.k)))
      (→and ((eqb c l.i ⇒ empty l.i) && ((eqb c l.j ⇒ empty l.j) && (eqb c l.k ⇒ empty l.k))) _
      (→and (eqb c l.i ⇒ empty l.i) _ (here l.i) (→and (eqb c l.j ⇒ empty l.j) _ (here l.j) (here l.k)))
      (→and (not (eqb c l.i && eqb c l.j)) _ (not_two c l.i l.j d₁.0)
      (→and (not (eqb c l.i && eqb c l.k)) _ (not_two c l.i l.k d₂.0) (not_two c l.j l.k d₂.1)))))

  with_c : (l : Line) → all_three (update own c true) l ≡ full l
  with_c l = rw (update_or own c l.i, update_or own c l.j, update_or own c l.k)

  -- the Rust's critical places complete a line, and no others do
  pub rust_critical_completes : T (rust_critical own empty c) ↔ T (completes own c)
  unfolding rust_critical completes has_line
  rust_critical_completes = (to, from)
    where
      to : T (any (sole_empty own empty c) lines) → T (any (all_three (update own c true)) lines)
      to t =
          let r = any_some (sole_empty own empty c) lines t in let l = r.0 in
          some_any (all_three (update own c true)) l lines r.1 (subst (λ (x : Bool). T x) (sym (with_c l))
          (and→ (full l) _ (⇒→ (sole_empty own empty c l) _ (and→ (sole_empty own empty c l ⇒ (full l && not (all_three own l))) _
          (at_line l r.1)).0 r.2)).0)

      from : T (any (all_three (update own c true)) lines) → T (any (sole_empty own empty c) lines)
      from t =
          let r = any_some (all_three (update own c true)) lines t in let l = r.0 in
          some_any (sole_empty own empty c) l lines r.1
          (⇒→ (full l && not (all_three own l)) _ (and→ (sole_empty own empty c l ⇒ (full l && not (all_three own l))) _
          (at_line l r.1)).1
          (→and (full l) _ (subst (λ (x : Bool). T x) (with_c l) r.2)
          (not_T (all_three own l) (λ u. T_not (has_line own) none (some_any (all_three own) l lines r.1 u)))))

-- ---- the written critical boards of a sound position are the Rust's
won_not_open : (w : Player) (g : GameState) → T (not (won_by w g && in_play g))
won_not_open w InPlay = tt
won_not_open w Drawn = tt
won_not_open w (Won v) = not_T (same w v && false) (λ t. (and→ (same w v) _ t).1)

mine_not_blank : (w : Player) (s : CellState) → T (not (mine w s && blank s))
mine_not_blank w Empty = tt
mine_not_blank w (Played v) = not_T (same w v && false) (λ t. (and→ (same w v) _ t).1)

module _ (p : Position) (f : Fair p) (w : Player) (b : ℕ) (b9 : b < 9) where
  boards_agree : T (open_board p b) → T (rust_critical (won_boards p w) (open_board p) b) ↔ T (completes (won_boards p w) b)
  boards_agree o = rust_critical_completes (won_boards p w) (open_board p) (λ i. won_not_open w (p.states i)) b o (f.no_line w)

  cells_agree : T (open_board p b) → (c : ℕ) → T (free_cell p b c) → T (rust_critical (has p w b) (free_cell p b) c) ↔ T
      (completes (has p w b) c)
  cells_agree o c e = rust_critical_completes (has p w b) (free_cell p b) (λ i. mine_not_blank w (p.cells b i)) c e (f.no_board b b9 o w)

  -- a test on an open board and one on its empty cells, each put for one that it implies
  both_mono : (f g : Bool) (u v : ℕ → Bool) → (T (open_board p b) → T f → T g) →
      (T (open_board p b) → (c : ℕ) → T (free_cell p b c) → T (u c) → T (v c)) →
      T (open_board p b && (f && any (λ c. free_cell p b c && u c) nine)) →
      T (open_board p b && (g && any (λ c. free_cell p b c && v c) nine))
  both_mono f g u v h k t =
      let r = and→ (open_board p b) _ t in let q = and→ f _ r.1 in
      →and (open_board p b) _ r.0 (→and g _ (h r.0 q.0)
      (any_mono (λ c. free_cell p b c && u c) (λ c. free_cell p b c && v c) nine
      (λ c x. let y = and→ (free_cell p b c) _ x in →and (free_cell p b c) _ y.0 (k r.0 c y.0 y.1)) q.1))

  -- board b is critical for w exactly if the Rust's critical_boards has it
  pub critical_is_rusts : T (rust_critical_board p w b) ↔ T (critical p w b)
  unfolding rust_critical_board critical winning
  critical_is_rusts = (
    both_mono (rust_critical (won_boards p w) (open_board p) b) (completes (won_boards p w) b) (rust_critical (has p w b) (free_cell p b))
        (completes (has p w b))
        (λ o. (boards_agree o).0) (λ o c e. (cells_agree o c e).0),
    both_mono (completes (won_boards p w) b) (rust_critical (won_boards p w) (open_board p) b) (completes (has p w b))
        (rust_critical (has p w b) (free_cell p b))
        (λ o. (boards_agree o).1) (λ o c e. (cells_agree o c e).1),
  )
