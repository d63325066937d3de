-- Laws of the endgame analysis. A side that is proved to win has a critical board, so it can still win, and no merge is empty.
use Rattle.std.specs.Prelude.{Option, None, Some}
use mathlib.Core.Path.{◌≡◌, refl, sym, ap, ◌∙◌, subst}
use mathlib.Core.Bool.{Bool, true, false, not, ◌||◌, ◌&&◌}
use mathlib.Core.List.{List, [], ◌∷◌}
use mathlib.Core.Logic.{◌↔◌, ◌⊎◌, inl, inr}
use Prim.Native.Nat.{ℕ, ◌<◌}
use native.Mathlib.Omega.{arith}
use lib.Dec.{T, eqb, eqb→eq, eqb_refl, T_not, not_T}
use lib.Ieee.Bits.{is_true, is_false}
use Rattle.base.specs.Branch.{when◌then◌else◌}
use Rattle.base.specs.Lists.{any, all}
use Rattle.base.specs.Update.{update}
use Rattle.base.specs.Checks.{all_pass, first_failed}
use Rattle.base.proofs.Bool.{and→, →and, or→, →or_l, →or_r, is, always, ◌⇒◌, ⇒→, →⇒}
use Rattle.base.proofs.Branch.{if_ind}
use Rattle.base.proofs.Lists.{any_some, some_any, all_each, each_all}
use Rattle.base.proofs.Checks.{all_pass_0}
use Rattle.base.proofs.Update.{update_ind, update_off, update_ind₂}
use Rattle.rules.specs.declared.Player.{Player}
use Rattle.rules.specs.declared.Player.TheVariants.{X, O}
use Rattle.rules.specs.declared.CellState.{CellState}
use Rattle.rules.specs.declared.CellState.TheVariants.{Played}
use Rattle.rules.specs.declared.GameState.{GameState}
use Rattle.rules.specs.declared.GameState.TheVariants.{Won}
use Rattle.rules.specs.Board.{other, same, sides, blank, mine, in_play, won_by, nine, has_line}
use Rattle.rules.specs.Position.{Position, unfinished, open_board, won_boards, free_cell}
use Rattle.rules.specs.Play.{board_of, cell_of, may, checks, accepts, after, Tried, played, refused, play}
use Rattle.rules.specs.Sound.{sound}
use Rattle.rules.specs.Status.{Status, unproven, for_player, allows, alone, from_byte, merge}
use Rattle.rules.specs.Endgame.{completes, winning, critical, has_critical, suits, all_suit, lure, attack, prove_attacker, forced}
use Rattle.rules.specs.Endgame.{forced_loss, winnable, proven, narrow, combine, merged, no_endgame_stats, endgame_stats, Analysis}
use Rattle.rules.specs.Endgame.{or_unproven, analysis, Judged, judge, evaluate_move}
use Rattle.rules.proofs.Board.{same_self, same→eq, side, in_sides, in_nine, open_not_won, won_by_is, line_mono, no_line_mono}
use Rattle.rules.proofs.Board.{result_line, result_left, result_other, result_won}
use Rattle.rules.proofs.Play.{Legal, accepts→, play_accepted, play_refused, refusal_is_first}
use Rattle.rules.proofs.Sound.{Fair, row, made, states_other}

-- ---- one place more
pub completes_mono : (f g : ℕ → Bool) (i : ℕ) → ((j : ℕ) → T (f j) → T (g j)) → T (completes f i) → T (completes g i)
unfolding completes
completes_mono f g i h =
    line_mono (update f i true) (update g i true) (λ j. update_ind₂ (λ (x y : Bool). T x → T y) f g i true true j (λ _ t. t) (h j))

-- a changed at place i has a line only if i completes one, and if it passes the test it has
module _ {A : Type 0} (test : A → Bool) (f : ℕ → A) (i : ℕ) (a : A) where
  pub line_completes : T (has_line (λ j. test (update f i a j))) → T (completes (λ j. test (f j)) i)
  unfolding completes
  line_completes =
      line_mono _ (update (λ j. test (f j)) i true) (λ j. update_ind₂ (λ (x : A) (y : Bool). T (test x) → T y) f (λ j. test (f j)) i
      a true j (λ _ _. tt) (λ u. u))

  pub completes_line : T (test a) → T (completes (λ j. test (f j)) i) → T (has_line (λ j. test (update f i a j)))
  unfolding completes
  completes_line t =
      line_mono (update (λ j. test (f j)) i true) _ (λ j. update_ind₂ (λ (y : Bool) (x : A). T y → T (test x)) (λ j. test (f j)) f i
      true a j (λ _ _. t) (λ u. u))

-- ---- the tests, taken apart
pub record Crit (p : Position) (w : Player) (b : ℕ) : Type 0 where
  pub opened : T (open_board p b)
  pub boards : T (completes (won_boards p w) b)
  pub cell : T (any (winning w (p.cells b)) nine)

pub crit→ : (p : Position) (w : Player) (b : ℕ) → T (critical p w b) → Crit p w b
unfolding critical
crit→ p w b t =
    let a = and→ (open_board p b) _ t in let c = and→ (completes (won_boards p w) b) _ a.1 in
    record { opened = a.0; boards = c.0; cell = c.1 }

pub →crit : (p : Position) (w : Player) (b : ℕ) → Crit p w b → T (critical p w b)
unfolding critical
→crit p w b r = →and (open_board p b) _ r.opened (→and (completes (won_boards p w) b) _ r.boards r.cell)

-- two boards of which one is critical and one is not
pub crit_apart : (p : Position) (w : Player) (k b : ℕ) → T (critical p w k) → T (not (critical p w b)) → b ≡ k → ⊥
crit_apart p w k b t u e = T_not (critical p w b) u (subst (λ (x : ℕ). T (critical p w x)) (sym e) t)

-- what `all_suit` says of an empty cell that names an open board
pub suits_at : (p : Position) (w : Player) (b c : ℕ) → T (all_suit p w b) → c < 9 → T (free_cell p b c) → T (open_board p c) →
    T (critical p w c)
unfolding all_suit suits
suits_at p w b c t h f o =
    ⇒→ (open_board p c) (critical p w c)
    (⇒→ (free_cell p b c) _ (all_each (λ c. free_cell p b c ⇒ (open_board p c ⇒ critical p w c)) c nine t (in_nine c h)) f) o

pub record Lure (p : Position) (w : Player) (b i : ℕ) : Type 0 where
  pub empty : T (free_cell p b i)
  pub opened : T (open_board p i)
  pub not_own : T (not (critical p w i))
  pub not_others : T (not (critical p (other w) i))
  pub away : b ≡ i → ⊥
  pub all_suited : T (all_suit p w i)

pub lure→ : (p : Position) (w : Player) (b i : ℕ) → T (lure p w b i) → Lure p w b i
unfolding lure
lure→ p w b i t =
    let r1 = and→ (free_cell p b i) _ t in
    let r2 = and→ (open_board p i) _ r1.1 in
    let r3 = and→ (not (critical p w i)) _ r2.1 in
    let r4 = and→ (not (critical p (other w) i)) _ r3.1 in
    let r5 = and→ (not (eqb i b)) _ r4.1 in
    record {
      empty = r1.0;
      opened = r2.0;
      not_own = r3.0;
      not_others = r4.0;
      away = λ e. T_not (eqb i b) r5.0 (subst (λ (x : ℕ). T (eqb i x)) (sym e) (eqb_refl i));
      all_suited = r5.1;
    }

pub attack→ : (p : Position) (w : Player) (b : ℕ) → T (attack p w (Some b)) → T (critical p w b) ⊎ T (any (lure p w b) nine)
unfolding attack
attack→ p w b t = or→ (critical p w b) _ t

pub forced→ : (p : Position) (v : Player) (d : Option ℕ) → T (forced p v d)
    → (b : ℕ) × (d ≡ Some b) × T (not (critical p v b)) × T (all_suit p v b)
unfolding forced
forced→ p v None t = absurd t
forced→ p v (Some b) t = let r = and→ (not (critical p v b)) _ t in (b, refl, r.0, r.1)

-- the board of an allowed move is the one that is due
pub due_is_played : (d : Option ℕ) (b x : ℕ) → d ≡ Some b → T (may d x) → b ≡ x
due_is_played d b x e t = eqb→eq b x (subst (λ (z : Option ℕ). T (may z x)) e t)

-- ---- after a move
pub after_turn : (p : Position) (b c : ℕ) → (after p b c).turn ≡ other p.turn
unfolding after
after_turn p b c = refl

module _ (p : Position) (b c : ℕ) (l : Legal p b c) where
  opened_at : (i : ℕ) → b ≡ i → T (open_board p i)
  opened_at i e = subst (λ (x : ℕ). T (open_board p x)) e l.opened

  -- a closed board stays closed
  pub open_before : (i : ℕ) → T (open_board (after p b c) i) → T (open_board p i)
  unfolding after
  open_before i =
      update_ind (λ (s : GameState). T (in_play s) → T (open_board p i)) p.states b (made p b c) i (λ e _. opened_at i e) (λ t. t)

  -- an open board stays open, unless it is played in
  pub open_still : (i : ℕ) → (b ≡ i → ⊥) → T (open_board p i) → T (open_board (after p b c) i)
  unfolding after
  open_still i n t = update_off (λ (s : GameState). T (in_play s)) p.states b (made p b c) i n t

  -- a won board stays won
  pub won_still : (w : Player) (i : ℕ) → T (won_boards p w i) → T (won_boards (after p b c) w i)
  unfolding after
  won_still w i t = update_ind (λ (s : GameState). T (won_by w s)) p.states b (made p b c) i
      (λ e. absurd (T_not (won_boards p w i) (open_not_won w (p.states i) (opened_at i e)) t)) t

  -- the cells of the other boards stay
  pub cells_still {κ} : (P : (ℕ → CellState) → Type κ) (i : ℕ) → (b ≡ i → ⊥) → P (p.cells i) →
      P ((after p b c).cells i)
  unfolding after
  cells_still P i n = update_off P p.cells b (row p b c) i n

  pub free_before : (i j : ℕ) → (b ≡ i → ⊥) → T (free_cell (after p b c) i j) → T (free_cell p i j)
  free_before i j n = cells_still (λ r. T (blank (r j)) → T (free_cell p i j)) i n (λ t. t)

  -- a critical board stays critical, unless it is played in
  pub crit_still : (w : Player) (k : ℕ) → (b ≡ k → ⊥) → T (critical p w k) → T (critical (after p b c) w k)
  crit_still w k n t = let r = crit→ p w k t in →crit (after p b c) w k (record {
    opened = open_still k n r.opened;
    boards = completes_mono (won_boards p w) (won_boards (after p b c) w) k (won_still w) r.boards;
    cell = cells_still (λ r. T (any (winning w r) nine)) k n r.cell;
  })

  -- the mover makes no other board critical for the other side
  pub crit_before : (k : ℕ) → (b ≡ k → ⊥) → T (critical (after p b c) (other p.turn) k) →
      T (critical p (other p.turn) k)
  crit_before k n t = let w = other p.turn in let r = crit→ (after p b c) w k t in →crit p w k (record {
    opened = open_before k r.opened;
    boards = completes_mono (won_boards (after p b c) w) (won_boards p w) k (unfold after in (states_other p b c l)) r.boards;
    cell = cells_still (λ r. T (any (winning w r) nine) → T (any (winning w (p.cells k)) nine)) k n (λ t. t) r.cell;
  })

  -- a move outside the critical boards does not win
  pub no_win : Fair p → T (not (critical p p.turn b)) → T (not (has_line (won_boards (after p b c) p.turn)))
  unfolding after
  no_win f n = not_T (has_line (won_boards (after p b c) p.turn)) (λ t. elim (is (won_by p.turn (made p b c))) [
    | inl u ↦ T_not (critical p p.turn b) n (by_board t u)
    | inr u ↦ T_not (has_line (won_boards p p.turn)) (f.no_line p.turn) (line_mono _ (won_boards p p.turn) (old u) t)
  ])
    where
      by_board : T (has_line (won_boards (after p b c) p.turn)) → T (won_by p.turn (made p b c)) → T (critical p p.turn b)
      by_board t u = →crit p p.turn b (record {
        opened = l.opened;
        boards = line_completes (won_by p.turn) p.states b (made p b c) t;
        cell = some_any (winning p.turn (p.cells b)) c nine (in_nine c l.cell)
            (unfold winning in (→and (free_cell p b c) _ l.empty (line_completes (mine p.turn) (p.cells b) c (Played p.turn)
            (result_won p.turn _ _ u))));
      })

      old : T (not (won_by p.turn (made p b c))) → (i : ℕ) → T (won_by p.turn (update p.states b (made p b c) i)) →
          T (won_boards p p.turn i)
      old u i =
          update_ind (λ (s : GameState). T (won_by p.turn s) → T (won_boards p p.turn i)) p.states b (made p b c) i
          (λ _ v. absurd (T_not (won_by p.turn (made p b c)) u v)) (λ v. v)

  -- a winning cell of a critical board wins the game
  pub critical_wins : T (critical p p.turn b) → T (winning p.turn (p.cells b) c) → (after p b c).state ≡ Won p.turn
  unfolding after winning
  critical_wins t u =
      result_line p.turn _ _ (completes_line (won_by p.turn) p.states b (made p b c) board (crit→ p p.turn b t).boards)
    where
      board : T (won_by p.turn (made p b c))
      board =
          won_by_is p.turn (made p b c)
          (result_line p.turn _ _ (completes_line (mine p.turn) (p.cells b) c (Played p.turn) (same_self p.turn)
          (and→ (free_cell p b c) _ u).1))

  -- with a board left, and no line, the game goes on
  pub goes_on : (k : ℕ) → k < 9 → T (open_board (after p b c) k) → T (not (has_line (won_boards (after p b c) p.turn))) →
      T (unfinished (after p b c))
  unfolding after
  goes_on k h o n = subst (λ (g : GameState). T (in_play g))
      (sym (result_left p.turn (won_boards (after p b c) p.turn) (open_board (after p b c)) n
      (some_any (open_board (after p b c)) k nine (in_nine k h) o))) tt

  -- w, who has a critical board elsewhere, is sent to one
  pub lands : (w : Player) (k : ℕ) → k < 9 → T (critical p w k) → (b ≡ k → ⊥) →
      (T (open_board p c) → T (critical p w c) × (b ≡ c → ⊥)) →
      (j : ℕ) × (j < 9) × T (critical (after p b c) w j) × T (may (after p b c).next_board j)
  unfolding after
  lands w k h t n s = if_ind (λ (d : Option ℕ). (j : ℕ) × (j < 9) × T (critical (after p b c) w j) × T (may d j))
      (open_board (after p b c) c) _ _
      (λ o. let r = s (open_before c o) in (c, l.cell, crit_still w c r.1 r.0, eqb_refl c))
      (λ _. (k, h, crit_still w k n t, tt))

  -- a side that can no longer win never can again
  pub unwinnable_still : (w : Player) → T (not (winnable p w)) → T (not (winnable (after p b c) w))
  unfolding winnable after
  unwinnable_still w =
      no_line_mono (λ i. won_boards (after p b c) w i || open_board (after p b c) i) (λ i. won_boards p w i || open_board p i) (λ i.
      update_ind (λ (s : GameState). T (won_by w s || in_play s) → T (won_boards p w i || open_board p i)) p.states b (made p b c) i
      (λ e _. →or_r (won_boards p w i) _ (opened_at i e)) (λ t. t))

  -- and has not won the game by this move
  pub unwinnable_not_won : (w : Player) → T (not (winnable (after p b c) w)) → T (not (won_by w (after p b c).state))
  unfolding winnable after
  unwinnable_not_won = side (λ v. T (not (winnable (after p b c) v)) → T (not (won_by v (after p b c).state))) p.turn
      (λ n. not_T (won_by p.turn (after p b c).state) (λ t. T_not (winnable (after p b c) p.turn) n
      (line_mono (won_boards (after p b c) p.turn) _ (λ i u. →or_l (won_boards (after p b c) p.turn i) _ u)
      (result_won p.turn _ _ t))))
      (λ _. result_other p.turn _ _)

-- ---- a side with a critical board can still win
pub critical_is_winnable : (p : Position) (w : Player) → T (has_critical p w) → T (winnable p w)
unfolding has_critical winnable completes
critical_is_winnable p w t =
    let k = any_some (critical p w) nine t in let r = crit→ p w k.0 k.2 in
    line_mono (update (won_boards p w) k.0 true) _ (λ i. update_ind (λ (x : Bool). T x → T (won_boards p w i || open_board p i))
    (won_boards p w) k.0 true i
    (λ e _. →or_r (won_boards p w i) _ (subst (λ (x : ℕ). T (open_board p x)) e r.opened)) (λ u. →or_l (won_boards p w i) _ u))
    r.boards

-- ---- the status
-- w is proved to win: w is to move and attacks, or the other side is to move, does not attack and is forced to lose
abbrev pub Decided : Position → Player → Type 0
Decided p w = (T (prove_attacker p) × (w ≡ p.turn)) ⊎ (T (not (prove_attacker p)) × T (forced_loss p) × (w ≡ other p.turn))

pub record StatusSays (p : Position) (s : Status) : Type 0 where
  pub is_merged : merged p ≡ Some s
  -- it leaves a side alone exactly if that side is proved to win
  pub alone_is_decided : (w : Player) → T (alone s w) → Decided p w
  pub decided_is_alone : (w : Player) → Decided p w → T (alone s w)
  -- it leaves out only a side that can no longer win, or whose opponent is proved to win
  pub left_out : (w : Player) → T (not (allows s w)) → T (not (winnable p w)) ⊎ Decided p (other w)
  -- and each side that can no longer win
  pub unwinnable_is_out : (w : Player) → T (not (winnable p w)) → T (not (allows s w))
  -- which set it is, where a side is proved to win and where none is
  pub decided_set : (w : Player) → Decided p w → s ≡ for_player w
  pub undecided_set : T (not (prove_attacker p)) → T (not (forced_loss p)) →
      s ≡ record { x = winnable p X; o = winnable p O; draw = true }

-- the same as tests, of t to move, of the two proofs, and of what X and O can win
decides : Player → Bool → Bool → Player → Bool
decides t wins loses w = (wins && same w t) || ((not wins && loses) && same w (other t))

of_side : Bool → Bool → Player → Bool
of_side x o X = x
of_side x o O = o

says : Player → Bool → Bool → Bool → Bool → Status → Player → Bool
says t wins loses x o s w =
    (alone s w ⇒ decides t wins loses w) && ((decides t wins loses w ⇒ alone s w) &&
    ((not (allows s w) ⇒ (not (of_side x o w) || decides t wins loses (other w))) && (not (of_side x o w) ⇒ not (allows s w))))

holds : (Status → Bool) → Option Status → Bool
holds f None = false
holds f (Some s) = f s

-- if no side is proved to win that cannot, the merges give a set, and it says so
merges_right : Player → Bool → Bool → Bool → Bool → Bool
merges_right t wins loses x o =
    all (λ w. decides t wins loses w ⇒ of_side x o w) sides ⇒ holds (λ s. all (says t wins loses x o s) sides)
    (combine t wins loses x o)

-- all 32 cases, computed
always_merges_right : (t : Player) (wins loses x o : Bool) → T (merges_right t wins loses x o)
unfolding all merges_right says holds decides of_side combine narrow proven merge from_byte when◌then◌else◌
always_merges_right X = always 4 (merges_right X) tt
always_merges_right O = always 4 (merges_right O) tt

-- where neither side is proved to win
undecided : (t : Player) (wins loses x o : Bool) → T (not wins) → T (not loses) →
    combine t wins loses x o ≡ Some (record { x = x; o = o; draw = true })
unfolding combine narrow proven merge from_byte when◌then◌else◌
undecided t false false true true n m = refl
undecided t false false true false n m = refl
undecided t false false false true n m = refl
undecided t false false false false n m = refl
undecided t true loses x o n m = absurd n
undecided t false true x o n m = absurd m

-- a side alone is one set
alone_is : (s : Status) (w : Player) → T (alone s w) → s ≡ for_player w
alone_is s X t = let a = and→ s.x _ t in let b = and→ (not s.o) _ a.1 in
    λ i. record { x = is_true s.x a.0 i; o = is_false s.o b.0 i; draw = is_false s.draw b.1 i }
alone_is s O t = let a = and→ s.o _ t in let b = and→ (not s.x) _ a.1 in
    λ i. record { x = is_false s.x b.0 i; o = is_true s.o a.0 i; draw = is_false s.draw b.1 i }

module _ (p : Position) where
  proved : Player → Bool
  proved w = decides p.turn (prove_attacker p) (forced_loss p) w

  proved→ : (w : Player) → T (proved w) → Decided p w
  unfolding proved decides
  proved→ w u = elim (or→ (prove_attacker p && same w p.turn) _ u) [
    | inl v ↦ inl (let r = and→ (prove_attacker p) _ v in (r.0, same→eq w p.turn r.1))
    | inr v ↦ inr (let r = and→ (not (prove_attacker p) && forced_loss p) _ v in let q = and→ (not (prove_attacker p)) _ r.0 in
        (q.0, q.1, same→eq w (other p.turn) r.1))
  ]

  →proved : (w : Player) → Decided p w → T (proved w)
  unfolding proved decides
  →proved w (inl r) =
      →or_l (prove_attacker p && same w p.turn) _ (→and (prove_attacker p) _ r.0
      (subst (λ (v : Player). T (same w v)) r.1 (same_self w)))
  →proved w (inr r) = →or_r (prove_attacker p && same w p.turn) _
      (→and (not (prove_attacker p) && forced_loss p) _ (→and (not (prove_attacker p)) _ r.0 r.1)
      (subst (λ (v : Player). T (same w v)) r.2 (same_self w)))

  pub decided_is_winnable : (w : Player) → Decided p w → T (winnable p w)
  unfolding prove_attacker forced_loss
  decided_is_winnable w (inl r) =
      subst (λ (v : Player). T (winnable p v)) (sym r.1) (critical_is_winnable p p.turn
      (and→ (has_critical p p.turn) _ r.0).0)
  decided_is_winnable w (inr r) =
      subst (λ (v : Player). T (winnable p v)) (sym r.2) (critical_is_winnable p (other p.turn)
      (and→ (has_critical p (other p.turn)) _ r.1).0)

  winnable_of : (w : Player) → of_side (winnable p X) (winnable p O) w ≡ winnable p w
  unfolding of_side
  winnable_of X = refl
  winnable_of O = refl

  -- the merges give a set at every position, so the Rust's two panics cannot occur, and the set says what was proved
  pub status_says : (s : Status) × StatusSays p s
  unfolding merges_right merged says proved
  status_says =
      go (merged p) refl (⇒→ (all (λ w. proved w ⇒ can w) sides) _ (always_merges_right p.turn (prove_attacker p) (forced_loss p)
      (winnable p X) (winnable p O))
      (each_all (λ w. proved w ⇒ can w) sides (λ w _. →⇒ (proved w) (can w)
      (λ u. subst (λ (x : Bool). T x) (sym (winnable_of w)) (decided_is_winnable w (proved→ w u))))))
    where
      can : Player → Bool
      can w = of_side (winnable p X) (winnable p O) w

      test : Status → Player → Bool
      test s w = says p.turn (prove_attacker p) (forced_loss p) (winnable p X) (winnable p O) s w

      go : (a : Option Status) → merged p ≡ a → T (holds (λ s. all (test s) sides) a) → (s : Status) × StatusSays p s
      go None e u = absurd (unfold holds in u)
      go (Some s) e u = (
        s,
        record {
          is_merged = e;
          alone_is_decided = λ w a. proved→ w (⇒→ (alone s w) _ (each w).0 a);
          decided_is_alone = lone;
          left_out = λ w n. elim (or→ (not (can w)) _ (⇒→ (not (allows s w)) _ (outs w).0 n)) [
            | inl v ↦ inl (subst (λ (x : Bool). T (not x)) (winnable_of w) v)
            | inr v ↦ inr (proved→ (other w) v)
          ];
          unwinnable_is_out = λ w n. ⇒→ (not (can w)) _ (outs w).1 (subst (λ (x : Bool). T (not x)) (sym (winnable_of w)) n);
          decided_set = λ w d. alone_is s w (lone w d);
          undecided_set = λ n m. let u = undecided p.turn (prove_attacker p) (forced_loss p) (winnable p X) (winnable p O) n m in cc;
        },
      )
        where
          each : (w : Player) → T (alone s w ⇒ proved w) × T ((proved w ⇒ alone s w) &&
              ((not (allows s w) ⇒ (not (can w) || proved (other w))) && (not (can w) ⇒ not (allows s w))))
          each w = and→ (alone s w ⇒ proved w) _ (all_each (test s) w sides (unfold holds in u) (in_sides w))

          lone : (w : Player) → Decided p w → T (alone s w)
          lone w d = ⇒→ (proved w) _ (and→ (proved w ⇒ alone s w) _ (each w).1).0 (→proved w d)

          outs : (w : Player) → T (not (allows s w) ⇒ (not (can w) || proved (other w))) × T (not (can w) ⇒ not (allows s w))
          outs w = and→ (not (allows s w) ⇒ (not (can w) || proved (other w))) _ (and→ (proved w ⇒ alone s w) _ (each w).1).1

  -- no panic
  pub merged_is_a_set : (s : Status) × (merged p ≡ Some s)
  merged_is_a_set = let r = status_says in (r.0, r.1.is_merged)

-- ---- the analysis
-- the full set and no counts, refused with n or, for 0, not refused
abbrev pub nothing_said : ℕ → Analysis
nothing_said n = record { refusal = n; status = unproven; stats = no_endgame_stats }

-- its three cases
pub analysis_cases {κ} : (p : Position) (P : Analysis → Type κ) → (T (not (unfinished p)) → P (nothing_said 0)) →
    (T (unfinished p) → T (sound p) → P (record { refusal = 0; status = or_unproven (merged p); stats = endgame_stats p })) →
    (T (unfinished p) → T (not (sound p)) → P (nothing_said 14)) → P (analysis p)
unfolding analysis first_failed when◌then◌else◌
analysis_cases p P a b c = by (unfinished p) (sound p) a b c
  where
    by : (g s : Bool) → (T (not g) → P (nothing_said 0)) →
        (T g → T s → P (record { refusal = 0; status = or_unproven (merged p); stats = endgame_stats p })) →
        (T g → T (not s) → P (nothing_said 14)) →
        P (when g && s then (λ _. record { refusal = 0; status = or_unproven (merged p); stats = endgame_stats p }) else
        λ _. nothing_said (first_failed ((not (g && not s), 14) ∷ [])))
    by false s a b c = a tt
    by true true a b c = b tt tt
    by true false a b c = c tt tt

-- a finished game gives the full set and no counts
pub analysis_finished : (p : Position) → T (not (unfinished p)) → analysis p ≡ nothing_said 0
analysis_finished p t =
    analysis_cases p (λ a. a ≡ nothing_said 0) (λ _. refl) (λ u _. absurd (T_not (unfinished p) t u))
    (λ u _. absurd (T_not (unfinished p) t u))

-- an unfinished sound position is not refused, and its status says what was proved
pub analysis_sound : (p : Position) → T (unfinished p) → T (sound p) → (s : Status) × StatusSays p s ×
    (analysis p ≡ record { refusal = 0; status = s; stats = endgame_stats p })
unfolding or_unproven
analysis_sound p t u = let r = status_says p in (
  r.0,
  r.1,
  analysis_cases p (λ a. a ≡ record { refusal = 0; status = r.0; stats = endgame_stats p }) (λ v. absurd (T_not (unfinished p) v t))
      (λ _ _. ap (λ (o : Option Status). record { refusal = 0; status = or_unproven o; stats = endgame_stats p }) r.1.is_merged)
      (λ _ v. absurd (T_not (sound p) v u)),
)

-- an unfinished unsound position is refused with 14
pub analysis_unsound : (p : Position) → T (unfinished p) → T (not (sound p)) → analysis p ≡ nothing_said 14
analysis_unsound p t u =
    analysis_cases p (λ a. a ≡ nothing_said 14) (λ v. absurd (T_not (unfinished p) v t)) (λ _ v. absurd (T_not (sound p) u v))
    (λ _ _. refl)

-- and no other is
pub analysis_refuses : (p : Position) → ((analysis p).refusal ≡ 14) ↔ (T (unfinished p) × T (not (sound p)))
analysis_refuses p = (
  analysis_cases p (λ a. a.refusal ≡ 14 → T (unfinished p) × T (not (sound p))) (λ _ e. absurd (omega arith))
      (λ _ _ e. absurd (omega arith)) (λ t u _. (t, u)),
  λ h. ap (λ (a : Analysis). a.refusal) (analysis_unsound p h.0 h.1),
)

-- ---- a move, judged
-- the number that a try gives: 0 where the move is played
abbrev pub number_of : Tried → ℕ
number_of (played q) = 0
number_of (refused n) = n

-- what a move takes to be called lost: v, the other side, has a critical board, the move is not in one, and sends v to one or to a closed
-- board
pub record CalledLost (p : Position) (m : ℕ) (v : Player) : Type 0 where
  pub accepted : T (accepts p m)
  pub sound_before : T (sound p)
  pub threatened : T (has_critical p v)
  pub elsewhere : T (not (critical p v (board_of m)))
  pub sends : T (open_board p (cell_of m)) → T (critical p v (cell_of m))

module _ (p : Position) (m : ℕ) where
  abbrev v : Player
  v = other p.turn

  lost_test : Bool
  lost_test = has_critical p v && (not (critical p v (board_of m)) && suits p v (cell_of m))

  -- refused as unsound, refused by play, or judged
  pub evaluate_unsound : T (unfinished p && not (sound p)) → evaluate_move p m ≡ record { refusal = 14; status = unproven }
  unfolding evaluate_move all_pass all first_failed when◌then◌else◌
  evaluate_unsound t = rw (is_true (unfinished p && not (sound p)) t)

  module _ (fine : T (not (unfinished p && not (sound p)))) where
    abbrev cs : List (Bool × ℕ)
    cs = checks p (board_of m) (cell_of m)

    by_play : evaluate_move p m ≡ record { refusal = first_failed cs; status = when all_pass cs then (λ _. judge p m) else λ _. unproven }
    unfolding evaluate_move all_pass all first_failed when◌then◌else◌
    by_play = rw (is_false (unfinished p && not (sound p)) fine)

    pub evaluate_refused : T (not (accepts p m)) → evaluate_move p m ≡ record { refusal = first_failed cs; status = unproven }
    unfolding accepts
    evaluate_refused t = by_play ∙ if_ind
        (λ (s : Status). ◌≡◌ {A = Judged} (record { refusal = first_failed cs; status = s })
        (record { refusal = first_failed cs; status = unproven }))
        (all_pass cs) _ _ (λ u. absurd (T_not (all_pass cs) t u)) (λ _. refl)

    pub evaluate_judged : T (accepts p m) → evaluate_move p m ≡ record { refusal = 0; status = judge p m }
    unfolding accepts
    evaluate_judged t = by_play ∙ if_ind
        (λ (s : Status). ◌≡◌ {A = Judged} (record { refusal = first_failed cs; status = s })
        (record { refusal = 0; status = judge p m }))
        (all_pass cs) _ _ (λ _ i. record { refusal = all_pass_0 cs t i; status = judge p m }) (λ u. absurd (T_not (all_pass cs) u t))

  -- the four cases
  evaluate_cases {κ} : (P : Judged → Type κ) →
      (T (unfinished p) → T (not (sound p)) → P (record { refusal = 14; status = unproven })) →
      ((n : ℕ) → play p m ≡ refused n → (T (unfinished p) → T (sound p)) → P (record { refusal = n; status = unproven })) →
      (CalledLost p m v → P (record { refusal = 0; status = for_player v })) →
      (T (accepts p m) → T (sound p) → (CalledLost p m v → ⊥) → P (record { refusal = 0; status = unproven })) →
      P (evaluate_move p m)
  unfolding judge suits lost_test
  evaluate_cases P a b c d = elim (is (unfinished p && not (sound p))) [
    | inl t ↦ (let r = and→ (unfinished p) _ t in subst P (sym (evaluate_unsound t)) (a r.0 r.1))
    | inr f ↦ elim (is (accepts p m)) [
      | inr n ↦ subst P (sym (evaluate_refused f n)) (b _ (play_refused p m n) (fine f))
      | inl t ↦ subst P (sym (evaluate_judged f t)) (if_ind (λ s. P (record { refusal = 0; status = s })) lost_test _ _
          (λ u. let r = and→ (has_critical p v) _ u in let q = and→ (not (critical p v (board_of m))) _ r.1 in c (record {
            accepted = t;
            sound_before = fine f (accepts→ p m t).unfinished;
            threatened = r.0;
            elsewhere = q.0;
            sends = ⇒→ (open_board p (cell_of m)) _ q.1;
          }))
          (λ n. d t (fine f (accepts→ p m t).unfinished) (λ l. T_not lost_test n (→and (has_critical p v) _ l.threatened
          (→and (not (critical p v (board_of m))) _ l.elsewhere (→⇒ (open_board p (cell_of m)) _ l.sends))))))
    ]
  ]
    where
      fine : T (not (unfinished p && not (sound p))) → T (unfinished p) → T (sound p)
      fine t g =
          elim (is (sound p)) [ inl s ↦ s | inr n ↦ absurd (T_not (unfinished p && not (sound p)) t (→and (unfinished p) _ g n)) ]

  -- its number is 14 exactly for an unfinished unsound position
  pub evaluate_move_14 : ((evaluate_move p m).refusal ≡ 14) ↔ (T (unfinished p) × T (not (sound p)))
  evaluate_move_14 = (
    evaluate_cases (λ j. j.refusal ≡ 14 → T (unfinished p) × T (not (sound p))) (λ t u _. (t, u))
        (λ n e _ h. absurd (omega (arith, (refusal_is_first p m n e).highest)))
        (λ _ h. absurd (omega arith)) (λ _ _ _ h. absurd (omega arith)),
    λ h. evaluate_cases (λ j. j.refusal ≡ 14) (λ _ _. refl) (λ _ _ f. absurd (T_not (sound p) h.1 (f h.0)))
        (λ l. absurd (T_not (sound p) h.1 l.sound_before)) (λ _ s _. absurd (T_not (sound p) h.1 s)),
  )

  -- else it is play's
  pub evaluate_move_number : (T (unfinished p) → T (sound p)) → (evaluate_move p m).refusal ≡ number_of (play p m)
  evaluate_move_number f =
      evaluate_cases (λ j. j.refusal ≡ number_of (play p m)) (λ t u. absurd (T_not (sound p) u (f t))) (λ n e _. sym (ap number_of e))
      (λ l. sym (ap number_of (play_accepted p m l.accepted))) (λ t _ _. sym (ap number_of (play_accepted p m t)))

  -- its status is the other side's win exactly for a move that is called lost
  pub evaluate_move_lost : ((evaluate_move p m).status ≡ for_player v) ↔ CalledLost p m v
  evaluate_move_lost = (
    evaluate_cases (λ j. j.status ≡ for_player v → CalledLost p m v) (λ _ _ e. absurd (full e)) (λ _ _ _ e. absurd (full e))
        (λ l _. l) (λ _ _ _ e. absurd (full e)),
    λ l. evaluate_cases (λ j. j.status ≡ for_player v) (λ _ n. absurd (T_not (sound p) n l.sound_before))
        (λ n e _. let x = play_accepted p m l.accepted in let z : ◌≡◌ {A = ℕ} 0 1 = cc in absurd (omega arith)) (λ _. refl)
        (λ _ _ n. absurd (n l)),
  )
    where
      full : unproven ≡ for_player v → ⊥
      full e = subst (λ (s : Status). T s.draw) e tt

  -- and else the full set
  pub evaluate_move_else : (CalledLost p m v → ⊥) → (evaluate_move p m).status ≡ unproven
  evaluate_move_else n = evaluate_cases (λ j. j.status ≡ unproven) (λ _ _. refl) (λ _ _ _. refl) (λ l. absurd (n l)) (λ _ _ _. refl)
