-- Wins and losses that the endgame analysis proves, as plain minimax gives them with no draw winner and accepted weights: in one, two and
-- three plies, and never.
use Rattle.std.specs.Prelude.{Option, None, Some}
use mathlib.Core.Path.{◌≡◌, refl, sym, ap, ◌∙◌, subst}
use mathlib.Core.Bool.{not}
use mathlib.Core.Logic.{inl, inr}
use Prim.Native.Nat.{ℕ, zero, suc, ◌<◌}
use native.Mathlib.Omega.{arith}
use lib.Dec.{T, ltb, eqb_refl, ltb→lt, T_not, not_T}
use lib.IntN.{ℤ, neg_ℤ, neg_ℤ-neg_ℤ}
use Rattle.base.specs.Lists.{In}
use Rattle.base.proofs.Bool.{and→, →and, →or_l, is}
use Rattle.base.proofs.Branch.{if_ind}
use Rattle.base.proofs.Integers.{hi, lo, zarith}
use Rattle.base.proofs.Lists.{any_some, some_any}
use Rattle.rules.specs.declared.Player.{Player}
use Rattle.rules.specs.declared.Player.TheVariants.{X, O}
use Rattle.rules.specs.declared.GameState.{GameState}
use Rattle.rules.specs.declared.GameState.TheVariants.{InPlay, Drawn, Won}
use Rattle.rules.specs.declared.Weights.{Weights}
use Rattle.rules.specs.Board.{other, in_play, won_by, nine}
use Rattle.rules.specs.Position.{Position, unfinished, open_board, won_boards, free_cell}
use Rattle.rules.specs.Play.{move_of, board_of, cell_of, may, accepts, after, tried}
use Rattle.rules.specs.Moves.{moves}
use Rattle.rules.specs.Sound.{next_board_open}
use Rattle.rules.specs.Evaluation.{accepted_weights, Scoring, no_draw_winner, won, lost, seen_by, state_value, evaluate}
use Rattle.rules.specs.Endgame.{winning, critical, has_critical, all_suit, lure, attack, prove_attacker, forced, forced_loss, winnable}
use Rattle.rules.proofs.Board.{other_other, side, in_nine, nine_in, result_some}
use Rattle.rules.proofs.Play.{Legal, accepts→, tried_accepted, tried_at}
use Rattle.rules.proofs.Moves.{moves_are_accepted, legal_is_listed}
use Rattle.rules.proofs.Sound.{Good, after_is_good, play_stays_good, some_move}
use Rattle.rules.proofs.Evaluation.{score_within, accepted_most}
use Rattle.rules.proofs.Endgame.{crit→, crit_apart, suits_at, Lure, lure→, attack→, forced→, due_is_played, after_turn}
use Rattle.rules.proofs.Endgame.{open_before, open_still, free_before, crit_still, crit_before, no_win, critical_wins, goes_on, lands}
use Rattle.rules.proofs.Endgame.{unwinnable_still, unwinnable_not_won}
use Rattle.theory.specs.PlainMinimax.{plain}
use Rattle.theory.proofs.PlainMinimax.{Lawful, plain_over, one_wins, all_lose, won_by_one, lost_by_all, stays_won_to}
use Rattle.rules_game.specs.RulesGame.{game, plain_minimax, win_for}
use Rattle.rules_game.proofs.RulesGame.{rules_lawful}

-- what the search asks of a position before it goes on
pub not_over : (p : Position) → T (unfinished p) → T (not (not (unfinished p)))
not_over p t = not_T (not (unfinished p)) (λ u. T_not (unfinished p) u t)

-- ---- the value of a won game: for its winner to move, and for the other side
pub own_win : (v : Player) → seen_by v (seen_by v won) ≡ won
own_win X = refl
own_win O = refl

pub other_win : (v : Player) → seen_by v (seen_by (other v) won) ≡ lost
other_win X = refl
other_win O = refl

-- for the side to move, v, who is not the winner
lost_to : (w v : Player) → v ≡ other w → seen_by v (seen_by w won) ≡ lost
lost_to w v e =
    ap (λ (u : Player). seen_by u (seen_by w won)) e ∙ ap (λ (u : Player). seen_by (other w) (seen_by u won)) (sym (other_other w))
    ∙ other_win (other w)

-- ---- a side that can no longer win, and has not won
pub record Never (w : Player) (p : Position) : Type 0 where
  pub gone : T (not (winnable p w))
  pub not_yet : T (not (won_by w p.state))

never_after : (w : Player) (p : Position) (m : ℕ) → In m (moves p) → Never w p → Never w (tried p m)
never_after w p m i n =
    subst (Never w) (sym (tried_accepted p m t)) (record { gone = gone; not_yet = unwinnable_not_won p (board_of m) (cell_of m) l w gone })
  where
    t : T (accepts p m)
    t = (moves_are_accepted p m).0 i

    l : Legal p (board_of m) (cell_of m)
    l = accepts→ p m t

    gone : T (not (winnable (after p (board_of m) (cell_of m)) w))
    gone = unwinnable_still p (board_of m) (cell_of m) l w n.gone

turn_after : (p : Position) (m : ℕ) → In m (moves p) → (tried p m).turn ≡ other p.turn
turn_after p m i =
    ap (λ (q : Position). q.turn) (tried_accepted p m ((moves_are_accepted p m).0 i)) ∙ after_turn p (board_of m) (cell_of m)

seen_back : (v : Player) (a b : ℤ) → seen_by v a ≡ seen_by v b → a ≡ b
seen_back X a b e = e
seen_back O a b e = sym (neg_ℤ-neg_ℤ a) ∙ ap neg_ℤ e ∙ neg_ℤ-neg_ℤ b

module _ (weights : Weights) (accepted : T (accepted_weights weights)) where
  abbrev sc : Scoring
  sc = no_draw_winner weights

  abbrev mm : ℕ → Position → ℤ
  mm d p = plain_minimax sc d p

  abbrev lawful : Lawful (game sc)
  lawful = rules_lawful sc accepted

  is_lost : (d : ℕ) (w : Player) (q : Position) → q.state ≡ Won w → q.turn ≡ other w → mm d q ≡ lost
  unfolding evaluate
  is_lost d w q e f =
      plain_over (game sc) d q (subst (λ (g : GameState). T (not (in_play g))) (sym e) tt)
      ∙ ap (λ (g : GameState). seen_by q.turn (state_value sc q g)) e ∙ lost_to w q.turn f

  -- ---- in one: the side to move may play in a critical board of its own
  pub wins_in_1 : (p : Position) → Good p → T (unfinished p) → (k : ℕ) → k < 9 → T (critical p p.turn k) →
      T (may p.next_board k) → plain_minimax sc 1 p ≡ won
  wins_in_1 p g t k h cr m = one_wins (game sc) lawful 0 p g (not_over p t) (move_of k w.0) (legal_is_listed p k w.0 l)
      (subst (λ (q : Position). mm 0 q ≡ lost) (sym (tried_at p k w.0 l))
      (is_lost 0 p.turn (after p k w.0) (critical_wins p k w.0 l cr w.2) (after_turn p k w.0)))
    where
      w : (c : ℕ) × In c nine × T (winning p.turn (p.cells k) c)
      w = any_some (winning p.turn (p.cells k)) nine (crit→ p p.turn k cr).cell

      l : Legal p k w.0
      l =
          record {
            board = h;
            cell = nine_in w.0 w.1;
            unfinished = t;
            opened = (crit→ p p.turn k cr).opened;
            allowed = m;
            empty = unfold winning in (and→ (free_cell p k w.0) _ w.2).0;
          }

  -- ---- lost in two: w, not to move, has a critical board outside board b, where the side to move has to play without winning, and every
  -- cell there sends w to a critical board
  module _ (p : Position) (g : Good p) (t : T (unfinished p)) (b : ℕ) (due : p.next_board ≡ Some b)
      (still : T (not (critical p p.turn b)))
      (w : Player) (turn : other p.turn ≡ w) (k : ℕ) (k9 : k < 9) (cr : T (critical p w k)) (away : b ≡ k → ⊥)
      (sends : (c : ℕ) → c < 9 → T (free_cell p b c) → T (open_board p c) → T (critical p w c) × (b ≡ c → ⊥)) where
    loses_each : (m : ℕ) → In m (moves p) → mm 1 (tried p m) ≡ won
    loses_each m i =
        subst (λ (q : Position). mm 1 q ≡ won)
        (sym (tried_accepted p m ((moves_are_accepted p m).0 i) ∙ ap (λ (x : ℕ). after p x (cell_of m)) (sym e)))
        (wins_in_1 q (after_is_good p b c l g) goes z.0 z.1 (subst (λ (u : Player). T (critical q u z.0))
        (sym (after_turn p b c ∙ turn)) z.2) z.3)
      where
        c : ℕ
        c = cell_of m

        l₀ : Legal p (board_of m) (cell_of m)
        l₀ = accepts→ p m ((moves_are_accepted p m).0 i)

        e : b ≡ board_of m
        e = due_is_played p.next_board b (board_of m) due l₀.allowed

        l : Legal p b c
        l = subst (λ (x : ℕ). Legal p x (cell_of m)) (sym e) l₀

        q : Position
        q = after p b c

        goes : T (unfinished q)
        goes = goes_on p b c l k k9 (open_still p b c l k away (crit→ p w k cr).opened) (no_win p b c l (g.fair t) still)

        z : (j : ℕ) × (j < 9) × T (critical q w j) × T (may q.next_board j)
        z = lands p b c l w k k9 cr away (sends c l.cell l.empty)

    -- so every move loses
    pub loses_in_2 : plain_minimax sc 2 p ≡ lost
    loses_in_2 = all_lose (game sc) lawful 1 p g (not_over p t) loses_each

  -- a forced loss, where the side to move has no attack of its own
  pub forced_loses : (p : Position) → Good p → T (unfinished p) → T (not (prove_attacker p)) → T (forced_loss p) →
      plain_minimax sc 2 p ≡ lost
  unfolding forced_loss has_critical
  forced_loses p g t n f =
      loses_in_2 p g t b s.1 still v refl k.0 (nine_in k.0 k.1) k.2 (crit_apart p v k.0 b k.2 s.2)
      (λ c c9 f o. let q = suits_at p v b c s.3 c9 f o in (q, crit_apart p v c b q s.2))
    where
      v : Player
      v = other p.turn

      r : T (has_critical p v) × T (forced p v p.next_board)
      r = and→ (has_critical p v) _ f

      k : (k : ℕ) × In k nine × T (critical p v k)
      k = any_some (critical p v) nine r.0

      s : (b : ℕ) × (p.next_board ≡ Some b) × T (not (critical p v b)) × T (all_suit p v b)
      s = forced→ p v p.next_board r.1

      b : ℕ
      b = s.0

      b9 : b < 9
      b9 = ltb→lt b 9 (and→ (ltb b 9) _ (subst (λ (d : Option ℕ). T (next_board_open p d)) s.1 g.due_is)).0

      still : T (not (critical p p.turn b))
      still =
          not_T (critical p p.turn b) (λ u. T_not (prove_attacker p) n
          (unfold prove_attacker in (→and (has_critical p p.turn) _ (some_any (critical p p.turn) b nine (in_nine b b9) u)
          (subst (λ (d : Option ℕ). T (attack p p.turn d)) (sym s.1) (unfold attack in (→or_l (critical p p.turn b) _ u))))))

  -- ---- won in three: the side to move has a critical board, and sends the other side from board b, which is due, to board i, from where
  -- it cannot but send back to a critical board
  module _ (p : Position) (g : Good p) (t : T (unfinished p)) (b : ℕ) (due : p.next_board ≡ Some b) (b9 : b < 9)
      (opened : T (open_board p b))
      (quiet : T (not (critical p p.turn b))) (k : ℕ) (k9 : k < 9) (cr : T (critical p p.turn k)) (i : ℕ) (i9 : i < 9)
      (lured : Lure p p.turn b i) where
    l : Legal p b i
    l = record {
      board = b9;
      cell = i9;
      unfinished = t;
      opened = opened;
      allowed = subst (λ (d : Option ℕ). T (may d b)) (sym due) (eqb_refl b);
      empty = lured.empty;
    }

    abbrev q : Position
    q = after p b i

    still_open : T (open_board q i)
    still_open = open_still p b i l i lured.away lured.opened

    due_there : q.next_board ≡ Some i
    unfolding after
    due_there =
        if_ind (λ (d : Option ℕ). d ≡ Some i) (open_board q i) _ _ (λ _. refl) (λ u. absurd (T_not (open_board q i) u still_open))

    sends_back : (c : ℕ) → c < 9 → T (free_cell q i c) → T (open_board q c) → T (critical q p.turn c) × (i ≡ c → ⊥)
    sends_back c c9 f o =
        let u = suits_at p p.turn i c lured.all_suited c9 (free_before p b i l i c lured.away f) (open_before p b i l c o) in
        (crit_still p b i l p.turn c (crit_apart p p.turn c b u quiet) u, crit_apart p p.turn c i u lured.not_own)

    no_win_there : T (not (critical q q.turn i))
    no_win_there =
        subst (λ (v : Player). T (not (critical q v i))) (sym (after_turn p b i))
        (not_T (critical q (other p.turn) i) (λ u. T_not (critical p (other p.turn) i) lured.not_others
        (crit_before p b i l i lured.away u)))

    loses_there : mm 2 q ≡ lost
    loses_there =
        elim (result_some p.turn (won_boards q p.turn) (open_board q) (some_any (open_board q) i nine (in_nine i i9) still_open)) [
          | inl e ↦ is_lost 2 p.turn q (unfold after in e) (after_turn p b i)
          | inr e ↦ loses_in_2 q (after_is_good p b i l g) (unfold after in (subst (λ (s : GameState). T (in_play s)) (sym e) tt)) i
              due_there no_win_there p.turn (ap other (after_turn p b i) ∙ other_other p.turn) k k9
              (crit_still p b i l p.turn k (crit_apart p p.turn k b cr quiet) cr) (crit_apart p p.turn k i cr lured.not_own)
              sends_back
        ]

    -- so that move wins
    pub wins_in_3 : plain_minimax sc 3 p ≡ won
    wins_in_3 =
        one_wins (game sc) lawful 2 p g (not_over p t) (move_of b i) (legal_is_listed p b i l)
        (subst (λ (q : Position). mm 2 q ≡ lost) (sym (tried_at p b i l)) loses_there)

  -- an attack, at once or by sending the other side away
  pub attacker_wins : (p : Position) → Good p → T (unfinished p) → T (prove_attacker p) → plain_minimax sc 3 p ≡ won
  unfolding prove_attacker has_critical
  attacker_wins p g t a = go p.next_board refl r.1 g.due_is
    where
      r : T (has_critical p p.turn) × T (attack p p.turn p.next_board)
      r = and→ (has_critical p p.turn) _ a

      k : (k : ℕ) × In k nine × T (critical p p.turn k)
      k = any_some (critical p p.turn) nine r.0

      at_once : (j : ℕ) → j < 9 → T (critical p p.turn j) → T (may p.next_board j) → mm 3 p ≡ won
      at_once j h c m = stays_won_to (game sc) lawful 2 1 3 p g (omega arith) (wins_in_1 p g t j h c m)

      go : (d : Option ℕ) → p.next_board ≡ d → T (attack p p.turn d) → T (next_board_open p d) → mm 3 p ≡ won
      go None e h o = at_once k.0 (nine_in k.0 k.1) k.2 (subst (λ (d : Option ℕ). T (may d k.0)) (sym e) tt)
      go (Some b) e h o = elim (is (critical p p.turn b)) [
        | inl u ↦ at_once b b9 u (subst (λ (d : Option ℕ). T (may d b)) (sym e) (eqb_refl b))
        | inr u ↦ elim (attack→ p p.turn b h) [
          | inl v ↦ absurd (T_not (critical p p.turn b) u v)
          | inr v ↦ by_lure u (any_some (lure p p.turn b) nine v)
        ]
      ]
        where
          b9 : b < 9
          b9 = ltb→lt b 9 (and→ (ltb b 9) _ o).0

          by_lure : T (not (critical p p.turn b)) → (i : ℕ) × In i nine × T (lure p p.turn b i) → mm 3 p ≡ won
          by_lure u z =
              wins_in_3 p g t b e b9 (and→ (ltb b 9) _ o).1 u k.0 (nine_in k.0 k.1) k.2 z.0 (nine_in z.0 z.1)
              (lure→ p p.turn b z.0 z.2)

  -- ---- never: the side can no longer win
  not_won_value : (w : Player) (p : Position) (g : GameState) → T (not (won_by w g)) → state_value sc p g ≡ seen_by w won → ⊥
  unfolding hi lo
  not_won_value X p InPlay n e = omega (zarith, score_within weights p, accepted_most weights accepted)
  not_won_value O p InPlay n e = omega (zarith, score_within weights p, accepted_most weights accepted)
  not_won_value X p Drawn n e = omega zarith
  not_won_value O p Drawn n e = omega zarith
  not_won_value X p (Won X) n e = n
  not_won_value X p (Won O) n e = omega zarith
  not_won_value O p (Won X) n e = omega zarith
  not_won_value O p (Won O) n e = n

  value_not_won : (w : Player) (p : Position) → Never w p → evaluate sc p ≡ win_for w p → ⊥
  unfolding evaluate
  value_not_won w p n e = not_won_value w p p.state n.not_yet (seen_back p.turn _ _ e)

  -- wins at no depth
  pub never_wins : (d : ℕ) (w : Player) (p : Position) → Good p → Never w p → plain_minimax sc d p ≡ win_for w p → ⊥
  unfolding plain
  never_wins zero w p g n e = value_not_won w p n e
  never_wins (suc d) w p g n e = elim (is (unfinished p)) [
    | inr u ↦ value_not_won w p n (sym (plain_over (game sc) (suc d) p u) ∙ e)
    | inl u ↦ side (λ v. Never v p → mm (suc d) p ≡ win_for v p → ⊥) p.turn
        (λ n e. let r = won_by_one (game sc) lawful d p g (not_over p u) (e ∙ own_win p.turn) in
        never_wins d p.turn (tried p r.0) (play_stays_good p g r.0) (never_after p.turn p r.0 r.1 n)
        (r.2 ∙ sym (lost_to p.turn (tried p r.0).turn (turn_after p r.0 r.1))))
        (λ n e. let m = some_move p g u in
        never_wins d (other p.turn) (tried p m.0) (play_stays_good p g m.0) (never_after (other p.turn) p m.0 m.1 n)
        (lost_by_all (game sc) lawful d p g (not_over p u) (e ∙ other_win p.turn) m.0 m.1
        ∙ sym (ap (λ (v : Player). seen_by v (seen_by (other p.turn) won)) (turn_after p m.0 m.1) ∙ own_win (other p.turn))))
        w n e
  ]
