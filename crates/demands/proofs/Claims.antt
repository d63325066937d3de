-- The claims hold of what the definition reports: an accepted search is the deepening search of the written rules, whose laws say them.
use Rattle.std.specs.Prelude.{Option, None}
use mathlib.Core.Path.{◌≡◌, refl, sym, ap, ◌∙◌, subst}
use mathlib.Core.Bool.{Bool, true, false, not, cond, ◌&&◌}
use mathlib.Core.List.{List, [], ◌∷◌, ◌++◌}
use mathlib.Core.Logic.{◌⊎◌, inl, inr}
use Prim.Native.Nat.{ℕ, zero, suc, ◌-◌, ◌≤◌}
use native.Mathlib.Omega.{arith}
use lib.Dec.{T, eqb, T_not}
use lib.IntN.{ℤ, neg_ℤ}
use lib.ListN.{length, get_or}
use borrow.Author.Tests.{eqb-true, eqb-false}
use Rattle.base.specs.Branch.{when◌then◌else◌}
use Rattle.rules.specs.declared.Player.{Player}
use Rattle.rules.specs.Position.{Position, start, unfinished}
use Rattle.rules.specs.Play.{no_move, accepts, tried, reached}
use Rattle.rules.specs.Status.{allows, alone}
use Rattle.rules.specs.Endgame.{analysis}
use Rattle.rules.specs.Evaluation.{accepted_weights, Scoring, scoring_with, no_draw_winner}
use Rattle.rules.proofs.Moves.{moves_are_accepted}
use Rattle.theory.specs.Game.{Game}
use Rattle.theory.specs.Table.{off}
use Rattle.theory.specs.Memory.{Responses, Memory, fresh_memory}
use Rattle.theory.specs.OrderedSearch.{at_most}
use Rattle.theory.specs.Deepening.{SearchAnswer, analyze}
use Rattle.theory.specs.Reported.{Settings, entry_refusal, Reported, report, reported}
use Rattle.theory.specs.Variation.{Playout, play_out, ends_on, FirstAttains}
use Rattle.theory.proofs.Allowance.{spent_means_mark, lt_or}
use Rattle.theory.proofs.OrderedSearchPlaces.{analyze_places}
use Rattle.rules_game.specs.RulesGame.{game, plain_minimax, win_for}
use Rattle.rules_game.specs.Answers.{entries, AnswersWhole}
use Rattle.rules_game.proofs.Answers.{unstopped_right, alone_scores, left_out_never_scores, not_nothing}
use Rattle.minimax.proofs.ReportRefusals.{limits, some_depth, accepted_reported, turned_reported}
use Rattle.demands.specs.Claims.{NotStopped, MarkSays, ReportsMinimax, StatusHolds}

-- ---- a variation and what is appended to it
play_out_longer : (G : Game) (d : ℕ) (p : G.Pos) (line rest : List ℕ) → length line ≡ d →
    play_out G d p (line ++ rest) ≡ play_out G d p line
unfolding play_out
play_out_longer G zero p line rest e = refl
play_out_longer G (suc d) p [] rest e = absurd (omega arith)
play_out_longer G (suc d) p (m ∷ line) rest e =
    ap (λ (w : Playout G.Pos). when G.over p then (λ _. record { accepted = true; end = p; odd = false })
    else λ _. record { accepted = G.accepts p m && w.accepted; end = w.end; odd = not w.odd })
    (play_out_longer G d (G.play p m) line rest (omega arith))

ends_longer : (G : Game) (d : ℕ) (p : G.Pos) (line rest : List ℕ) → length line ≡ d →
    ends_on G d p (line ++ rest) ≡ ends_on G d p line
unfolding ends_on
ends_longer G d p line rest e =
    ap (λ (w : Playout G.Pos). cond w.odd (neg_ℤ (G.value w.end)) (G.value w.end)) (play_out_longer G d p line rest e)

-- the first move of a variation that begins so
module _ (sc : Scoring) (k : ℕ) (p : Position) where
  first_legal : (line rest : List ℕ) (r : ℤ) → FirstAttains (game sc) k p line r → T (accepts p (get_or (line ++ rest) 0 no_move))
  first_legal [] rest r b = absurd b
  first_legal (m ∷ line) rest r b = (moves_are_accepted p m).0 b.0

  first_attains : (line rest : List ℕ) (r : ℤ) → FirstAttains (game sc) k p line r →
      neg_ℤ (plain_minimax sc k (tried p (get_or (line ++ rest) 0 no_move))) ≡ r
  first_attains [] rest r b = absurd b
  first_attains (m ∷ line) rest r b = b.1

-- ---- a search of the position that a list of tried moves reaches, if it is unfinished
module _ (ms : List ℕ) (t : T (unfinished (reached start ms))) (draws : Option Player) (c : Settings) (rs : Responses) where
  abbrev sc : Scoring
  sc = scoring_with draws c.weights

  abbrev p : Position
  p = reached start ms

  abbrev s : Memory
  s = fresh_memory rs []

  abbrev answer : SearchAnswer
  answer = analyze (game sc) (at_most c.allowance) c.max_depth p s

  abbrev x : Reported
  x = reported (game sc) c p rs []

  table_off : T (off s.table)
  unfolding off
  table_off = tt

  -- an accepted one
  module _ (e : entry_refusal c 0 ≡ 0) where
    is_report : report (game sc) p answer ≡ x
    is_report = accepted_reported (game sc) c p rs [] (sym e)

    depth_is : c.max_depth ≡ suc (c.max_depth - 1)
    depth_is = let h = some_depth c 0 (sym e) in omega arith

    weights_accepted : T (accepted_weights c.weights)
    weights_accepted = (limits c 0 (sym e)).2

  module _ (n : NotStopped draws c rs p) where
    whole_by : (d k : ℕ) → d ≡ suc k → entries sc d p s ≤ c.allowance →
        AnswersWhole sc k p (analyze (game sc) (at_most c.allowance) d p s)
    whole_by d k q =
        subst (λ (y : ℕ). entries sc y p s ≤ c.allowance → AnswersWhole sc k p (analyze (game sc) (at_most c.allowance) y p s))
        (sym q) (unstopped_right c.weights (weights_accepted n.accepted) ms t s table_off refl k draws c.allowance)

    whole : AnswersWhole sc (c.max_depth - 1) p answer
    whole = whole_by c.max_depth (c.max_depth - 1) (depth_is n.accepted) n.enough

    report_right : ReportsMinimax draws c rs p (report (game sc) p answer)
    report_right =
        let places = analyze_places (game sc) (at_most c.allowance) c.max_depth p s in let r = whole.right in
        let d = depth_is n.accepted in record {
          score = r.score_is ∙ ap (λ (y : ℕ). plain_minimax sc y p) (sym d);
          first_legal = first_legal sc (c.max_depth - 1) p answer.completed.pv _ answer.completed.score whole.first_attains;
          first_attains = first_attains sc (c.max_depth - 1) p answer.completed.pv _ answer.completed.score whole.first_attains;
          some_depth = r.some_depth;
          no_deeper = omega (arith, r.no_deeper);
          deep = elim r.deep [ inl q ↦ inl (q ∙ sym d) | inr q ↦ inr q ];
          line_legal =
              subst (λ (w : Playout Position). T w.accepted)
              (sym (play_out_longer (game sc) answer.completed.depth p answer.completed.pv _ places)) r.accepted;
          line_ends = r.ends ∙ sym (ends_longer (game sc) answer.completed.depth p answer.completed.pv _ places);
        }

    pub reported_right : ReportsMinimax draws c rs p x
    reported_right = subst (ReportsMinimax draws c rs p) (is_report n.accepted) report_right

    unmarked_number : (b : Bool) (d : ℕ) → T (not b) → ◌≡◌ {A = ℕ} (when b && eqb d 0 then (λ _. 18) else λ _. 0) 0
    unfolding when◌then◌else◌
    unmarked_number true d u = absurd u
    unmarked_number false d u = refl

    number_none : x.number ≡ 0
    number_none =
        subst (λ (y : Reported). y.number ≡ 0) (is_report n.accepted)
        (unmarked_number answer.is_stopped answer.completed.depth whole.unmarked)

    not_marked : T (not x.is_stopped)
    not_marked = subst (λ (y : Reported). T (not y.is_stopped)) (is_report n.accepted) whole.unmarked

  only_then : x.number ≡ 0 → T (not x.is_stopped) → NotStopped draws c rs p
  only_then h u =
      elim (refusal_none (eqb (entry_refusal c 0) 0) refl) [ inl e ↦ record { accepted = e; enough = enough e } | inr e ↦ absurd e ]
    where
      refusal_none : (b : Bool) → eqb (entry_refusal c 0) 0 ≡ b → (entry_refusal c 0 ≡ 0) ⊎ ⊥
      refusal_none true q = inl (eqb-true (entry_refusal c 0) 0 q)
      refusal_none false q =
          inr (eqb-false (entry_refusal c 0) 0 q (sym (ap (λ (y : Reported). y.number) (turned_reported (game sc) c p rs [] q)) ∙ h))

      enough : entry_refusal c 0 ≡ 0 → entries sc c.max_depth p s ≤ c.allowance
      enough e = elim (lt_or c.allowance (entries sc c.max_depth p s)) [
        | inl q ↦ absurd (T_not answer.is_stopped (subst (λ (y : Reported). T (not y.is_stopped)) (sym (is_report e)) u)
            (spent_means_mark (game sc) c.allowance c.max_depth p s (omega arith) q))
        | inr q ↦ q
      ]

  pub reported_marks : MarkSays draws c rs p x
  reported_marks = record { number_none = number_none; not_marked = not_marked; only_then = only_then }

-- ---- with no draw winner
module _ (ms : List ℕ) (t : T (unfinished (reached start ms))) (c : Settings) (rs : Responses) where
  abbrev G : Game
  G = game (no_draw_winner c.weights)

  alone_by : (w : Player) → T (alone (analysis (reached start ms)).status w) → NotStopped None c rs (reached start ms) →
      3 ≤ c.max_depth → (reported G c (reached start ms) rs []).score ≡ win_for w (reached start ms)
  alone_by w a n three = sym (ap (λ (y : Reported). y.score) (is_report ms t None c rs n.accepted))
      ∙ by_depth c.max_depth n.enough (depth_is ms t None c rs n.accepted) three
    where
      by_depth : (d : ℕ) → entries (no_draw_winner c.weights) d (reached start ms) (fresh_memory rs []) ≤ c.allowance →
          d ≡ suc (c.max_depth - 1) → 3 ≤ d → (analyze G (at_most c.allowance) d (reached start ms)
          (fresh_memory rs [])).completed.score ≡ win_for w (reached start ms)
      by_depth d h e k =
          subst (λ (y : ℕ). entries (no_draw_winner c.weights) y (reached start ms) (fresh_memory rs []) ≤ c.allowance →
          (analyze G (at_most c.allowance) y (reached start ms) (fresh_memory rs [])).completed.score
          ≡ win_for w (reached start ms)) (sym e)
          (λ i. alone_scores c.weights (weights_accepted ms t None c rs n.accepted) ms t (fresh_memory rs [])
          (table_off ms t None c rs) refl (c.max_depth - 1) c.allowance i (omega arith) w a) h

  never_by : (w : Player) → T (not (allows (analysis (reached start ms)).status w)) →
      (reported G c (reached start ms) rs []).score ≡ win_for w (reached start ms) → ⊥
  never_by w out h = by_refusal (eqb (entry_refusal c 0) 0) refl
    where
      searched_never : T (accepted_weights c.weights) → (d k : ℕ) → d ≡ suc k → (analyze G (at_most c.allowance) d (reached start ms)
          (fresh_memory rs [])).completed.score ≡ win_for w (reached start ms) → ⊥
      searched_never a d k e =
          subst (λ (y : ℕ). (analyze G (at_most c.allowance) y (reached start ms)
          (fresh_memory rs [])).completed.score ≡ win_for w (reached start ms) → ⊥) (sym e)
          (left_out_never_scores c.weights a ms t (fresh_memory rs []) (table_off ms t None c rs) refl k w out
          (at_most c.allowance))

      by_refusal : (b : Bool) → eqb (entry_refusal c 0) 0 ≡ b → ⊥
      by_refusal true q = let e = eqb-true (entry_refusal c 0) 0 q in
          searched_never (weights_accepted ms t None c rs e) c.max_depth (c.max_depth - 1) (depth_is ms t None c rs e)
          (ap (λ (y : Reported). y.score) (is_report ms t None c rs e) ∙ h)
      by_refusal false q =
          not_nothing (reached start ms).turn w
          (sym (ap (λ (y : Reported). y.score) (turned_reported G c (reached start ms) rs [] q)) ∙ h)

  pub reported_holds : StatusHolds c rs (reached start ms) (reported G c (reached start ms) rs [])
      (analysis (reached start ms)).status
  reported_holds = record { alone_wins = alone_by; left_out_never = never_by }
