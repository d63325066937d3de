-- Each promise of a call says the refusals of demand 1: the number is that of the first check that fails.
use Rattle.rules.specs.declared.GameState.TheVariants.{InPlay}
use Rattle.rules.specs.declared.GameState.{GameState}
use Rattle.rules.specs.declared.CellState.TheVariants.{Empty}
use Rattle.rules.specs.declared.CellState.{CellState}
use Rattle.std.specs.Result.{result_unwrap_or}
use Rattle.std.specs.Prelude.{Option, Result, IfOk, ℤ, Ok, Err}
use lib.Ieee.Bits.{is_true, is_false}
use mathlib.Core.Path.{◌≡◌, refl, sym, ap, ◌∙◌, subst}
use mathlib.Core.Bool.{Bool, true, false, not, ◌||◌, ◌&&◌, or_assoc, not-not}
use mathlib.Core.List.{List, [], ◌∷◌, ◌++◌}
use mathlib.Core.Logic.{inl, inr}
use Prim.Native.Nat.{ℕ, ◌≤◌}
use native.Mathlib.Omega.{arith}
use lib.Dec.{T, eqb, leb, ltb, eqb→eq, leb→le, le→leb, ltb→lt, nltb→le, T_not, not_T}
use lib.ListN.{length}
use Rattle.rules.specs.declared.Player.{Player}
use Rattle.base.specs.Branch.{when◌then◌else◌}
use Rattle.base.specs.Lists.{any, all}
use Rattle.base.specs.Checks.{all_pass, first_failed}
use Rattle.base.proofs.Bool.{and→, →and, neither, is}
use Rattle.base.proofs.Branch.{if_ind}
use Rattle.base.proofs.Checks.{all_pass_0, some_failed, failed_number, 0_all_pass, failed_at, passed_++, failed_++}
use Rattle.rules.specs.declared.Player.TheVariants.{X, O}
use Rattle.rules.specs.declared.Weights.{Weights}
use Rattle.rules.specs.Board.{nine, sides, has_line}
use Rattle.rules.specs.Position.{Position, unfinished, open_board, free_cell, has}
use Rattle.rules.specs.Play.{no_move, move_of, board_of, cell_of, checks, accepts}
use Rattle.rules.specs.Sound.{sound}
use Rattle.rules.specs.Status.{Status as Set, unproven}
use Rattle.rules.specs.Evaluation.{accepted_weights, scoring_with, evaluated}
use Rattle.rules.specs.Endgame.{Analysis as Meant, no_endgame_stats as no_counts, analysis_checks, analysis, judging_checks, evaluate_move}
use Rattle.rules.proofs.Play.{tried_accepted}
use Rattle.rules.proofs.Endgame.{analysis_finished}
use Rattle.theory.specs.Limits.{console}
use Rattle.theory.specs.Game.{Game as Searched}
use Rattle.theory.specs.Memory.{Memory, fresh_memory}
use Rattle.theory.specs.Deepening.{Completed, SearchAnswer}
use Rattle.theory.specs.Reported.{entry_checks, entry_refusal, no_stats, filled, refused_entry, report, reported}
use Rattle.theory.proofs.Allowance.{none_whole_marked, none_whole_counted, none_whole_nothing, none_whole_is}
use Rattle.boards.specs.declared.moves.Move.{Move}
use Rattle.boards.specs.Answers.{in_range, within, move_error_number}
use Rattle.game.specs.declared.Game.{Game}
use Rattle.game.specs.Meaning.{position_of}
use Rattle.game.specs.After.{Plays}
use Rattle.game.proofs.Meaning.{game_accepted, game_refused}
use Rattle.game.proofs.AfterRefusals.{first_is_refusal, nought_accepts, refused_not_accepts}
use Rattle.status.specs.Sets.{status_of}
use Rattle.evaluation.specs.Values.{Evaluates}
use Rattle.endgame.specs.declared.Analysis.{Analysis}
use Rattle.endgame.specs.Means.{move_status_number, Analyses, Judges}
use Rattle.minimax.specs.declared.Minimax.{Minimax}
use Rattle.minimax.specs.declared.Config.{Config}
use Rattle.minimax.specs.declared.Report.{Report}
use Rattle.minimax.specs.Structs.{structs}
use Rattle.minimax.specs.Report.{settings_of, report_of, answer_of, reported_of, scoring_of, responses_of}
use Rattle.demands.specs.Demand1.{Playing, depth_1_enters, searching, NothingReported, Searching, line_of_boards, broken_board}
use Rattle.demands.specs.Demand1.{LookingCell, LookingBoard}
use Rattle.demands.specs.Demand1.{Evaluating, unsound, analysing, Analysing, JudgingMove, Building}
use Rattle.rules.specs.Refusal.{answer_number}
use Rattle.boards.specs.declared.moves.MoveError.{MoveError}
use Rattle.evaluation.specs.declared.BadWeight.{BadWeight}
use Rattle.endgame.specs.declared.Unsound.{Unsound}
use Rattle.endgame.specs.declared.MoveStatusError.{MoveStatusError}
use Rattle.status.specs.declared.Status.{Status}

-- ---- a list of one check
one_passes : (t : Bool) (n : ℕ) → T t → T (all_pass ((t, n) ∷ []))
unfolding all_pass all
one_passes t n u = →and t true u tt

-- ---- playing
module _ (g : Game) (m : Move) (r : Result Game MoveError) (h : Plays g m r) where
  abbrev p : Position
  p = position_of g

  not_refused : answer_number move_error_number r ≡ 0 → T (accepts p m.bits)
  not_refused e = nought_accepts p m.bits (sym h.number ∙ e)

  pub playing_holds : Playing g m r
  playing_holds = record {
    number = h.number ∙ sym (first_is_refusal p m.bits);
    refused = λ e. h.exact ∙ game_refused g m.bits (refused_not_accepts p m.bits (λ z. e (h.number ∙ z)));
    accepted = λ e. h.exact ∙ game_accepted g m.bits (not_refused e);
    accepted_means = λ e. h.position ∙ tried_accepted p m.bits (not_refused e);
  }

-- ---- searching
module _ (m : Minimax) (g : Game) (c : Config) (words : List ℕ) where
  abbrev G : Searched
  G = structs (scoring_of c)

  abbrev s : Memory
  s = fresh_memory (responses_of m.responses) words

  abbrev y : SearchAnswer
  y = answer_of m g c words

  abbrev entry : List (Bool × ℕ)
  entry = entry_checks console (settings_of c) (length words)

  abbrev enough : Bool
  enough = leb (depth_1_enters m g c words) c.allowance

  turned_holds : T (not (all_pass entry)) →
      Searching m g c words (refused_entry (first_failed entry) (responses_of m.responses) words)
  unfolding all
  turned_holds t = record {
    number = sym (failed_++ entry ((enough, 18) ∷ []) t);
    refused = λ _. record { depth = refl; score = refl; pv = refl; stats = refl };
    at_entry = λ _ _. record { count = refl; unmarked = tt; responses = refl; table = refl };
    in_depth_1 = λ e. absurd (subst (λ (n : ℕ). T (not (eqb n 18))) e (failed_number (λ k. not (eqb k 18)) entry tt t));
  }

  module _ (t : T (all_pass entry)) where
    some_depth : 1 ≤ c.max_depth
    unfolding all_pass all
    some_depth = let within = (and→ (leb 1 c.max_depth && leb c.max_depth console.deepest) _ t).0 in
        leb→le 1 _ (and→ (leb 1 c.max_depth) _ within).0

    last_decides : first_failed (searching m g c words) ≡ first_failed ((enough, 18) ∷ [])
    last_decides = passed_++ entry ((enough, 18) ∷ []) t

    abbrev spent : Bool
    spent = y.is_stopped && eqb y.completed.depth 0

    not_enough : spent ≡ ltb c.allowance (depth_1_enters m g c words)
    not_enough = none_whole_is G c.allowance c.max_depth g s (omega arith) some_depth

    searched_holds : Searching m g c words (report G g y)
    unfolding all_pass all when◌then◌else◌
    searched_holds = elim (is spent) [
      | inl u ↦ record {
        number = rw (is_true spent u) (sym (last_decides ∙ failed_at [] [] enough 18 tt (not_T enough (λ v.
            omega (arith, ltb→lt c.allowance _ (subst T not_enough u), leb→le _ c.allowance v)))));
        refused = λ _. silent u;
        at_entry = λ _ k. absurd (k (rw (is_true spent u)));
        in_depth_1 = λ _. record {
          count = none_whole_counted G c.allowance c.max_depth g s (omega arith) u;
          marked = none_whole_marked G c.allowance c.max_depth g s (omega arith) u;
          responses = refl;
          table = refl;
        };
      }
      | inr u ↦ record {
        number = rw (is_false spent u) (sym (last_decides ∙ all_pass_0 ((enough, 18) ∷ []) (one_passes enough 18
            (le→leb _ _ (nltb→le c.allowance _ (subst (λ (b : Bool). T (not b)) not_enough u))))));
        refused = λ h. absurd (h (rw (is_false spent u)));
        at_entry = λ h _. absurd (h (rw (is_false spent u)));
        in_depth_1 = λ h. absurd (omega (arith, rw (is_false spent u) at h));
      }
    ]
      where
        silent : T spent → NothingReported m g c words (report G g y)
        silent u = let w = none_whole_nothing G c.allowance c.max_depth g s (omega arith) u in record {
          depth = ap (λ (v : Completed). v.depth) w;
          score = ap (λ (v : Completed). v.score) w;
          pv = ap (λ (v : Completed). filled no_move v.pv) w;
          stats = ap (λ (v : Completed). filled no_stats v.stats) w;
        }

  pub reported_holds : Searching m g c words (reported_of m g c words)
  unfolding reported entry_refusal all
  reported_holds = if_ind (Searching m g c words) (eqb (first_failed entry) 0) _ _
      (λ t. searched_holds (0_all_pass entry tt (eqb→eq (first_failed entry) 0 t)))
      (λ t. turned_holds (some_failed entry (λ e. T_not (eqb (first_failed entry) 0) t (subst (λ (n : ℕ). T (eqb n 0)) (sym e) tt))))

  pub searching_holds : (r : Report) (words' : List ℕ) → report_of r words' ≡ reported_of m g c words →
      Searching m g c words (report_of r words')
  searching_holds r words' h = subst (Searching m g c words) (sym h) reported_holds

-- ---- the evaluation alone
pub evaluating_holds : (g : Game) (draws : Option Player) (w : Weights) (r : Result ℤ BadWeight) → Evaluates (scoring_with draws w) g r →
    Evaluating w r
unfolding evaluated accepted_weights first_failed when◌then◌else◌
evaluating_holds g draws w r h = by_test (accepted_weights w) refl
  where
    by_test : (b : Bool) → accepted_weights w ≡ b → Evaluating w r
    by_test true e = record { number = h.refusal ∙ rw e; refused = λ k. absurd (k (h.refusal ∙ rw e)) }
    by_test false e = record { number = h.refusal ∙ rw e; refused = λ _. h.value ∙ rw e }

-- ---- the endgame analysis
-- two sides' tests, and their failures
both_fail : (a b : Bool) → (not a && (not b && true)) ≡ not (a || b)
both_fail true b = refl
both_fail false true = refl
both_fail false false = refl

none_fails : (f g : ℕ → Bool) → ((n : ℕ) → f n ≡ not (g n)) → (ns : List ℕ) → all f ns ≡ not (any g ns)
unfolding all any
none_fails f g e [] = refl
none_fails f g e (n ∷ ns) = (λ i. e n i && none_fails f g e ns i) ∙ neither (g n) (any g ns)

board_fails : (o e x : Bool) → (not o || (e && not x)) ≡ not (o && (not e || x))
board_fails true true x = refl
board_fails true false x = refl
board_fails false e x = refl

module _ (g : Game) where
  abbrev here : Position
  here = position_of g

  broken_is : (b : ℕ) →
      (not (open_board here b) || (any (free_cell here b) nine && all (λ w. not (has_line (has here w b))) sides))
      ≡ not (broken_board g b)
  unfolding all
  broken_is b =
      let x = has_line (has here X b) in let o = has_line (has here O b) in
      (λ i. not (open_board here b) || (any (free_cell here b) nine && both_fail x o i))
      ∙ board_fails (open_board here b) (any (free_cell here b) nine) (x || o)

  unsound_is : not (sound here) ≡ unsound g
  unfolding sound all
  unsound_is =
      let x = line_of_boards g X in let o = line_of_boards g O in let broken = any (broken_board g) nine in
      (λ i. not (both_fail x o i && none_fails _ (broken_board g) broken_is nine i))
      ∙ ap not (neither (x || o) broken) ∙ not-not ((x || o) || broken) ∙ or_assoc x o broken

  analysing_is : analysis_checks here ≡ analysing g
  analysing_is i = (not (unfinished here && unsound_is i), 14) ∷ []

  -- the number of an analysis, and what it says where it is not 0
  record Analysed (x : Meant) : Type 0 where
    number : x.refusal ≡ first_failed (analysis_checks here)
    full : (x.refusal ≡ 0 → ⊥) → x.status ≡ unproven
    none_counted : (x.refusal ≡ 0 → ⊥) → x.stats ≡ no_counts

  analysed : Analysed (analysis here)
  unfolding analysis
  analysed = if_ind Analysed (unfinished here && sound here) _ _
      (λ t. record {
        number = sym (all_pass_0 (analysis_checks here) (passes t));
        full = λ h. absurd (h refl);
        none_counted = λ h. absurd (h refl);
      })
      (λ _. record { number = refl; full = λ _. refl; none_counted = λ _. refl })
    where
      passes : T (unfinished here && sound here) → T (all_pass (analysis_checks here))
      passes t = one_passes _ 14 (not_T (unfinished here && not (sound here)) (λ u.
          T_not (sound here) (and→ (unfinished here) _ u).1 (and→ (unfinished here) _ t).1))

  pub analysis_number_is : (analysis here).refusal ≡ first_failed (analysing g)
  analysis_number_is = analysed.number ∙ ap first_failed analysing_is

  pub analysing_holds : (a : Result Analysis Unsound) → Analyses g a → Analysing g a
  analysing_holds a h = record {
    number = h.refusal ∙ analysis_number_is;
    refused = λ e. record {
      full = h.status ∙ ap status_of (analysed.full (λ q. e (h.refusal ∙ q)));
      none_counted = h.stats ∙ analysed.none_counted (λ q. e (h.refusal ∙ q));
    };
    finished_number = λ t. h.refusal ∙ ap (λ (x : Meant). x.refusal) (analysis_finished here t);
    finished = λ t. let e = analysis_finished here t in record {
      full = h.status ∙ ap (λ (x : Meant). status_of x.status) e;
      none_counted = h.stats ∙ ap (λ (x : Meant). x.stats) e;
    };
  }

  -- a move's status
  module _ (m : Move) (r : Result Status MoveStatusError) (h : Judges g m r) where
    abbrev judging : List (Bool × ℕ)
    judging = judging_checks here m.bits

    judged_number : answer_number move_status_number r ≡ first_failed judging
    unfolding evaluate_move
    judged_number = h.number

    judged_full : T (not (all_pass judging)) → (evaluate_move here m.bits).status ≡ unproven
    unfolding evaluate_move
    judged_full t = if_ind (λ (s : Set). s ≡ unproven) (all_pass judging) _ _ (λ u. absurd (T_not (all_pass judging) t u)) (λ _. refl)

    pub judging_holds : JudgingMove g m r
    judging_holds = record {
      number = judged_number ∙ (λ i. first_failed (analysing_is i ++ checks here (board_of m.bits) (cell_of m.bits)));
      refused = λ e. h.status ∙ ap status_of (judged_full (some_failed judging (λ q. e (judged_number ∙ q))));
    }

-- ---- looking at a cell or a board, and building a move
-- what a refused call gives is the value for it
pub refused_value : {A E : Type 0} (number_of : E → ℕ) (x : A) (r : Result A E) → (answer_number number_of r ≡ 0 → ⊥) →
    result_unwrap_or r x ≡ x
refused_value number_of x (Ok y) h = absurd (h refl)
refused_value number_of x (Err e) h = refl

within_number : {A : Type 0} (t : Bool) (x : A) → answer_number move_error_number (within t x) ≡ first_failed ((t, 9) ∷ [])
unfolding within first_failed when◌then◌else◌
within_number true x = refl
within_number false x = refl

looked_number : {A : Type 0} (t : Bool) (x : A) (r : Result A MoveError) → r ≡ within t x →
    answer_number move_error_number r ≡ first_failed ((t, 9) ∷ [])
looked_number {A = A} t x r e = ap (λ (y : Result A MoveError). answer_number move_error_number y) e ∙ within_number t x

pub looking_cell_holds : (b c : ℕ) (x : CellState) (r : Result CellState MoveError) → r ≡ within (in_range b c) x → LookingCell b c r
looking_cell_holds b c x r e =
    record { number = looked_number (in_range b c) x r e; refused = refused_value move_error_number Empty r }

pub looking_board_holds : (b : ℕ) (x : GameState) (r : Result GameState MoveError) → r ≡ within (ltb b 9) x → LookingBoard b r
looking_board_holds b x r e =
    record { number = looked_number (ltb b 9) x r e; refused = refused_value move_error_number InPlay r }

built_is : (t : Bool) (m : Move) → IfOk (within t m) (λ x. x.bits ≡ m.bits)
unfolding within when◌then◌else◌
built_is true m = refl
built_is false m = tt

pub building_holds : (b c : ℕ) (r : Result Move MoveError) → r ≡ within (in_range b c) (record { bits = move_of b c }) → Building b c r
building_holds b c r e = record {
  number = looked_number (in_range b c) _ r e;
  refused = refused_value move_error_number _ r;
  accepted = subst (λ (y : Result Move MoveError). IfOk y (λ x. x.bits ≡ move_of b c)) (sym e) (built_is (in_range b c) _);
}
