-- What the program's search reports, depth after depth: no score leaves the root's window, and no count the allowance.
use mathlib.Core.Path.{◌≡◌, sym}
use mathlib.Core.List.{List, [], ◌∷◌, ◌++◌}
use mathlib.Core.Logic.{inl, inr}
use Prim.Native.Nat.{ℕ, zero, suc, ◌+◌, ◌^◌, ◌≤◌}
use native.Mathlib.Omega.{arith}
use lib.Dec.{leb, eqb→eq, leb→le}
use lib.IntN.{ℤ, nat_abs}
use lib.ListN.{length, length-append, length-replicate}
use lib.Signed.{◌≤ℤ◌}
use denote.Floats.{passes}
use Rattle.base.specs.Lists.{all, concat_map}
use Rattle.base.specs.Checks.{all_pass}
use Rattle.base.proofs.Bool.{is}
use Rattle.base.proofs.Checks.{all_pass_0, failed_number}
use Rattle.base.proofs.Branch.{if_ind}
use Rattle.base.proofs.Lists.{filter_short}
use Rattle.base.proofs.Integers.{hi, lo, zarith, hi_le, lo_le, within_abs}
use Rattle.rules.specs.Position.{Position}
use Rattle.rules.specs.Play.{no_move, accepts}
use Rattle.rules.specs.Moves.{places, moves}
use Rattle.rules.proofs.Evaluation.{defaults_accepted}
use Rattle.theory.specs.Limits.{console}
use Rattle.theory.specs.Game.{Game}
use Rattle.theory.specs.PlainMinimax.{lowest, highest}
use Rattle.theory.specs.Memory.{Responses, no_responses, Memory, begin, fresh_memory}
use Rattle.theory.specs.OrderedSearch.{at_most, Outcome, stopped, found}
use Rattle.theory.specs.Deepening.{Completed, nothing_yet, one_deeper, SearchAnswer, decided, on_outcome, deepen, analyze}
use Rattle.theory.specs.Reported.{Settings, entry_checks, entry_refusal, Reported, report, refused_entry, reported}
use Rattle.theory.proofs.OrderedSearch.{Gives}
use Rattle.theory.proofs.OrderedSearchRange.{search_range}
use Rattle.theory.proofs.OrderedSearchGrowth.{Ends, search_allowed}
use Rattle.theory.proofs.OrderedSearchPlaces.{analyze_places, analyze_no_deeper}
use Rattle.rules_game.specs.RulesGame.{game}
use Rattle.minimax.proofs.ReportRefusals.{limits}
use Rattle.minimax.proofs.StateMoves.{value_within}
use Rattle.program_line.specs.Answered.{settings, program_scoring, program_search}

-- ---- there are 81 moves at most
pub moves_short : (p : Position) → length (moves p) ≤ 81
unfolding moves places concat_map
moves_short p = filter_short (accepts p) places

-- ---- the score and the count
pub record Bounded (n : ℕ) (x : SearchAnswer) : Type 0 where
  pub low : lowest ≤ℤ x.completed.score
  pub high : x.completed.score ≤ℤ highest
  pub counted : x.memory.count ≤ n

on_outcome_both : (P : ℤ → Type 0) (M : Memory → Type 0) (Q : SearchAnswer → Type 0) (o : Outcome) (f : Memory → SearchAnswer)
    (g : ℤ → List ℕ → Memory → SearchAnswer) →
    Gives (λ r _ _. P r) o → Ends M o → ((s : Memory) → M s → Q (f s)) →
    ((r : ℤ) (line : List ℕ) (s : Memory) → P r → M s → Q (g r line s)) → Q (on_outcome o f g)
unfolding on_outcome Gives Ends
on_outcome_both P M Q (stopped s) f g h k i j = i s k
on_outcome_both P M Q (found r line s) f g h k i j = j r line s h k

module _ (G : Game) (values : (p : G.Pos) → (lowest ≤ℤ G.value p) × (G.value p ≤ℤ highest)) (n : ℕ) (p : G.Pos) where
  deepen_bounded : (k : ℕ) (w : Completed) (s : Memory) → lowest ≤ℤ w.score → w.score ≤ℤ highest → s.count ≤ n →
      Bounded n (deepen G (at_most n) k p w s)
  unfolding deepen begin hi lo
  deepen_bounded zero w s a b c = record { low = a; high = b; counted = c }
  deepen_bounded (suc k) w s a b c =
      on_outcome_both (λ r. (lowest ≤ℤ r) × (r ≤ℤ highest)) (λ z. z.count ≤ n) (Bounded n) _ _ _
      (search_range G values (at_most n) (suc w.depth) p lowest highest (w.pv ++ (no_move ∷ [])) no_move (begin s) (omega zarith)
      (omega zarith) (omega zarith) (omega zarith))
      (search_allowed G n (suc w.depth) p lowest highest (w.pv ++ (no_move ∷ [])) no_move (begin s) c)
      (λ _ e. record { low = a; high = b; counted = e })
      (λ r line s' h e. if_ind (Bounded n) (decided r) _ _ (λ _. record { low = h.0; high = h.1; counted = e })
      (λ _. deepen_bounded k (one_deeper w r line s'.tally) s' h.0 h.1 e))

  analyze_bounded : (limit : ℕ) (s : Memory) → s.count ≤ n → Bounded n (analyze G (at_most n) limit p s)
  unfolding analyze hi lo
  analyze_bounded limit s c = deepen_bounded limit nothing_yet s (omega zarith) (omega zarith) c

-- ---- what is reported
pub record Small (r : Reported) : Type 0 where
  pub number_small : r.number ≤ 20
  pub depth_small : r.depth ≤ console.deepest
  pub score_small : nat_abs r.score ≤ 2 ^ 60 + 1
  pub count_small : r.count ≤ 1000000
  pub line_long : length r.pv ≡ console.deepest

entry_small : (c : Settings) (words : ℕ) → entry_refusal c words ≤ 20
unfolding entry_refusal all
entry_small c words = let checks = entry_checks console c words in elim (is (all_pass checks)) [
  | inl t ↦ omega (arith, all_pass_0 checks t)
  | inr t ↦ leb→le _ 20 (failed_number (λ n. leb n 20) checks tt t)
]

report_small : (G : Game) (p : G.Pos) (x : SearchAnswer) → Bounded 1000000 x → x.completed.depth ≤ console.deepest →
    length x.completed.pv ≡ x.completed.depth → Small (report G p x)
report_small G p x b d e = record {
  number_small = if_ind (λ (n : ℕ). n ≤ 20) _ _ _ (λ _. omega arith) (λ _. omega arith);
  depth_small = d;
  score_small =
      within_abs (2 ^ 60 + 1) x.completed.score (hi_le x.completed.score _ b.high, lo_le x.completed.score _ b.low);
  count_small = b.counted;
  line_long = simp (length-append, length-replicate) (omega arith);
}

refused_small : (n : ℕ) (rs : Responses) (words : List ℕ) → n ≤ 20 → Small (refused_entry n rs words)
refused_small n rs words h =
    record {
      number_small = h;
      depth_small = omega arith;
      score_small = omega arith;
      count_small = omega arith;
      line_long = length-replicate console.deepest no_move;
    }

pub searched_small : (depth : ℕ) (p : Position) → Small (program_search depth p)
unfolding reported
searched_small depth p =
    if_ind Small _ _ _
    (λ t. let l = limits (settings depth) 0 (sym (eqb→eq _ 0 t)) in
    let s = fresh_memory no_responses [] in
    let limit = (settings depth).max_depth in
    let sc = program_scoring in
    report_small (game sc) p (analyze (game sc) (at_most 1000000) limit p s)
    (analyze_bounded (game sc) (value_within sc (passes _ defaults_accepted)) 1000000 p limit s (omega arith))
    (omega (arith, analyze_no_deeper (game sc) (at_most 1000000) limit p s))
    (analyze_places (game sc) (at_most 1000000) limit p s))
    (λ _. refused_small _ no_responses [] (entry_small (settings depth) 0))
