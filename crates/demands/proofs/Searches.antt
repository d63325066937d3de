-- A report is one of the definition's answers: the allowance's law, the stats added up, and the one depth where no move is legal.
use mathlib.Core.Path.{◌≡◌, refl, sym, ap, ◌∙◌, subst}
use mathlib.Core.Bool.{Bool, true, false, not}
use mathlib.Core.List.{List, []}
use Prim.Native.Nat.{ℕ, ◌-◌, ◌≤◌}
use native.Mathlib.Omega.{arith}
use lib.Dec.{T, eqb, leb, leb→le}
use lib.ListN.{length, get_or-append}
use borrow.Author.Tests.{eqb-true, eqb-false}
use Rattle.base.specs.Branch.{when◌then◌else◌}
use Rattle.base.specs.Lists.{In}
use Rattle.base.specs.Checks.{first_failed}
use Rattle.base.proofs.Bool.{and→}
use Rattle.base.proofs.Branch.{if_ind}
use Rattle.rules.specs.Position.{Position, unfinished}
use Rattle.rules.specs.Play.{no_move, accepts}
use Rattle.rules.specs.Moves.{moves}
use Rattle.rules.proofs.Moves.{moves_are_accepted}
use Rattle.theory.specs.Limits.{console}
use Rattle.theory.specs.Game.{Game as Searched}
use Rattle.theory.specs.Memory.{Responses, Memory, fresh_memory}
use Rattle.theory.specs.OrderedSearch.{at_most}
use Rattle.theory.specs.Deepening.{Stats, Completed, SearchAnswer}
use Rattle.theory.specs.Reported.{Settings, entry_refusal, Reported, no_stats, filled, report, refused_entry}
use Rattle.theory.proofs.Allowance.{allowance_limits, mark_means_spent}
use Rattle.theory.proofs.DeepeningStats.{StatsAddUp, analyze_adds_up, filled_after, none_visited, filled_visited}
use Rattle.theory.proofs.DeepeningNoMove.{no_move_answer, no_move_counts, no_move_is_lowest}
use Rattle.game.specs.declared.Game.{Game}
use Rattle.game.specs.Meaning.{position_of}
use Rattle.minimax.specs.declared.Minimax.{Minimax}
use Rattle.minimax.specs.declared.Config.{Config}
use Rattle.minimax.specs.declared.Report.{Report}
use Rattle.minimax.specs.Structs.{structs}
use Rattle.minimax.specs.Report.{responses_of, scoring_of, settings_of, answer_of, report_of, reported_of}
use Rattle.minimax.proofs.ReportRefusals.{some_depth, accepted_reported, turned_reported}
use Rattle.demands.specs.Searches.{StatsByDepth, StoppedReport, NoLegalMove, LowerEdge, SearchClaims}

-- ---- the stats
module _ (G : Searched) (p : G.Pos) (y : SearchAnswer) (h : StatsAddUp y) where
  abbrev stats : List Stats
  stats = y.completed.stats

  abbrev empty : ℕ
  empty = console.deepest - length stats

  stats_reported : StatsByDepth (report G p y)
  stats_reported = record {
    each_depth = λ i k. ap (λ (z : Stats). z.depth) (get_or-append stats _ no_stats i (omega (arith, k, h.in_order.each)))
        ∙ h.in_order.each_depth i k;
    none_after = λ i k. filled_after stats empty i (omega (arith, k, h.in_order.each));
    last_score = λ i e. ap (λ (z : Stats). z.score) (get_or-append stats _ no_stats i (omega (arith, e, h.in_order.each)))
        ∙ h.in_order.last_score i e;
    all_visited = λ t. filled_visited stats empty ∙ h.all_visited t;
  }

stats_refused : (n : ℕ) (rs : Responses) (words : List ℕ) → StatsByDepth (refused_entry n rs words)
stats_refused n rs words = record {
  each_depth = λ i k. absurd (omega (arith, k));
  none_after = λ i k. filled_after [] console.deepest i (omega arith);
  last_score = λ i e. absurd (omega (arith, e));
  all_visited = λ t. none_visited console.deepest;
}

-- ---- no move
none_accepted : (p : Position) → moves p ≡ [] → (m : ℕ) → T (accepts p m) → ⊥
none_accepted p e m t = subst (λ (ms : List ℕ). In m ms) e ((moves_are_accepted p m).1 t)

some_allowance : (c : Settings) (words : ℕ) → 0 ≡ entry_refusal c words → 1 ≤ c.allowance
unfolding entry_refusal first_failed
some_allowance c words = if_ind (λ (n : ℕ). 0 ≡ n → 1 ≤ c.allowance) _ _ _
    (λ _. if_ind (λ (n : ℕ). 0 ≡ n → 1 ≤ c.allowance) _ _ _
    (λ u _. leb→le 1 c.allowance (and→ (leb 1 c.allowance) _ u).0)
    (λ _ e. absurd (omega arith)))
    (λ _ e. absurd (omega arith))

not_over : (b : Bool) → T b → not b ≡ false
not_over true t = refl
not_over false t = absurd t

module _ (m : Minimax) (g : Game) (c : Config) (words : List ℕ) where
  abbrev G : Searched
  G = structs (scoring_of c)

  abbrev rs : Responses
  rs = responses_of m.responses

  abbrev s : Memory
  s = fresh_memory rs words

  abbrev y : SearchAnswer
  y = answer_of m g c words

  abbrev refusal : ℕ
  refusal = entry_refusal (settings_of c) (length words)

  -- ---- stopped
  stopped_report : T y.is_stopped → StoppedReport m g c words (report G g y)
  stopped_report t =
      let spent = mark_means_spent G c.allowance c.max_depth g s (omega arith) t in
      let z = (allowance_limits G c.allowance c.max_depth g s (omega arith)).spent spent in
      record {
        count = z.counted;
        shallower = z.shallower;
        score = ap (λ (w : Completed). w.score) z.whole_is;
        pv = ap (λ (w : Completed). filled no_move w.pv) z.whole_is;
        stats = ap (λ (w : Completed). filled no_stats w.stats) z.whole_is;
        fits = z.fits;
        next_too_many = z.next_too_many;
      }

  -- ---- the lower edge
  edge_holds : LowerEdge m g c words (report G g (no_move_answer G c.allowance g s))
  unfolding when◌then◌else◌
  edge_holds = record {
    number = refl;
    not_stopped = tt;
    depth = refl;
    score = refl;
    pv = refl;
    count = no_move_counts G c.allowance g s;
  }

  edge : NoLegalMove m g c words → y ≡ no_move_answer G c.allowance g s
  edge h = no_move_is_lowest G c.allowance g s (not_over (unfinished (position_of g)) h.goes_on)
      (none_accepted (position_of g) h.none_listed) h.no_entry
      (some_allowance (settings_of c) (length words) (sym h.accepted))
      c.max_depth (some_depth (settings_of c) (length words) (sym h.accepted))

  -- ---- accepted, or refused
  record Holds (x : Reported) : Type 0 where
    stats_by_depth : StatsByDepth x
    stopped : T x.is_stopped → StoppedReport m g c words x
    lower_edge : NoLegalMove m g c words → LowerEdge m g c words x

  searched : Holds (report G g y)
  searched = record {
    stats_by_depth = stats_reported G g y (analyze_adds_up G (at_most c.allowance) g c.max_depth s refl);
    stopped = stopped_report;
    lower_edge = λ h. subst (λ (z : SearchAnswer). LowerEdge m g c words (report G g z)) (sym (edge h)) edge_holds;
  }

  refused : (n : ℕ) → n ≡ refusal → (n ≡ 0 → ⊥) → Holds (refused_entry n rs words)
  refused n e k = record {
    stats_by_depth = stats_refused n rs words;
    stopped = λ t. absurd t;
    lower_edge = λ h. absurd (k (e ∙ h.accepted));
  }

  by_entry : (b : Bool) → eqb refusal 0 ≡ b → Holds (reported_of m g c words)
  by_entry true q = subst Holds (accepted_reported G (settings_of c) g rs words (sym (eqb-true refusal 0 q))) searched
  by_entry false q = subst Holds (sym (turned_reported G (settings_of c) g rs words q)) (refused refusal refl (eqb-false refusal 0 q))

  pub search_claims : (r : Report) (words' : List ℕ) → report_of r words' ≡ reported_of m g c words →
      SearchClaims m g c words r words'
  search_claims r words' e = let h = subst Holds (sym e) (by_entry (eqb refusal 0) refl) in record {
    report_is = e;
    stats_by_depth = h.stats_by_depth;
    stopped = h.stopped;
    lower_edge = h.lower_edge;
  }
