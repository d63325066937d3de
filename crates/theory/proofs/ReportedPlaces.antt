-- A report has the places of the deepest search, whatever was asked: 81 moves and 81 stats, for every game.
use mathlib.Core.Path.{◌≡◌, refl}
use mathlib.Core.List.{List}
use Prim.Native.Nat.{ℕ, ◌≤◌}
use native.Mathlib.Omega.{arith}
use lib.Dec.{T, eqb, leb, leb→le}
use lib.ListN.{length, length-append, length-replicate}
use Rattle.base.specs.Checks.{first_failed}
use Rattle.base.proofs.Bool.{and→}
use Rattle.base.proofs.Branch.{if_ind}
use Rattle.rules.specs.Play.{no_move}
use Rattle.theory.specs.Limits.{console}
use Rattle.theory.specs.Game.{Game}
use Rattle.theory.specs.Memory.{Responses, Memory, fresh_memory}
use Rattle.theory.specs.OrderedSearch.{Allowance, at_most}
use Rattle.theory.specs.Deepening.{Completed, analyze}
use Rattle.theory.specs.Reported.{Settings, entry_refusal, Reported, no_stats, filled, reported}
use Rattle.theory.proofs.OrderedSearchPlaces.{analyze_places, analyze_no_deeper}
use Rattle.theory.proofs.DeepeningStats.{analyze_adds_up}

filled_places : {A : Type 0} (x : A) (xs : List A) → length xs ≤ console.deepest → length (filled x xs) ≡ console.deepest
filled_places x xs h = simp (length-append, length-replicate) (omega arith)

accepted_depth : (c : Settings) (words : ℕ) → T (eqb (entry_refusal c words) 0) → c.max_depth ≤ console.deepest
unfolding entry_refusal first_failed
accepted_depth c words = if_ind (λ (n : ℕ). T (eqb n 0) → c.max_depth ≤ console.deepest) _ _ _
    (λ t _. leb→le c.max_depth console.deepest (and→ (leb 1 c.max_depth) _ t).1)
    (λ _ e. absurd e)

module _ (G : Game) (c : Settings) (p : G.Pos) (rs : Responses) (words : List ℕ) where
  abbrev n : Allowance
  n = at_most c.allowance

  abbrev s : Memory
  s = fresh_memory rs words

  abbrev w : Completed
  w = (analyze G n c.max_depth p s).completed

  deep : T (eqb (entry_refusal c (length words)) 0) → w.depth ≤ console.deepest
  deep t = omega (arith, analyze_no_deeper G n c.max_depth p s, accepted_depth c (length words) t)

  pub reported_places : (length (reported G c p rs words).pv ≡ console.deepest) ×
      (length (reported G c p rs words).stats ≡ console.deepest)
  unfolding reported
  reported_places =
      if_ind (λ (x : Reported). (length x.pv ≡ console.deepest) × (length x.stats ≡ console.deepest)) _ _ _
      (λ t. (
        filled_places no_move w.pv (omega (arith, deep t, analyze_places G n c.max_depth p s)),
        filled_places no_stats w.stats (omega (arith, deep t, (analyze_adds_up G n p c.max_depth s refl).in_order.each)),
      ))
      (λ _. (length-replicate console.deepest no_move, length-replicate console.deepest no_stats))
