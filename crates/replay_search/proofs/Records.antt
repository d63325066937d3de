-- The numbers of a search, compared one after the other.
use mathlib.Core.Path.{◌≡◌, refl, sym, ap, ◌∙◌}
use mathlib.Core.Bool.{Bool, true, false}
use mathlib.Core.List.{List, [], ◌∷◌, ◌++◌, map}
use Prim.Native.Nat.{ℕ, zero, suc, ◌+◌, ◌<◌}
use native.Mathlib.Omega.{arith}
use lib.ListN.{length, take}
use Rattle.base.specs.Branch.{when◌then◌else◌}
use Rattle.theory.specs.Deepening.{Stats as Meant}
use Rattle.theory.specs.Reported.{Reported}
use Rattle.minimax.specs.declared.Stats.{Stats}
use Rattle.minimax.specs.declared.SearchError.{SearchError}
use Rattle.minimax.specs.declared.SearchError.TheVariants.{Depth, Allowance, Words, Weights, Spent}
use Rattle.boards.specs.declared.moves.Move.{Move}
use Rattle.minimax.specs.Report.{search_error_number, is_spent, byte_of, bytes_of, stats_of}
use Rattle.std.specs.Prelude.{Option, Some}
use Rattle.replay.specs.Agreement.{same_numbers, compared, compared_all, wholly_agrees}
use Rattle.replay.proofs.AgreementCompared.{compared_append, compared_is_same}
use Rattle.replay_search.specs.Records.{ending, head_numbers, depth_numbers, depths_numbers, search_numbers}

-- ---- endings: a refusal is its number
pub whole_ending : 0 ≡ ending 0 false
unfolding ending when◌then◌else◌
whole_ending = refl

pub stopped_ending : 1 ≡ ending 0 true
unfolding ending when◌then◌else◌
stopped_ending = refl

pub refusal_number : (why : SearchError) → search_error_number why ≡ ending (search_error_number why) (is_spent why)
unfolding ending when◌then◌else◌
refusal_number Depth = refl
refusal_number Allowance = refl
refusal_number Words = refl
refusal_number Weights = refl
refusal_number Spent = refl

-- ---- of a list as long as the depth, the next one
module _ {A B : Type 0} (f : A → B) where
  taken_first : (xs rest : List A) (x : A) (n k : ℕ) → xs ≡ x ∷ rest → k + 1 ≡ n → take n (map f xs) ≡ f x ∷ take k (map f rest)
  taken_first xs rest x n k e s = let t : n ≡ suc k = omega (arith, s) in rw (t, e)

  none_taken : (xs : List A) (n : ℕ) → (0 < n → length xs ≡ 0) → take n (map f xs) ≡ []
  none_taken xs zero h = refl
  none_taken [] (suc n) h = refl
  none_taken (x ∷ xs) (suc n) h = let z : suc (length xs) ≡ 0 = h (omega arith) in absurd (omega arith)

module _ (a : Option (List ℕ)) where
  pub line_goes_on : (ms rest : List Move) (m : Move) (n k b : ℕ) (r : Option (List ℕ)) → ms ≡ m ∷ rest → k + 1 ≡ n → b ≡ m.bits →
      r ≡ compared a b → compared_all r (take k (bytes_of rest)) ≡ compared_all a (take n (bytes_of ms))
  line_goes_on ms rest m n k b r e s q f = rw (f, q) (sym (ap (compared_all a) (taken_first byte_of ms rest m n k e s)))

  pub line_ends : (ms : List Move) (n : ℕ) → (0 < n → length ms ≡ 0) → compared_all a (take n (bytes_of ms)) ≡ a
  line_ends ms n h = ap (compared_all a) (none_taken byte_of ms n h)

  pub stats_go_on : (ss rest : List Stats) (s : Stats) (n k : ℕ) (ns : List ℕ) (r : Option (List ℕ)) → ss ≡ s ∷ rest → k + 1 ≡ n →
      ns ≡ depth_numbers (stats_of s) → r ≡ compared_all a ns →
      compared_all r (depths_numbers (take k (map stats_of rest))) ≡ compared_all a (depths_numbers (take n (map stats_of ss)))
  unfolding depths_numbers
  stats_go_on ss rest s n k ns r e t q f =
      let others = depths_numbers (take k (map stats_of rest)) in
      rw (f, q) (sym (compared_append a (depth_numbers (stats_of s)) others))
      ∙ sym (ap (λ (xs : List Meant). compared_all a (depths_numbers xs)) (taken_first stats_of ss rest s n k e t))

  pub stats_end : (ss : List Stats) (n : ℕ) → (0 < n → length ss ≡ 0) → compared_all a (depths_numbers (take n (map stats_of ss))) ≡ a
  unfolding depths_numbers
  stats_end ss n h = ap (λ (xs : List Meant). compared_all a (depths_numbers xs)) (none_taken stats_of ss n h)

-- ---- a whole search
pub whole_agrees : (ns : List ℕ) (r : Reported) (head : List ℕ) (a b c : Option (List ℕ)) (t : Bool) →
    head ≡ head_numbers r → a ≡ compared_all (Some ns) head → b ≡ compared_all a (take r.depth r.pv) →
    c ≡ compared_all b (depths_numbers (take r.depth r.stats)) → t ≡ wholly_agrees c →
    t ≡ same_numbers ns (search_numbers r)
unfolding search_numbers
whole_agrees ns r head a b c t e ea eb ec et =
    let pv = take r.depth r.pv in
    let stats = depths_numbers (take r.depth r.stats) in
    let first = ea ∙ ap (compared_all (Some ns)) e in
    let second : b ≡ compared_all (Some ns) (head_numbers r ++ pv) = eb ∙ ap (λ (q : Option (List ℕ)). compared_all q pv) first
    ∙ sym (compared_append (Some ns) (head_numbers r) pv) in
    let third : c ≡ compared_all (Some ns) ((head_numbers r ++ pv) ++ stats) = ec
    ∙ ap (λ (q : Option (List ℕ)). compared_all q stats) second ∙ sym (compared_append (Some ns) (head_numbers r ++ pv) stats) in
    et ∙ ap (wholly_agrees) third ∙ compared_is_same ns ((head_numbers r ++ pv) ++ stats)
