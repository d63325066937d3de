-- What is reported of the completed depths, and how the search ended.
use mathlib.Core.Path.{◌≡◌, refl, sym, ap, ◌∙◌}
use mathlib.Core.Bool.{Bool, true, false, ◌&&◌}
use mathlib.Core.List.{List, [], ◌∷◌, ◌++◌, map}
use Prim.Native.Nat.{ℕ, zero, suc, ◌+◌, ◌-◌, ◌≤◌, ◌<◌}
use native.Mathlib.Omega.{arith}
use lib.Dec.{eqb}
use lib.IntN.{ℤ}
use lib.ListN.{length, set, take, drop, replicate, length-map}
use lib.Signed.{le_z}
use Rattle.std.proofs.lemmas.List.{map-set, take_more_set, drop-set-lt, drop-map, length-take-le, take-append-drop}
use Rattle.base.specs.Branch.{when◌then◌else◌}
use Rattle.rules.specs.Play.{no_move}
use Rattle.rules.specs.Evaluation.{Scoring, won, lost}
use Rattle.theory.specs.Deepening.{Stats as Meant, one_deeper, decided}
use Rattle.theory.specs.Reported.{no_stats, filled, report}
use Rattle.minimax.specs.declared.Stats.{Stats}
use Rattle.minimax.specs.declared.Ending.{Ending}
use Rattle.minimax.specs.declared.Ending.TheVariants.{Whole as EndsWhole, Stopped, Refused}
use Rattle.minimax.specs.declared.SearchError.TheVariants.{Spent}
use Rattle.minimax.specs.declared.CompletedDepths.{CompletedDepths}
use Rattle.minimax.specs.declared.search.SearchState.{SearchState}
use Rattle.minimax.specs.declared.search.Pv.{Pv}
use Rattle.game.specs.declared.Game.{Game}
use Rattle.minimax.specs.Structs.{structs}
use Rattle.minimax.specs.State.{memory_of, pv_of}
use Rattle.minimax.specs.Completed.{completed_of}
use Rattle.minimax.specs.Report.{tally_of, stats_of, ending_number, ending_stopped, report_of, byte_of, bytes_of, responses_of}
use Rattle.minimax.proofs.ReportPlaces.{drop_next, rest_next}

-- ---- how it ended
module _ (d : ℕ) (stopped : Bool) where
  abbrev Ends : Ending → Type 0
  Ends r = (ending_number r ≡ (when stopped && eqb d 0 then (λ _. 18) else λ _. 0)) × (ending_stopped r ≡ stopped)

  pub ends_whole : stopped ≡ false → Ends EndsWhole
  unfolding when◌then◌else◌
  ends_whole e = rw e (refl, refl)

  pub ends_spent : stopped ≡ true → eqb d 0 ≡ true → Ends (Refused Spent)
  unfolding when◌then◌else◌
  ends_spent e f = rw (e, f) (refl, refl)

  pub ends_stopped : stopped ≡ true → eqb d 0 ≡ false → Ends Stopped
  unfolding when◌then◌else◌
  ends_stopped e f = rw (e, f) (refl, refl)

-- ---- whether the score ends the search
pub ends_lost : (z : ℤ) → le_z z lost ≡ true → true ≡ decided z
ends_lost z e = rw e

pub ends_won : (z : ℤ) → le_z z lost ≡ false → le_z won z ≡ decided z
ends_won z e = rw e

-- ---- one depth more
module _ (d : CompletedDepths) (fits : d.depth < 81) where
  one : d.depth + 1 ≡ suc d.depth
  one = omega arith

  later : {A : Type 0} (xs : List A) (y : A) → drop d.depth xs ≡ replicate (81 - d.depth) y →
      drop (d.depth + 1) xs ≡ replicate (81 - (d.depth + 1)) y
  later {A} xs y e = ap (λ (n : ℕ). drop n xs) one ∙ drop_next d.depth xs _ y (e ∙ rest_next d.depth y fits)

  pub deeper_pv_empty : (pv : Pv) → drop (d.depth + 1) pv.moves ≡ drop (d.depth + 1) d.pv.moves →
      drop (d.depth + 1) pv.moves ≡ replicate (81 - (d.depth + 1)) (record { bits = no_move })
  deeper_pv_empty pv kept = kept ∙ later d.pv.moves _ d.pv_empty

  pub deeper_stats_empty : (x : Stats) → drop (d.depth + 1) (map stats_of (set d.stats d.depth x)) ≡
      replicate (81 - (d.depth + 1)) no_stats
  deeper_stats_empty x =
      ap (drop (d.depth + 1)) (map-set stats_of d.stats d.depth x)
      ∙ drop-set-lt (d.depth + 1) (map stats_of d.stats) d.depth (stats_of x) (omega arith)
      ∙ later (map stats_of d.stats) _ d.stats_empty

  pub deeper_whole : (score z : ℤ) → z ≡ score → (pv : Pv) (s : SearchState) (x : Stats) → length d.stats ≡ 81 →
      stats_of x ≡ record { depth = d.depth + 1; score = score; tally = tally_of s.stats } → record {
        depth = d.depth + 1;
        score = z;
        pv = pv_of pv (d.depth + 1);
        stats = take (d.depth + 1) (map stats_of (set d.stats d.depth x));
      } ≡ one_deeper (completed_of d) score (pv_of pv (d.depth + 1)) (tally_of s.stats)
  deeper_whole score z e pv s x long x_is = λ i. record {
    depth = one i;
    score = e i;
    pv = pv_of pv (d.depth + 1);
    stats = stats_is i;
  }
    where
      stats_is : take (d.depth + 1) (map stats_of (set d.stats d.depth x)) ≡ take d.depth (map stats_of d.stats) ++
          (record { depth = suc d.depth; score = score; tally = tally_of s.stats } ∷ [])
      stats_is =
          ap (take (d.depth + 1)) (map-set stats_of d.stats d.depth x)
          ∙ take_more_set (map stats_of d.stats) d.depth (stats_of x) (rw length-map (omega arith))
          ∙ ap (λ (y : Meant). take d.depth (map stats_of d.stats) ++ (y ∷ []))
          (x_is ∙ ap (λ (n : ℕ). record { depth = n; score = score; tally = tally_of s.stats }) one)

-- ---- the report
-- 81 places that are empty from d on
fills : {A : Type 0} (d : ℕ) (xs : List A) (y : A) → length xs ≡ 81 → d ≤ 81 → drop d xs ≡ replicate (81 - d) y →
    xs ≡ filled y (take d xs)
fills {A} d xs y n h e =
    sym (take-append-drop d xs) ∙ ap (λ (l : List A). take d xs ++ l) (e ∙ ap (λ (k : ℕ). replicate (81 - k) y)
    (sym (length-take-le d xs (omega arith))))

pub bytes_empty : (n : ℕ) → bytes_of (replicate n (record { bits = no_move })) ≡ replicate n no_move
bytes_empty zero = refl
bytes_empty (suc n) = ap (◌∷◌ no_move) (bytes_empty n)

module _ (d : CompletedDepths) (s : SearchState) (stopped : Bool) (long : length d.pv.moves ≡ 81)
    (stats_long : length d.stats ≡ 81)
    (ending : Ending) (ended : (ending_number ending ≡ (when stopped && eqb d.depth 0 then (λ _. 18) else λ _. 0)) ×
    (ending_stopped ending ≡ stopped)) where
  -- of any search, since only its answer is looked at
  pub report_made : (z : ℤ) → z ≡ d.score → (sc : Scoring) (game : Game) (words : List ℕ)
      → report_of (record {
        state = record { responses = s.responses };
        ending = ending;
        depth = d.depth;
        score = z;
        count = s.count;
        pv = d.pv.moves;
        stats = d.stats;
      }) words
      ≡ report (structs sc) game (record { is_stopped = stopped; completed = completed_of d; memory = memory_of s words })
  report_made z e sc game words = λ i. record {
    number = ended.0 i;
    is_stopped = ended.1 i;
    depth = d.depth;
    score = e i;
    pv = line_is i;
    stats = stats_is i;
    count = s.count;
    responses = responses_of (s.responses);
    table = words;
  }
    where
      line_is : bytes_of d.pv.moves ≡ filled no_move (pv_of d.pv d.depth)
      line_is =
          fills d.depth (bytes_of d.pv.moves) no_move (length-map d.pv.moves byte_of ∙ long) d.at_most
          (drop-map byte_of d.depth d.pv.moves ∙ ap bytes_of d.pv_empty ∙ bytes_empty (81 - d.depth))

      stats_is : map stats_of d.stats ≡ filled no_stats (take d.depth (map stats_of d.stats))
      stats_is =
          fills d.depth (map stats_of d.stats) no_stats (length-map d.stats stats_of ∙ stats_long) d.at_most
          d.stats_empty
