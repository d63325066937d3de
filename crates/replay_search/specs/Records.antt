-- What a record says of a search, number by number, as its report has it.
use Rattle.std.specs.Prelude.{Bool, ◌&&◌, List, [], ◌∷◌, ◌++◌, ℕ, eqb, ℤ, pos, negsuc, nat_abs, take}
use Rattle.base.specs.Branch.{when◌then◌else◌}
use Rattle.theory.specs.Deepening.{Stats}
use Rattle.theory.specs.Reported.{Reported}
use Rattle.replay_search.specs.Digests.{responses_digest, response_count, table_digest, entry_count}

-- of a score: 1 below 0, else 0
abbrev pub sign : ℤ → ℕ
sign (pos n) = 0
sign (negsuc n) = 1

-- 15 to 18 for a refusal, 1 where the allowance stopped the search, 0 for a whole one
unfoldable pub ending : ℕ → Bool → ℕ
ending number is_stopped = when eqb number 0 && is_stopped then (λ _. 1) else λ _. number

abbrev pub head_numbers : Reported → List ℕ
head_numbers r =
    ending r.number r.is_stopped ∷ r.count ∷ r.depth ∷ sign r.score ∷ nat_abs r.score ∷
    responses_digest r.responses ∷ response_count r.responses ∷ table_digest r.table ∷ entry_count r.table ∷ []

-- of a completed depth
abbrev pub depth_numbers : Stats → List ℕ
depth_numbers s =
    let t = s.tally in
    s.depth ∷ sign s.score ∷ nat_abs s.score ∷ t.visited ∷ t.terminal ∷ t.cuts ∷ t.tt_hit ∷ t.tt_suffice ∷ []

unfoldable pub depths_numbers : List Stats → List ℕ
depths_numbers [] = []
depths_numbers (s ∷ ss) = depth_numbers s ++ depths_numbers ss

-- the variation and the stats have as many places as the completed depth says
unfoldable pub search_numbers : Reported → List ℕ
search_numbers r = (head_numbers r ++ take r.depth r.pv) ++ depths_numbers (take r.depth r.stats)
