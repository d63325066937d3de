-- A line agrees only where its fields are read, and the numbers of each search are those that the definitions report of it.
use Rattle.std.specs.Prelude.{Option, None, Some}
use mathlib.Core.Path.{◌≡◌, refl, sym, ap, ◌∙◌}
use mathlib.Core.Bool.{Bool, true, false}
use mathlib.Core.List.{List}
use Rattle.std.proofs.lemmas.Option.{none-some}
use Prim.Native.Nat.{ℕ, zero, suc, ◌+◌, ◌-◌, ◌*◌, ◌/◌, ◌%◌, ◌≤◌}
use native.Mathlib.Omega.{arith}
use lib.Dec.{T, eqb, leb, eqb→eq, leb→le}
use lib.ListN.{replicate}
use Rattle.rules.specs.declared.Player.{Player}
use Rattle.base.specs.Branch.{when◌then◌else◌}
use Rattle.base.proofs.Bool.{and→}
use Rattle.rules.specs.Position.{Position}
use Rattle.theory.specs.Memory.{Responses}
use Rattle.theory.specs.Reported.{Reported}
use Rattle.text.specs.Reading.{Reading, reads, refuses, read}
use Rattle.decimals.specs.Numbers.{read_number}
use Rattle.decimals.specs.Lists.{list_of}
use Rattle.replay.specs.declared.totals.Comparison.{Comparison}
use Rattle.replay.specs.declared.totals.Comparison.TheVariants.{Agrees, Differs}
use Rattle.replay.specs.Fields.{field, tabs}
use Rattle.replay.specs.Draws.{draw_of}
use Rattle.replay.specs.Agreement.{same_numbers}
use Rattle.replay.proofs.AgreementCompared.{same_numbers_equal}
use Rattle.replay.proofs.TotalsComparison.{test_passed}
use Rattle.replay_search.specs.Records.{search_numbers}
use Rattle.replay_search.specs.Chains.{most_numbers, start_of, matching, matching_search, record_search, search_of}
use Rattle.replay_search.specs.Chains.{going_on, chain_of, for_number, for_draw, for_start, run_of, has_searches, outcome_of}

-- ---- one search
matched : (ns : List ℕ) (r s : Reported) → matching ns r ≡ Some s → (ns ≡ search_numbers r) × (r ≡ s)
unfolding matching when◌then◌else◌
matched ns r s e = go (same_numbers ns (search_numbers r)) refl e
  where
    go : (b : Bool) → same_numbers ns (search_numbers r) ≡ b → (when b then (λ _. Some r) else λ _. None) ≡ Some s →
        (ns ≡ search_numbers r) × (r ≡ s)
    go true t e = (same_numbers_equal ns (search_numbers r) (rw t tt), cc)
    go false t e = absurd (none-some s e)

search_matched : (reading : Reading) (d : Option ℕ) (o : Option (List ℕ)) (search : Position → ℕ → Reported) (s : Reported) →
    matching_search reading d o search ≡ Some s →
    (p : Position) × (depth : ℕ) × (reading ≡ reads p) × (d ≡ Some depth) × (o ≡ Some (search_numbers (search p depth)))
    × (search p depth ≡ s)
search_matched (refuses n offset size) d o search s e = absurd (none-some s e)
search_matched (reads p) None o search s e = absurd (none-some s e)
search_matched (reads p) (Some depth) None search s e = absurd (none-some s e)
search_matched (reads p) (Some depth) (Some ns) search s e =
    let m = matched ns (search p depth) s e in (p, depth, refl, refl, ap Some m.0, m.1)

module _ (line : List ℕ) (w : Option Player) (allowance : ℕ) where
  -- search k, from the memory before it: its position and depth are read, and its numbers are those of what is reported
  pub record SearchAgreed (k : ℕ) (rs : Responses) (words : List ℕ) (found : Reported) : Type 0 where
    pub position : Position
    pub depth : ℕ
    pub position_is : read (field (3 * k + 4) line) ≡ reads position
    pub depth_is : read_number (field (3 * k + 5) line) ≡ Some depth
    pub found_is : found ≡ record_search w allowance rs words position depth
    pub numbers_are : list_of most_numbers (field (3 * k + 6) line) ≡ Some (search_numbers found)

  -- n searches from search k on, each from the memory that the one before left
  abbrev pub SearchesAgreed : ℕ → ℕ → Responses → List ℕ → Type 0
  SearchesAgreed zero k rs words = Unit {0}
  SearchesAgreed (suc n) k rs words =
      (found : Reported) × SearchAgreed k rs words found × SearchesAgreed n (k + 1) found.responses found.table

  search_agreed : (k : ℕ) (rs : Responses) (words : List ℕ) (found : Reported) → search_of line w allowance k rs words ≡ Some found →
      SearchAgreed k rs words found
  unfolding search_of
  search_agreed k rs words found e =
      let m = search_matched (read (field (3 * k + 4) line)) (read_number (field (3 * k + 5) line))
      (list_of most_numbers (field (3 * k + 6) line))
      (record_search w allowance rs words) found e in
      record {
        position = m.0;
        depth = m.1;
        position_is = m.2;
        depth_is = m.3;
        found_is = sym m.5;
        numbers_are = m.4 ∙ ap (λ (r : Reported). Some (search_numbers r)) m.5;
      }

  found_said : (o : Option Reported) (next : Reported → Comparison) → (going_on line w allowance o next ≡ Differs → ⊥) →
      (r : Reported) × (o ≡ Some r) × (next r ≡ Differs → ⊥)
  found_said None next h = absurd (h refl)
  found_said (Some r) next h = (r, refl, h)

  searches_agreed : (n k : ℕ) (so_far : Comparison) (rs : Responses) (words : List ℕ) →
      (chain_of line w allowance n k so_far rs words ≡ Differs → ⊥) → SearchesAgreed n k rs words
  unfolding chain_of
  searches_agreed zero k so_far rs words h = tt
  searches_agreed (suc n) k so_far rs words h =
      let s = found_said (search_of line w allowance k rs words) _ h in
      let r = s.0 in
      (r, search_agreed k rs words r s.1, searches_agreed n (k + 1) _ r.responses r.table s.2)

-- ---- what stands before the searches
number_said : (d : Option ℕ) (next : ℕ → Comparison) → (for_number d next ≡ Differs → ⊥) →
    (n : ℕ) × (d ≡ Some n) × (next n ≡ Differs → ⊥)
number_said None next h = absurd (h refl)
number_said (Some n) next h = (n, refl, h)

draw_said : (d : Option (Option Player)) (next : Option Player → Comparison) → (for_draw d next ≡ Differs → ⊥) →
    (w : Option Player) × (d ≡ Some w) × (next w ≡ Differs → ⊥)
draw_said None next h = absurd (h refl)
draw_said (Some w) next h = (w, refl, h)

start_said : (o : Option Responses) (next : Responses → Comparison) → (for_start o next ≡ Differs → ⊥) →
    (rs : Responses) × (o ≡ Some rs) × (next rs ≡ Differs → ⊥)
start_said None next h = absurd (h refl)
start_said (Some rs) next h = (rs, refl, h)

-- ---- a line
-- four fields, and three for each of 1 to 999 searches
fields_said : (line : List ℕ) → T (has_searches line) →
    (tabs line ≡ 3 + 3 * (tabs line / 3 - 1)) × (1 ≤ tabs line / 3 - 1) × (tabs line / 3 - 1 ≤ 999)
fields_said line t =
    let both = and→ (eqb (tabs line % 3) 0) _ t in
    let bounds = and→ (leb 2 (tabs line / 3)) (leb (tabs line / 3) 1000) both.1 in
    let thirds = eqb→eq (tabs line % 3) 0 both.0 in
    let low = leb→le 2 (tabs line / 3) bounds.0 in
    let high = leb→le (tabs line / 3) 1000 bounds.1 in
    (omega arith, omega arith, omega arith)

pub record LineAgreed (room : ℕ) (line : List ℕ) : Type 0 where
  pub searches : ℕ
  pub fields_are : tabs line ≡ 3 + 3 * searches
  pub some_searches : 1 ≤ searches
  pub few_searches : searches ≤ 999
  pub entries : ℕ
  pub entries_are : read_number (field 0 line) ≡ Some entries
  pub entries_fit : entries * 3 ≤ room
  pub winner : Option Player
  pub winner_is : draw_of (field 1 line) ≡ Some winner
  pub allowance : ℕ
  pub allowance_is : read_number (field 2 line) ≡ Some allowance
  pub start : Responses
  pub start_is : start_of (field 3 line) ≡ Some start
  pub searches_agree : SearchesAgreed line winner allowance searches 0 start (replicate (entries * 3) 0)

-- of a line that does not differ each field is read, and each search's numbers are those that the definitions report, from a table of
-- zeros and the responses at the start on, one search after the other
pub agreed_means : (room : ℕ) (line : List ℕ) → (outcome_of room line ≡ Differs → ⊥) → LineAgreed room line
unfolding outcome_of run_of
agreed_means room line h =
    let fields = test_passed (has_searches line) _ h in
    let said = fields_said line fields.0 in
    let table = number_said (read_number (field 0 line)) _ fields.1 in
    let fits = test_passed (leb (table.0 * 3) room) _ table.2 in
    let draw = draw_said (draw_of (field 1 line)) _ fits.1 in
    let most = number_said (read_number (field 2 line)) _ draw.2 in
    let begun = start_said (start_of (field 3 line)) _ most.2 in
    let n = tabs line / 3 - 1 in
    record {
      searches = n;
      fields_are = said.0;
      some_searches = said.1;
      few_searches = said.2;
      entries = table.0;
      entries_are = table.1;
      entries_fit = leb→le (table.0 * 3) room fits.0;
      winner = draw.0;
      winner_is = draw.1;
      allowance = most.0;
      allowance_is = most.1;
      start = begun.0;
      start_is = begun.1;
      searches_agree = searches_agreed line draw.0 most.0 n 0 Agrees begun.0 (replicate (table.0 * 3) 0) begun.2;
    }
