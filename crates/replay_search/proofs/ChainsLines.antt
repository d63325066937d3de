-- The searches of a record one after the other, and a record's line.
use Rattle.std.specs.Prelude.{Option, None, Some, option_map}
use mathlib.Core.Path.{◌≡◌, sym, ap, ◌∙◌}
use mathlib.Core.Bool.{true, false, cond}
use mathlib.Core.List.{List}
use Prim.Native.Nat.{ℕ, suc, ◌+◌, ◌-◌, ◌*◌, ◌/◌, ◌%◌, ◌<◌, ◌≤◌}
use native.Mathlib.Omega.{arith}
use lib.Dec.{eqb, leb}
use lib.ListN.{replicate}
use borrow.Author.Tests.{eq-eqb, ne_eqb, le-leb, lt-leb}
use Rattle.rules.specs.declared.Player.{Player}
use Rattle.base.specs.Branch.{when◌then◌else◌}
use Rattle.theory.specs.Memory.{Responses}
use Rattle.theory.specs.Reported.{Reported}
use Rattle.minimax.specs.declared.Minimax.{Minimax}
use Rattle.minimax.specs.declared.Report.{Report}
use Rattle.minimax.specs.Report.{ending_number, responses_of, report_of}
use Rattle.decimals.specs.Numbers.{read_number}
use Rattle.replay.specs.declared.totals.Comparison.{Comparison}
use Rattle.replay.specs.declared.totals.Comparison.TheVariants.{Agrees, Apart, Differs}
use Rattle.replay.specs.Fields.{field, tabs}
use Rattle.replay.specs.Draws.{draw_of}
use Rattle.replay_search.specs.Chains.{begun_of, start_of, search_of, going_on, chain_of}
use Rattle.replay_search.specs.Chains.{for_number, for_draw, for_start, run_of, has_searches, outcome_of}

-- ---- one search more
module _ (line : List ℕ) (w : Option Player) (allowance count k : ℕ) (so_far : Comparison) (rs : Responses) (words : List ℕ) where
  abbrev after_search : ℕ → Reported → Comparison
  after_search n r = chain_of line w allowance n (k + 1) (cond (eqb r.number 0) so_far Apart) r.responses r.table

  module _ (o : Option Report) (after : List ℕ) (h : k < count)
      (s : option_map (λ (r : Report). report_of r after) o ≡ search_of line w allowance k rs words) where
    one_more : chain_of line w allowance (count - k) k so_far rs words
        ≡ going_on line w allowance (option_map (λ (r : Report). report_of r after) o) (after_search (count - (k + 1)))
    unfolding chain_of
    one_more =
        let n : count - k ≡ suc (count - (k + 1)) = omega arith in
        ap (λ (i : ℕ). chain_of line w allowance i k so_far rs words) n
        ∙ ap (λ (o : Option Reported). going_on line w allowance o (after_search (count - (k + 1)))) (sym s)

    pub chain_differs : o ≡ None → Differs ≡ chain_of line w allowance (count - k) k so_far rs words
    chain_differs e = sym (one_more ∙ rw e)

    pub chain_next : (r : Report) → o ≡ Some r → (next : Comparison) → next ≡ cond (eqb (ending_number r.ending) 0) so_far Apart →
        chain_of line w allowance (count - (k + 1)) (k + 1) next (responses_of r.state.responses) after
        ≡ chain_of line w allowance (count - k) k so_far rs words
    chain_next r e next f = sym (one_more ∙ rw (e, f))

  pub chain_end : count ≤ k → chain_of line w allowance (count - k) k so_far rs words ≡ so_far
  unfolding chain_of
  chain_end h =
      let n : count - k ≡ 0 = omega arith in
      ap (λ (i : ℕ). chain_of line w allowance i k so_far rs words) n

pub chain_start : (line : List ℕ) (w : Option Player) (allowance count : ℕ) (rs : Responses) (words : List ℕ) →
    chain_of line w allowance (count - 0) 0 Agrees rs words ≡ chain_of line w allowance count 0 Agrees rs words
chain_start line w allowance count rs words =
    let n : count - 0 ≡ count = omega arith in
    ap (λ (i : ℕ). chain_of line w allowance i 0 Agrees rs words) n

-- ---- what stands before the searches
module _ (line : List ℕ) (n size : ℕ) where
  abbrev from_start : Option Player → ℕ → Option Responses → Comparison
  from_start w allowance o = for_start o (λ rs. chain_of line w allowance n 0 Agrees rs (replicate size 0))

  abbrev from_allowance : Option Player → Option ℕ → Comparison
  from_allowance w a = for_number a (λ allowance. from_start w allowance (start_of (field 3 line)))

  abbrev from_draw : Option (Option Player) → Comparison
  from_draw d = for_draw d (λ w. from_allowance w (read_number (field 2 line)))

  module _ (text : List ℕ) (at_draw : text ≡ field 1 line) where
    pub run_no_draw : (d : Option (Option Player)) → d ≡ draw_of text → d ≡ None → Differs ≡ run_of line n size
    unfolding run_of
    run_no_draw d e f = sym (ap from_draw (ap draw_of (sym at_draw) ∙ sym e ∙ f))

    module _ (d : Option (Option Player)) (w : Option Player) (e : d ≡ draw_of text) (f : d ≡ Some w) where
      has_draw : run_of line n size ≡ from_allowance w (read_number (field 2 line))
      unfolding run_of
      has_draw = ap from_draw (ap draw_of (sym at_draw) ∙ sym e ∙ f)

      module _ (text' : List ℕ) (at_allowance : text' ≡ field 2 line) (a : Option ℕ) (g : a ≡ read_number text') where
        pub run_no_allowance : a ≡ None → Differs ≡ run_of line n size
        run_no_allowance h = sym (has_draw ∙ ap (from_allowance w) (ap read_number (sym at_allowance) ∙ sym g ∙ h))

        module _ (allowance : ℕ) (h : a ≡ Some allowance) (text'' : List ℕ) (at_start : text'' ≡ field 3 line) (b : Option Minimax)
            (begun : begun_of b ≡ start_of text'') where
          has_allowance : run_of line n size ≡ from_start w allowance (start_of (field 3 line))
          has_allowance = has_draw ∙ ap (from_allowance w) (ap read_number (sym at_allowance) ∙ sym g ∙ h)

          has_start : run_of line n size ≡ from_start w allowance (begun_of b)
          has_start = has_allowance ∙ ap (from_start w allowance) (ap start_of (sym at_start) ∙ sym begun)

          pub run_no_start : b ≡ None → Differs ≡ run_of line n size
          run_no_start t = sym (has_start ∙ rw t)

          pub run_is : (m : Minimax) → b ≡ Some m → (r : Comparison) (words : List ℕ) → words ≡ replicate size 0 →
              r ≡ chain_of line w allowance n 0 Agrees (responses_of m.responses) words → r ≡ run_of line n size
          run_is m t r words z e =
              e ∙ ap (chain_of line w allowance n 0 Agrees (responses_of m.responses)) z ∙ sym (has_start ∙ rw t)

-- ---- a line
module _ (room : ℕ) (line : List ℕ) (t : ℕ) (e : t ≡ tabs line) where
  abbrev from_entries : Option ℕ → Comparison
  from_entries a = for_number a (λ entries.
      when leb (entries * 3) room then (λ _. run_of line (tabs line / 3 - 1) (entries * 3)) else λ _. Differs)

  none_found : has_searches line ≡ false → Differs ≡ outcome_of room line
  unfolding outcome_of when◌then◌else◌
  none_found h = rw h

  pub not_thirds : (t % 3 ≡ 0 → ⊥) → Differs ≡ outcome_of room line
  not_thirds h = none_found (rw (← e) (rw (ne_eqb (t % 3) 0 h)))

  module _ (thirds : t % 3 ≡ 0) where
    pub too_few : t / 3 < 2 → Differs ≡ outcome_of room line
    too_few h = none_found (rw (← e) (rw (eq-eqb (t % 3) 0 thirds, lt-leb 2 (t / 3) h)))

    module _ (enough : 2 ≤ t / 3) where
      pub too_many : 1000 < t / 3 → Differs ≡ outcome_of room line
      too_many h = none_found (rw (← e) (rw (eq-eqb (t % 3) 0 thirds, le-leb 2 (t / 3) enough, lt-leb (t / 3) 1000 h)))

      module _ (not_too_many : t / 3 ≤ 1000)
          (text : List ℕ) (at_entries : text ≡ field 0 line) (a : Option ℕ) (g : a ≡ read_number text) where
        has_all : has_searches line ≡ true
        has_all = rw (← e) (rw (eq-eqb (t % 3) 0 thirds, le-leb 2 (t / 3) enough, le-leb (t / 3) 1000 not_too_many))

        some_found : outcome_of room line ≡ from_entries (read_number (field 0 line))
        unfolding outcome_of when◌then◌else◌
        some_found = rw has_all

        is_entries : (b : Option ℕ) → a ≡ b → outcome_of room line ≡ from_entries b
        is_entries b h = some_found ∙ ap from_entries (ap read_number (sym at_entries) ∙ sym g ∙ h)

        pub no_entries : a ≡ None → Differs ≡ outcome_of room line
        no_entries h = sym (is_entries None h)

        module _ (entries : ℕ) (h : a ≡ Some entries) where
          pub no_room : room < entries * 3 → Differs ≡ outcome_of room line
          unfolding when◌then◌else◌
          no_room l = sym (is_entries (Some entries) h ∙ rw (lt-leb (entries * 3) room l))

          pub is_run : (r : Comparison) → entries * 3 ≤ room → r ≡ run_of line (t / 3 - 1) (entries * 3) →
              r ≡ outcome_of room line
          unfolding when◌then◌else◌
          is_run r l f =
              f ∙ ap (λ (n : ℕ). run_of line (n / 3 - 1) (entries * 3)) e
              ∙ sym (is_entries (Some entries) h ∙ rw (le-leb (entries * 3) room l))
