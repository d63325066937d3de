-- One search of a record: what is found by the parts that are read of it.
use Rattle.std.specs.Prelude.{Option, None, Some, option_map, Ok, Err}
use Rattle.std.specs.Bool.{then_some}
use mathlib.Core.Path.{◌≡◌, sym, ap, ◌∙◌, subst}
use mathlib.Core.Bool.{Bool, true, false}
use mathlib.Core.List.{List}
use Prim.Native.Nat.{ℕ, ◌+◌, ◌*◌}
use lib.Dec.{T}
use Rattle.rules.specs.declared.Player.{Player}
use Rattle.base.specs.Branch.{when◌then◌else◌}
use Rattle.rules.specs.Position.{Position}
use Rattle.rules.specs.Hash.{hash}
use Rattle.rules.specs.Evaluation.{default_weights, scoring_with}
use Rattle.theory.specs.Reported.{Reported}
use Rattle.text.specs.Reading.{Reading, reads, refuses, read}
use Rattle.game.specs.declared.Game.{Game}
use Rattle.game.specs.Meaning.{position_of}
use Rattle.game.specs.Neat.{neat, game_of}
use Rattle.game.proofs.AfterHash.{Fresh}
use Rattle.notation.specs.declared.ParseError.{ParseError}
use Rattle.notation.specs.Parsed.{game_for, Parses}
use Rattle.notation.proofs.ParsedAnswers.{accepted_reads}
use Rattle.notation.proofs.ParsedGames.{read_gives_a_game}
use Rattle.minimax.specs.declared.Minimax.{Minimax}
use Rattle.minimax.specs.declared.Report.{Report}
use Rattle.minimax.specs.Report.{responses_of, report_of, reported_of}
use Rattle.minimax.proofs.Structs.{reported_rules}
use Rattle.decimals.specs.Numbers.{read_number}
use Rattle.decimals.specs.Lists.{list_of}
use Rattle.replay.specs.Fields.{field}
use Rattle.replay.specs.Agreement.{same_numbers}
use Rattle.replay_search.specs.Records.{search_numbers}
use Rattle.replay_search.specs.Chains.{most_numbers, matching, matching_search, record_search, search_of}

-- ---- what was read
module _ (text : List ℕ) where
  refused_reading : (e : ParseError) → Parses text (Err e) → (n : ℕ) × (o : ℕ) × (l : ℕ) × (read text ≡ refuses n o l)
  refused_reading e h = (_, _, _, sym h.says)

  module _ (g : Game) (h : Parses text (Ok g)) where
    abbrev p : Position
    p = position_of g

    is_game : g ≡ game_of p (hash p)
    is_game = h.game_is ∙ ap game_for (accepted_reads text g h)

    is_neat : T (neat g)
    is_neat = subst (λ (g : Game). T (neat g)) (sym is_game) (read_gives_a_game text p (accepted_reads text g h)).is_neat

    is_fresh : Fresh g
    is_fresh = subst Fresh (sym is_game) (read_gives_a_game text p (accepted_reads text g h)).fresh

-- ---- what matches
matching_by : (ns : List ℕ) (reached : Reported) (report : Report) (after : List ℕ) (agrees : Bool) → report_of report after ≡ reached →
    agrees ≡ same_numbers ns (search_numbers reached) →
    option_map (λ (r : Report). report_of r after) (then_some agrees report) ≡ matching ns reached
unfolding matching when◌then◌else◌
matching_by ns reached report after true e t = rw (← t) (ap Some e)
matching_by ns reached report after false e t = rw (← t)

-- ---- a search
module _ (line : List ℕ) (w : Option Player) (allowance k : ℕ) (m : Minimax) (words : List ℕ) where
  abbrev search : Position → ℕ → Reported
  search = record_search w allowance (responses_of m.responses) words

  abbrev found : Option Reported
  found = search_of line w allowance k (responses_of m.responses) words

  module _ (text : List ℕ) (at_text : text ≡ field (3 * k + 4) line) where
    pub no_position : (e : ParseError) → Parses text (Err e) → None ≡ found
    unfolding search_of
    no_position e h =
        let q = refused_reading text e h in
        sym (ap (λ (x : Reading). matching_search x (read_number (field (3 * k + 5) line))
        (list_of most_numbers (field (3 * k + 6) line)) search) (ap read (sym at_text) ∙ q.3))

    module _ (g : Game) (h : Parses text (Ok g)) where
      has_position : found ≡ matching_search (reads (position_of g)) (read_number (field (3 * k + 5) line))
          (list_of most_numbers (field (3 * k + 6) line)) search
      unfolding search_of
      has_position =
          ap (λ (x : Reading). matching_search x (read_number (field (3 * k + 5) line))
          (list_of most_numbers (field (3 * k + 6) line)) search)
          (ap read (sym at_text) ∙ accepted_reads text g h)

      pub no_depth : (text' : List ℕ) → text' ≡ field (3 * k + 5) line → read_number text' ≡ None → None ≡ found
      no_depth text' t e =
          sym (has_position ∙ ap (λ (x : Option ℕ). matching_search (reads (position_of g)) x
          (list_of most_numbers (field (3 * k + 6) line)) search) (ap read_number (sym t) ∙ e))

      module _ (depth : ℕ) (text' : List ℕ) (at_depth : text' ≡ field (3 * k + 5) line) (d : read_number text' ≡ Some depth) where
        has_depth : found ≡ matching_search (reads (position_of g)) (Some depth)
            (list_of most_numbers (field (3 * k + 6) line)) search
        has_depth =
            has_position ∙ ap (λ (x : Option ℕ). matching_search (reads (position_of g)) x
            (list_of most_numbers (field (3 * k + 6) line)) search) (ap read_number (sym at_depth) ∙ d)

        module _ (text'' : List ℕ) (at_numbers : text'' ≡ field (3 * k + 6) line) where
          pub no_numbers : list_of most_numbers text'' ≡ None → None ≡ found
          no_numbers e =
              sym (has_depth ∙ ap (λ (x : Option (List ℕ)). matching_search (reads (position_of g))
              (Some depth) x search) (ap (list_of most_numbers) (sym at_numbers) ∙ e))

          module _ (ns after : List ℕ) (report : Report) (agrees : Bool) (e : list_of most_numbers text'' ≡ Some ns)
              (is_report : report_of report after ≡ reported_of m g
              (record { max_depth = depth; allowance = allowance; draw_winner = w; weights = default_weights }) words)
              (same : agrees ≡ same_numbers ns (search_numbers (report_of report after))) where
            abbrev reached : Reported
            reached = search (position_of g) depth

            made : found ≡ matching ns reached
            made = has_depth ∙ ap (λ (x : Option (List ℕ)). matching_search (reads (position_of g)) (Some depth) x search)
                (ap (list_of most_numbers) (sym at_numbers) ∙ e)

            by_rules : report_of report after ≡ reached
            by_rules = is_report ∙ reported_rules (scoring_with w default_weights)
                (record { max_depth = depth; allowance = allowance; weights = default_weights })
                g (is_neat text g h) (is_fresh text g h) (responses_of m.responses) words

            pub is_searched : option_map (λ (r : Report). report_of r after) (then_some agrees report) ≡ found
            is_searched =
                matching_by ns reached report after agrees by_rules
                (same ∙ ap (λ (x : Reported). same_numbers ns (search_numbers x)) by_rules)
                ∙ sym made
