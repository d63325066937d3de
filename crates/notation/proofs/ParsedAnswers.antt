-- Each way out of reading gives the answer that the definition of reading has for it.
use Rattle.std.specs.Prelude.{Option, None, Some, Result, Ok, Err, IfOk}
use Rattle.std.specs.Result.{MatchResult, result_unwrap_or}
use mathlib.Core.Path.{◌≡◌, refl, sym, ap, ap₂, ◌∙◌, subst}
use mathlib.Core.List.{List, [], ◌∷◌}
use Prim.Native.Nat.{ℕ, ◌+◌, ◌≤◌, ◌<◌}
use native.Mathlib.Omega.{arith}
use borrow.Author.Rules.{rules}
use lib.Dec.{T, lt→ltb}
use lib.ListN.{length}
use borrow.Author.Tests.{le-ltb, eq-eqb, ne_eqb}
use Rattle.base.specs.Branch.{when◌then◌else◌}
use Rattle.base.specs.Lists.{from}
use Rattle.rules.specs.declared.Player.{Player}
use Rattle.rules.specs.declared.GameState.TheVariants.{InPlay}
use Rattle.rules.specs.Board.{other, in_play, won_by, result_of}
use Rattle.rules.specs.Hash.{hash}
use Rattle.text.specs.Reading.{Reading, reads, refuses, sections, first_bad, last_at, first_fault, said, read_cells, read_marks}
use Rattle.text.specs.Reading.{read_overall, lone_side, read_side, read}
use Rattle.text.proofs.ReadingScan.{last_at_cases}
use Rattle.text.proofs.Reading.{too_long, not_three, answer_is_read}
use Rattle.boards.specs.declared.local.LocalBoards.{LocalBoards}
use Rattle.boards.specs.declared.states.GlobalStates.{GlobalStates}
use Rattle.game.specs.declared.Game.{Game}
use Rattle.game.specs.Meaning.{position_of}
use Rattle.game.specs.Built.{new_game, packed, recalculated}
use Rattle.game.specs.Neat.{neat_next, neat, game_of}
use Rattle.game.proofs.AfterHash.{Fresh, packed_hash, recalculated_hash}
use Rattle.game.proofs.Neat.{→neat, recalculated_neat, neat_is_fixed}
use Rattle.notation.specs.declared.ErrorKind.{ErrorKind}
use Rattle.notation.specs.declared.ErrorKind.TheVariants.{TooLong, MissingSection}
use Rattle.notation.specs.declared.ParseError.{ParseError}
use Rattle.notation.specs.Parsed.{kind_number, game_for, Parses}
use Rattle.notation.specs.Parts.{error_at, AnswersReading, MarksSay, CellsSay, ReadsCells}

-- ---- a refusal
pub refusal_gives : (x : Reading) (e : ParseError) (why : ErrorKind) (o l : ℕ) → e ≡ error_at why o l →
    x ≡ refuses (kind_number why) o l → AnswersReading x (Err e)
refusal_gives x e why o l q f = rw (q, f) (record { says = refl; game_is = tt })

-- ---- the cells, with the place of a fault
module _ (cs : List ℕ) (r : Result LocalBoards ErrorKind) (h : ReadsCells cs r) (m : Result LocalBoards ParseError)
    (q : MatchResult r (λ l. m ≡ Ok l) (λ why. m ≡ Err (error_at why 12 (length cs)))) where
  pub fault_read : (e : ParseError) → m ≡ Err e →
      (why : ErrorKind) × (kind_number why ≡ first_fault cs (from 0 89)) × (e ≡ error_at why 12 (length cs))
  fault_read e f = go r h q
    where
      go : (r : Result LocalBoards ErrorKind) → ReadsCells cs r →
          MatchResult r (λ l. m ≡ Ok l) (λ why. m ≡ Err (error_at why 12 (length cs))) →
          (why : ErrorKind) × (kind_number why ≡ first_fault cs (from 0 89)) × (e ≡ error_at why 12 (length cs))
      go (Ok l) h q = cc
      go (Err why) h q = (why, h, cc)

  pub cells_read : (l : LocalBoards) → m ≡ Ok l → CellsSay cs l
  cells_read l f = go r h q
    where
      go : (r : Result LocalBoards ErrorKind) → ReadsCells cs r →
          MatchResult r (λ l. m ≡ Ok l) (λ why. m ≡ Err (error_at why 12 (length cs))) → CellsSay cs l
      go (Ok k) h q = let e : k ≡ l = cc in subst (CellsSay cs) e h
      go (Err why) h q = cc

-- ---- three sections
module _ (s os cs : List ℕ) where
  abbrev answer : Reading
  answer = read_side (lone_side s) s os cs

  module _ (w : Player) (e : lone_side s ≡ Some w) where
    -- the overall marks are not nine
    pub marks_not_nine : (length os ≡ 9 → ⊥) → answer ≡ refuses 4 2 (length os)
    unfolding read_overall when◌then◌else◌
    marks_not_nine n = rw (e, ne_eqb (length os) 9 n)

    module _ (n : length os ≡ 9) where
      by_marks : answer ≡ read_marks (first_bad os) w os cs
      unfolding read_overall when◌then◌else◌
      by_marks = rw (e, eq-eqb (length os) 9 n)

      -- one of them is bad
      pub mark_bad : (i : ℕ) → first_bad os ≡ Some i → answer ≡ refuses 5 (2 + i) 1
      mark_bad i f = by_marks ∙ rw f

      module _ (f : first_bad os ≡ None) where
        -- a cell or a `/` is bad or lacks
        pub cells_bad : (why : ErrorKind) → kind_number why ≡ first_fault cs (from 0 89) →
            answer ≡ refuses (kind_number why) 12 (length cs)
        unfolding read_cells when◌then◌else◌
        cells_bad why e' =
            let n : 0 < kind_number why = search rules in
            by_marks ∙ rw (f, ne_eqb (first_fault cs (from 0 89)) 0 (λ z. omega (arith, e' ∙ z)), e')

        -- nothing is
        pub all_good : first_fault cs (from 0 89) ≡ 0 → answer ≡ reads (said w os cs)
        unfolding read_cells when◌then◌else◌
        all_good z = by_marks ∙ rw (f, eq-eqb (first_fault cs (from 0 89)) 0 z)

-- a due board is one of the nine
next_is_neat : (n : Option ℕ) (os : List ℕ) → length os ≡ 9 → n ≡ last_at 0 os None → T (neat_next n)
next_is_neat n os l e =
    let bound : T (neat_next (last_at 0 os None)) =
    last_at_cases (λ d. T (neat_next d)) 0 os None (λ _. tt) (λ k h _ _. lt→ltb (0 + k) 9 (omega arith)) in
    subst (λ (d : Option ℕ). T (neat_next d)) (sym e) bound

-- the game of what was read
module _ (w : Player) (os cs : List ℕ) (s : GlobalStates) (n : Option ℕ) (l : LocalBoards) (nine : length os ≡ 9)
    (ms : MarksSay os s n) (c : CellsSay cs l) where
  abbrev g : Game
  g = recalculated (packed w n l s InPlay)

  g_neat : T (neat g)
  unfolding packed
  g_neat =
      recalculated_neat (packed w n l s InPlay) (→neat (packed w n l s InPlay)
      (record { next = next_is_neat n os nine ms.due_is; three = c.three; each = c.each; xs = ms.x_fits; os = ms.o_fits }))

  g_fresh : Fresh g
  g_fresh = recalculated_hash (packed w n l s InPlay) (packed_hash w n l s InPlay)

  g_means : position_of g ≡ said w os cs
  unfolding packed recalculated said
  g_means = λ i. record {
    turn = w;
    next_board = ms.due_is i;
    cells = c.cells_are i;
    states = ms.states_are i;
    state = result_of (other w) (λ b. won_by (other w) (ms.states_are i b)) (λ b. in_play (ms.states_are i b));
  }

  g_is : g ≡ game_of (said w os cs) (hash (said w os cs))
  g_is = sym (neat_is_fixed g g_neat) ∙ ap₂ game_of g_means (g_fresh ∙ ap hash g_means)

  -- it is the neat game of the position, with its fresh hash
  pub accepted_gives : (x : Reading) (h : Game) → x ≡ reads (said w os cs) → h ≡ g → AnswersReading x (Ok h)
  accepted_gives x h e f = rw (e, f) (record { says = ap reads g_means; game_is = g_is })

-- ---- a text
pub gives_parses : (t : List ℕ) (x : Reading) (r : Result Game ParseError) → read t ≡ x → AnswersReading x r → Parses t r
gives_parses t x r e q = record { says = q.says ∙ sym e; game_is = subst (λ (y : Reading). IfOk r (λ g. g ≡ game_for y)) (sym e) q.game_is }

module _ (t : List ℕ) where
  -- too long
  pub parses_too_long : (e : ParseError) → 256 < length t → e ≡ error_at TooLong 0 0 → Parses t (Err e)
  parses_too_long e h q = gives_parses t _ (Err e) (answer_is_read (too_long h)) (refusal_gives _ e TooLong 0 0 q refl)

  module _ (short : length t ≤ 256) where
    -- not three sections
    pub parses_not_three : (e : ParseError) → (length (sections t) ≡ 3 → ⊥) → e ≡ error_at MissingSection 0 (length t) → Parses t (Err e)
    parses_not_three e m q =
        gives_parses t _ (Err e) (answer_is_read (not_three short m)) (refusal_gives _ e MissingSection 0 (length t) q refl)

    -- three: what they give
    pub parses_three : (s os cs : List ℕ) (r : Result Game ParseError) → sections t ≡ s ∷ os ∷ cs ∷ [] →
        AnswersReading (read_side (lone_side s) s os cs) r → Parses t r
    unfolding read when◌then◌else◌
    parses_three s os cs r e = gives_parses t _ r (rw (le-ltb 256 (length t) short, e))

-- ---- what a text that is read gives, and the empty game in place of one that is not
pub accepted_reads : (text : List ℕ) (g : Game) → Parses text (Ok g) → read text ≡ reads (position_of g)
accepted_reads text g h = sym h.says

pub game_or_new : (text : List ℕ) (r : Result Game ParseError) → Parses text r → result_unwrap_or r new_game ≡ game_for (read text)
game_or_new text (Ok g) h = h.game_is
game_or_new text (Err e) h = ap game_for h.says
