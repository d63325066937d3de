-- The code's arms are the definition's; what is held of a line is answered as the line is, and no byte of an answer is dropped.
use mathlib.Core.Path.{◌≡◌, refl, sym, ap, ◌∙◌, subst}
use mathlib.Core.Bool.{Bool, true, false}
use mathlib.Core.List.{List, [], ◌∷◌}
use Prim.Native.Nat.{ℕ, ◌≤◌}
use native.Mathlib.Omega.{arith}
use lib.Dec.{T, eqb}
use lib.ListN.{length}
use borrow.Author.Tests.{eq-eqb, ne_eqb}
use Rattle.std.specs.Prelude.{Option, None, Some, Result, Ok, Err}
use Rattle.std.specs.Option.{ok_or}
use Rattle.base.specs.Bits.{bit}
use Rattle.base.specs.Branch.{when◌then◌else◌}
use Rattle.base.proofs.Branch.{if_ind}
use Rattle.rules.specs.Position.{Position}
use Rattle.rules.specs.Moves.{moves}
use Rattle.rules.specs.Hash.{hash}
use Rattle.rules.specs.Status.{Status as Set}
use Rattle.rules.specs.Endgame.{Analysis as Analysed, analysis}
use Rattle.rules.specs.Evaluation.{default_weights}
use Rattle.rules.proofs.Endgame.{analysis_cases}
use Rattle.theory.specs.Memory.{no_responses}
use Rattle.theory.specs.Reported.{Reported, reported}
use Rattle.text.specs.Reading.{Reading, reads, refuses, read}
use Rattle.text.specs.ProgramLine.{Question, no_depth, asks, asks_with, asked, answer_text, refusal_text}
use Rattle.text.proofs.Reading.{refusal_is_1_to_6}
use Rattle.text.proofs.ProgramLine.{decimal_short, answer_short}
use Rattle.status.specs.declared.Status.{Status}
use Rattle.status.specs.Sets.{set_of, status_of}
use Rattle.game.specs.declared.Game.{Game}
use Rattle.game.specs.Meaning.{position_of}
use Rattle.game.specs.Neat.{neat}
use Rattle.notation.specs.declared.ParseError.{ParseError}
use Rattle.notation.specs.Parsed.{parse_number, game_for, Parses}
use Rattle.notation.proofs.ParsedGames.{read_gives_a_game}
use Rattle.minimax.specs.declared.Minimax.{Minimax}
use Rattle.minimax.specs.declared.Config.{Config}
use Rattle.minimax.specs.declared.Report.{Report}
use Rattle.minimax.specs.declared.SearchError.{SearchError}
use Rattle.minimax.specs.declared.SearchError.TheVariants.{Depth, Allowance, Words, Weights, Spent}
use Rattle.minimax.specs.Report.{search_error_number, empty_responses, report_of, reported_of}
use Rattle.minimax.specs.Structs.{structs}
use Rattle.minimax.proofs.ReportAnswers.{bytes_empty}
use Rattle.minimax.proofs.Structs.{reported_rules}
use Rattle.answer_text.specs.declared.AnswerText.{AnswerText}
use Rattle.line_buffer.specs.declared.BadDepth.{BadDepth}
use Rattle.line_buffer.specs.declared.LineBuffer.{LineBuffer}
use Rattle.line_buffer.specs.Buffer.{depth_after, depth_held, new_buffer, pushed_all, buffer_text, buffer_asks, SameQuestion}
use Rattle.answer_text.specs.AnswerBytes.{text_of_bytes, written_bytes}
use Rattle.program_line.specs.Answered.{settings, program_scoring, program_search, report_text, position_text, reading_text}
use Rattle.program_line.specs.Answered.{asked_text, answer_line}
use Rattle.line_buffer.proofs.Buffer.{held_asks_the_same}
use Rattle.answer_text.proofs.AnswerBytes.{written_whole}
use Rattle.program_line.proofs.AnsweredBounds.{moves_short, Small, searched_small}

-- ---- the search, from fresh memory and with no words
abbrev config : ℕ → Config
config depth = record { max_depth = depth; allowance = 1000000; draw_winner = None; weights = default_weights }

pub search_searched : (r : Report) (m : Minimax) (g : Game) (depth : ℕ) (words : List ℕ) → T (neat g) →
    g.hash ≡ hash (position_of g) → m ≡ empty_responses → length words ≡ 0 →
    report_of r words ≡ reported_of m g (config depth) [] →
    report_of r [] ≡ program_search depth (position_of g)
search_searched r m g depth [] n f e l h =
    h ∙ ap (λ (m : Minimax). reported_of m g (config depth) []) e
    ∙ ap (λ (xs : List ℕ). reported (structs program_scoring) (settings depth) g (record { to_x = xs; to_o = xs }) []) (bytes_empty 256)
    ∙ reported_rules program_scoring (settings depth) g n f no_responses []
search_searched r m g depth (w ∷ ws) n f e l h = absurd (omega arith)

-- ---- its report
module _ (s : Set) (legal : ℕ) (r : Reported) where
  pub report_refused : (why : SearchError) (n : ℕ) → n ≡ search_error_number why → search_error_number why ≡ r.number →
      refusal_text n ≡ report_text s legal r
  unfolding report_text when◌then◌else◌
  report_refused why n e f = rw (e, f, ne_eqb r.number 0 (λ z. not_0 why (f ∙ z)))
    where
      not_0 : (why : SearchError) → search_error_number why ≡ 0 → ⊥
      not_0 Depth z = omega arith
      not_0 Allowance z = omega arith
      not_0 Words z = omega arith
      not_0 Weights z = omega arith
      not_0 Spent z = omega arith

  pub report_whole : r.number ≡ 0 → answer_text s legal r.depth r.score r.count r.pv ≡ report_text s legal r
  unfolding report_text when◌then◌else◌
  report_whole g = rw (eq-eqb r.number 0 g)

-- ---- a position: 14, or the search
set_again : (s : Set) → set_of (status_of s) ≡ s
unfolding bit
set_again s =
    λ i. record { x = (go s.x s.o s.draw).0 i; o = (go s.x s.o s.draw).1 i; draw = (go s.x s.o s.draw).2 i }
  where
    again : Bool → Bool → Bool → Set
    again x o d = set_of (status_of (record { x = x; o = o; draw = d }))

    go : (x o d : Bool) → ((again x o d).x ≡ x) × ((again x o d).o ≡ o) × ((again x o d).draw ≡ d)
    go false false false = (refl, refl, refl)
    go false false true = (refl, refl, refl)
    go false true false = (refl, refl, refl)
    go false true true = (refl, refl, refl)
    go true false false = (refl, refl, refl)
    go true false true = (refl, refl, refl)
    go true true false = (refl, refl, refl)
    go true true true = (refl, refl, refl)

module _ (p : Position) (depth : ℕ) where
  pub position_refused : (n : ℕ) → n ≡ (analysis p).refusal → (n ≡ 0 → ⊥) → refusal_text n ≡ position_text p depth
  unfolding position_text when◌then◌else◌
  position_refused n e f = rw (sym e, ne_eqb n 0 f)

  pub position_searched : (s : Status) (r : Reported) → 0 ≡ (analysis p).refusal → s ≡ status_of (analysis p).status →
      r ≡ program_search depth p → report_text (set_of s) (length (moves p)) r ≡ position_text p depth
  unfolding position_text when◌then◌else◌
  position_searched s r e f g = rw (sym e, f, g, set_again (analysis p).status)

-- ---- the text
module _ (text : List ℕ) where
  pub text_refused : (e : ParseError) → Parses text (Err e) → (depth : ℕ) → refusal_text (parse_number e) ≡ reading_text (read text) depth
  text_refused e h depth = ap (λ (z : Reading). reading_text z depth) h.says

  module _ (g : Game) (h : Parses text (Ok g)) where
    pub text_accepted : (depth : ℕ) → position_text (position_of g) depth ≡ reading_text (read text) depth
    text_accepted depth = ap (λ (z : Reading). reading_text z depth) h.says

    -- the game is neat, and its hash the fresh one
    pub text_game : T (neat g) × (g.hash ≡ hash (position_of g))
    text_game =
        let e = h.game_is ∙ ap game_for (sym h.says) in (
          subst (λ (g : Game). T (neat g)) (sym e) (read_gives_a_game text (position_of g) (sym h.says)).is_neat,
          ap (λ (g : Game). g.hash) e,
        )

-- ---- the line: 19 first
module _ (line : LineBuffer) where
  pub line_refused : (why : BadDepth) → Err why ≡ depth_held line → refusal_text 19 ≡ asked_text (buffer_asks line)
  line_refused why e = go (depth_after line.after) e
    where
      go : (d : Option ℕ) → Err why ≡ ok_or d (record {}) → refusal_text 19 ≡ asked_text (asks_with (buffer_text line) d)
      go None e = refl
      go (Some n) e = cc

  pub line_asks : (depth : ℕ) → Ok depth ≡ depth_held line → reading_text (read (buffer_text line)) depth ≡ asked_text (buffer_asks line)
  line_asks depth e = go (depth_after line.after) e
    where
      go : (d : Option ℕ) → ◌≡◌ {A = Result ℕ BadDepth} (Ok depth) (ok_or d (record {})) →
          reading_text (read (buffer_text line)) depth ≡ asked_text (asks_with (buffer_text line) d)
      go None e = cc
      go (Some n) e = ap (reading_text (read (buffer_text line))) cc

same_text : (a b : Question) → SameQuestion a b → asked_text a ≡ asked_text b
same_text no_depth no_depth h = refl
same_text no_depth (asks u m) h = absurd h
same_text (asks t n) no_depth h = absurd h
same_text (asks t n) (asks u m) h = rw (h.0, h.1)

-- ---- 201 bytes are the most
refusal_room : (n : ℕ) → n ≤ 20 → length (refusal_text n) ≤ 201
refusal_room n h = omega (arith, decimal_short 1 n (omega arith))

report_room : (s : Set) (legal : ℕ) (r : Reported) → legal ≤ 81 → Small r → length (report_text s legal r) ≤ 201
unfolding report_text
report_room s legal r l h = if_ind (λ (t : List ℕ). length t ≤ 201) (eqb r.number 0) _ _
    (λ _. omega (
      arith,
      answer_short s legal r.depth r.score r.count r.pv (omega arith) (omega arith) (omega arith)
          (omega arith) (omega arith),
    ))
    (λ _. refusal_room r.number (omega arith))

position_room : (p : Position) (depth : ℕ) → length (position_text p depth) ≤ 201
unfolding position_text
position_room p depth = if_ind (λ (t : List ℕ). length t ≤ 201) (eqb (analysis p).refusal 0) _ _
    (λ _. report_room (analysis p).status (length (moves p)) (program_search depth p) (moves_short p) (searched_small depth p))
    (λ _. refusal_room (analysis p).refusal (analysis_cases p (λ (a : Analysed). a.refusal ≤ 20) (λ _. omega arith)
    (λ _ _. omega arith) (λ _ _. omega arith)))

reading_room : (text : List ℕ) (r : Reading) → read text ≡ r → (depth : ℕ) → length (reading_text r depth) ≤ 201
reading_room text (reads p) e depth = position_room p depth
reading_room text (refuses n o l) e depth = refusal_room n (omega (arith, refusal_is_1_to_6 text n o l e))

asked_room : (a : Question) → length (asked_text a) ≤ 201
asked_room no_depth = refusal_room 19 (omega arith)
asked_room (asks text depth) = reading_room text (read text) refl depth

-- no answer is longer
pub answer_fits : (line : List ℕ) → length (answer_line line) ≤ 201
answer_fits line = asked_room (asked line)

-- ---- for every list of bytes: what `answer` promises of the line held, pushed byte by byte, is the answer to the line, and all of it is
-- written
pub record Answers (line : List ℕ) (r : AnswerText) : Type 0 where
  pub out_is : r ≡ text_of_bytes (answer_line line)
  pub written_is : written_bytes r ≡ answer_line line

pub line_is_answered : (line : List ℕ) (r : AnswerText) → r ≡ text_of_bytes (asked_text (buffer_asks (pushed_all new_buffer line)))
    → Answers line r
line_is_answered line r e =
    let f = e ∙ ap text_of_bytes (same_text (buffer_asks (pushed_all new_buffer line)) (asked line) (held_asks_the_same line)) in
    record { out_is = f; written_is = ap written_bytes f ∙ written_whole (answer_line line) (omega (arith, asked_room (asked line))) }
