-- Each call, from what its parts give: asked wrongly it keeps all, asked rightly it leaves what was stored.
use Rattle.std.specs.Prelude.{Option, Result, Ok, Err, pos}
use mathlib.Core.Path.{◌≡◌, refl, sym, ap, ◌∙◌}
use mathlib.Core.Bool.{Bool, true, false, ◌&&◌}
use mathlib.Core.List.{List, [], ◌∷◌}
use Prim.Native.Nat.{ℕ, ◌≤◌, ◌<◌}
use native.Mathlib.Omega.{arith}
use lib.Dec.{leb}
use lib.IntN.{ℤ}
use lib.ListN.{length, get_or}
use lib.Seq.{sets}
use borrow.Author.Tests.{le-leb, lt-leb}
use Rattle.std.specs.Result.{result_unwrap_or}
use Rattle.rules.specs.declared.Player.{Player}
use Rattle.base.specs.Branch.{when◌then◌else◌}
use Rattle.rules.specs.declared.Weights.{Weights}
use Rattle.rules.specs.Endgame.{analysis}
use Rattle.rules.specs.Status.{as_byte}
use Rattle.rules.specs.Evaluation.{Evaluated, scoring_with, evaluated}
use Rattle.theory.specs.Table.{to_word}
use Rattle.theory.specs.Reported.{Reported}
use Rattle.text.specs.Reading.{Reading, reads, refuses, text_refusal, read}
use Rattle.text.specs.Writing.{text_of}
use Rattle.text.proofs.Writing.{text_has_101_bytes}
use Rattle.status.specs.declared.Status.{Status}
use Rattle.game.specs.declared.Game.{Game}
use Rattle.game.specs.Meaning.{position_of}
use Rattle.game.specs.Built.{new_game}
use Rattle.game.specs.After.{games_after, answers_each}
use Rattle.notation.proofs.ParsedAnswers.{game_or_new}
use Rattle.notation.specs.Parsed.{parse_number, reading_of, game_for, Parses}
use Rattle.evaluation.specs.Values.{Evaluates, bad_weight_number, value_or_0}
use Rattle.endgame.specs.declared.Analysis.{Analysis}
use Rattle.endgame.specs.Means.{Analyses, unsound_number, analysis_status}
use Rattle.minimax.specs.declared.Config.{Config}
use Rattle.minimax.specs.declared.Minimax.{Minimax}
use Rattle.minimax.specs.declared.Report.{Report}
use Rattle.minimax.specs.Report.{ending_number, report_of, reported_of, responses_of}
use Rattle.answer_text.specs.declared.AnswerText.{AnswerText}
use Rattle.program_line.specs.Answered.{answer_line, asked_text}
use Rattle.line_buffer.specs.Buffer.{new_buffer, pushed_all, buffer_asks}
use Rattle.answer_text.specs.AnswerBytes.{text_of_bytes, written_bytes}
use Rattle.program_line.proofs.Answered.{line_is_answered}
use Rattle.line_buffer.specs.declared.LineBuffer.{LineBuffer}
use Rattle.interface.specs.Lent.{Puts}
use Rattle.interface.specs.Position.{words_of, game_from, is_position}
use Rattle.interface.specs.Calls.{Answers, Starts, read_place, ReadsPosition, Renders, PlaysAll}
use Rattle.interface.specs.Calls.{responses_from, responses_bytes, report_words, analyze_ok, found, Analyzes}
use Rattle.interface.specs.Calls.{evaluate_ok, valued, EvaluatesPosition}
use Rattle.interface.specs.Settings.{draws_from, weights_from, settings_ok, held_weights, config_from}
use Rattle.interface.proofs.LentPlaces.{left_written, left_kept, returned_bad, returned_well}
use Rattle.interface.proofs.CallsPlay.{answers_length}
use Rattle.interface.proofs.SettingsHeld.{held_evaluated, settings_reported}
use Rattle.rules.specs.Refusal.{answer_number}
use Rattle.evaluation.specs.declared.BadWeight.{BadWeight}
use Rattle.endgame.specs.declared.Unsound.{Unsound}
use Rattle.notation.specs.declared.ParseError.{ParseError}

-- ---- tests joined
both : (a b : Bool) → a ≡ true → b ≡ true → (a && b) ≡ true
both a b p q = ap (λ (x : Bool). x && b) p ∙ q

first_no : (a b : Bool) → a ≡ false → (a && b) ≡ false
first_no a b p = ap (λ (x : Bool). x && b) p

later_no : (a b : Bool) → a ≡ true → b ≡ false → (a && b) ≡ false
later_no a b p q = ap (λ (x : Bool). x && b) p ∙ q

-- ---- answer
module _ (line : List ℕ) (empty : LineBuffer) (empty_is : empty ≡ new_buffer) (held : LineBuffer) (held_is : held ≡ pushed_all empty line)
    (o : AnswerText) (o_is : o ≡ text_of_bytes (asked_text (buffer_asks held)))
    (bytes : List ℕ) (bytes_are : bytes ≡ written_bytes o) where
  answered : bytes ≡ answer_line line
  answered =
      bytes_are
      ∙ (line_is_answered line o (o_is ∙ ap (λ (k : LineBuffer). text_of_bytes (asked_text (buffer_asks k)))
      (held_is ∙ ap (λ (k : LineBuffer). pushed_all k line) empty_is))).written_is

  pub answers_written : (out m : List ℕ) → length bytes ≤ length out → m ≡ sets out 0 bytes → Answers line out m (length bytes)
  answers_written out m r e = record {
    returns = ap length answered;
    out_is =
        let q : length (answer_line line) ≤ length out = omega (arith, ap length answered) in
        left_written (answer_line line) out m _ (le-leb _ _ q) q (e ∙ ap (sets out 0) answered);
  }

  pub answers_kept : (out : List ℕ) → length out < length bytes → Answers line out out (length bytes)
  answers_kept out r = record {
    returns = ap length answered;
    out_is = let q : length out < length (answer_line line) = omega (arith, ap length answered) in
        left_kept (answer_line line) out _ (lt-leb _ _ q);
  }

-- ---- new
pub begins_short : (p : List ℕ) → length p < 12 → Starts p p 255
begins_short p h =
    record { returns = returned_bad 0 _ (lt-leb 12 (length p) h); position_is = left_kept (words_of new_game) p _ (lt-leb 12 (length p) h) }

pub begins_well : (p m : List ℕ) (g : Game) → 12 ≤ length p → g ≡ new_game → Puts p (words_of g) 12 m → Starts p m 0
begins_well p m g h e q = record {
  returns = returned_well 0 0 _ (le-leb 12 (length p) h) refl;
  position_is =
      left_written (words_of new_game) p m _ (le-leb 12 (length p) h) h (q.stored ∙ ap (λ (k : Game). sets p 0 (words_of k)) e);
}

-- ---- read
place_length : (x : Reading) → length (read_place x) ≡ 2
place_length (reads p) = refl
place_length (refuses n offset size) = refl

-- the number in the answer's code is the reading's
answer_reads : (r : Result Game ParseError) → answer_number parse_number r ≡ text_refusal (reading_of r)
answer_reads (Ok g) = refl
answer_reads (Err e) = refl

module _ (text p q : List ℕ) where
  reads_wrongly : (leb 12 (length p) && leb 2 (length q)) ≡ false → ReadsPosition text p q p q 255
  reads_wrongly bad = record { returns = returned_bad _ _ bad; position_is = left_kept _ p _ bad; place_is = left_kept _ q _ bad }

  pub reads_short : length p < 12 → ReadsPosition text p q p q 255
  reads_short h = reads_wrongly (first_no _ _ (lt-leb 12 (length p) h))

  pub reads_no_place : 12 ≤ length p → length q < 2 → ReadsPosition text p q p q 255
  reads_no_place h k = reads_wrongly (later_no _ _ (le-leb 12 (length p) h) (lt-leb 2 (length q) k))

  pub reads_well : (r : Result Game ParseError) (p_after q_after : List ℕ) (n : ℕ) → Parses text r → 12 ≤ length p → 2 ≤ length q
      → Puts p (words_of (result_unwrap_or r new_game)) 12 p_after → q_after ≡ sets q 0 (read_place (reading_of r))
      → n ≡ answer_number parse_number r → ReadsPosition text p q p_after q_after n
  reads_well r p_after q_after n is h k e f g =
      let ok = both _ _ (le-leb 12 (length p) h) (le-leb 2 (length q) k) in
      let game_is = game_or_new text r is in
      record {
        returns =
            returned_well n (text_refusal (read text)) _ ok (g ∙ answer_reads r ∙ ap text_refusal is.says);
        position_is =
            left_written (words_of (game_for (read text))) p p_after _ ok
            (omega (arith, sym (ap (λ (x : Game). length (words_of x)) game_is) ∙ e.many))
            (e.stored ∙ ap (λ (x : Game). sets p 0 (words_of x)) game_is);
        place_is =
            left_written (read_place (read text)) q q_after _ ok (omega (arith, place_length (read text)))
            (f ∙ ap (λ (x : Reading). sets q 0 (read_place x)) is.says);
      }

-- ---- render
module _ (p out : List ℕ) where
  renders_wrongly : (is_position p && leb 101 (length out)) ≡ false → Renders p out out 255
  renders_wrongly bad = record { returns = returned_bad _ _ bad; out_is = left_kept _ out _ bad }

  pub renders_none : is_position p ≡ false → Renders p out out 255
  renders_none e = renders_wrongly (first_no _ _ e)

  pub renders_short : is_position p ≡ true → length out < 101 → Renders p out out 255
  renders_short e h = renders_wrongly (later_no _ _ e (lt-leb 101 (length out) h))

  pub renders_well : (m t : List ℕ) (g : Game) → is_position p ≡ true → 101 ≤ length out
      → g ≡ game_from p → t ≡ text_of (position_of g) → m ≡ sets out 0 t → Renders p out m 0
  renders_well m t g e h q s w =
      let ok = both _ _ e (le-leb 101 (length out) h) in
      record {
        returns = returned_well 0 0 _ ok refl;
        out_is =
            left_written (text_of (position_of (game_from p))) out m _ ok (omega (arith, text_has_101_bytes (position_of (game_from p))))
            (w ∙ ap (sets out 0) (s ∙ ap (λ (k : Game). text_of (position_of k)) q));
      }

-- ---- play
module _ (p ms answers : List ℕ) where
  plays_wrongly : (is_position p && leb (length ms) (length answers)) ≡ false → PlaysAll p ms answers p answers 255
  plays_wrongly bad = record { returns = returned_bad _ _ bad; position_is = left_kept _ p _ bad; answers_is = left_kept _ answers _ bad }

  pub plays_none : is_position p ≡ false → PlaysAll p ms answers p answers 255
  plays_none e = plays_wrongly (first_no _ _ e)

  pub plays_short : is_position p ≡ true → length answers < length ms → PlaysAll p ms answers p answers 255
  plays_short e h = plays_wrongly (later_no _ _ e (lt-leb (length ms) (length answers) h))

  pub plays_well : (g after : Game) (p_after answers_after : List ℕ) → is_position p ≡ true → length ms ≤ length answers →
      12 ≤ length p
      → g ≡ game_from p → after ≡ games_after g ms → answers_after ≡ sets answers 0 (answers_each g ms) →
      Puts p (words_of after) 12 p_after
      → PlaysAll p ms answers p_after answers_after 0
  plays_well g after p_after answers_after e h k q s w x =
      let ok = both _ _ e (le-leb (length ms) (length answers) h) in
      let t = s ∙ ap (λ (y : Game). games_after y ms) q in
      record {
        returns = returned_well 0 0 _ ok refl;
        position_is =
            left_written (words_of (games_after (game_from p) ms)) p p_after _ ok
            (omega (arith, sym (ap (λ (y : Game). length (words_of y)) t) ∙ x.many))
            (x.stored ∙ ap (λ (y : Game). sets p 0 (words_of y)) t);
        answers_is =
            left_written (answers_each (game_from p) ms) answers answers_after _ ok
            (omega (arith, answers_length (game_from p) ms)) (w ∙ ap (λ (y : Game). sets answers 0 (answers_each y ms)) q);
      }

-- ---- analyze
module _ (p ms settings answers words report : List ℕ) where
  abbrev Here : List ℕ → List ℕ → List ℕ → ℕ → Type 0
  Here = Analyzes p ms settings answers words report

  -- the game at the end of the moves
  abbrev here : Game
  here = games_after (game_from p) ms

  kept_words : (t : List ℕ) (b : Bool) → b ≡ false → words ≡ (when b then (λ _. t) else λ _. words)
  unfolding when◌then◌else◌
  kept_words t b e = sym (ap (λ (x : Bool). when x then (λ _. t) else λ _. words) e)

  left_words : (m t : List ℕ) (b : Bool) → b ≡ true → m ≡ t → m ≡ (when b then (λ _. t) else λ _. words)
  unfolding when◌then◌else◌
  left_words m t b e q = q ∙ sym (ap (λ (x : Bool). when x then (λ _. t) else λ _. words) e)

  wrongly : analyze_ok p ms settings answers words report ≡ false → Here answers words report 255
  wrongly bad =
      record {
        returns = returned_bad _ _ bad;
        responses_is = left_kept _ answers _ bad;
        words_is = kept_words _ _ bad;
        report_is = left_kept _ report _ bad;
      }

  pub analyzes_none : is_position p ≡ false → Here answers words report 255
  analyzes_none e = wrongly (first_no _ _ e)

  module _ (e : is_position p ≡ true) where
    pub analyzes_few_settings : length settings < 6 → Here answers words report 255
    analyzes_few_settings h = wrongly (later_no _ _ e (first_no _ _ (first_no _ _ (lt-leb 6 (length settings) h))))

    module _ (six : 6 ≤ length settings) where
      pub analyzes_no_draws : 2 < get_or settings 2 0 → Here answers words report 255
      analyzes_no_draws h =
          wrongly (later_no _ _ e (first_no _ _ (later_no _ _ (le-leb 6 (length settings) six) (lt-leb (get_or settings 2 0) 2 h))))

      module _ (d : get_or settings 2 0 ≤ 2) where
        settled : settings_ok settings ≡ true
        settled = both _ _ (le-leb 6 (length settings) six) (le-leb (get_or settings 2 0) 2 d)

        pub analyzes_few_answers : length answers < 512 → Here answers words report 255
        analyzes_few_answers h = wrongly (later_no _ _ e (later_no _ _ settled (first_no _ _ (lt-leb 512 (length answers) h))))

        module _ (a : 512 ≤ length answers) where
          pub analyzes_no_report : length report < 655 → Here answers words report 255
          analyzes_no_report h = wrongly (later_no _ _ e (later_no _ _ settled
              (later_no _ _ (le-leb 512 (length answers) a) (lt-leb 655 (length report) h))))

          module _ (b : 655 ≤ length report) (g : Game) (g_is : g ≡ here) (c : Config) (c_is : c ≡ config_from settings) (m : Minimax)
              (rs_is : responses_of m.responses ≡ responses_from answers)
              (r : Report) (words_after : List ℕ) (r_is : report_of r words_after ≡ reported_of m g c words) where
            abbrev x : Reported
            x = found p ms settings answers words report

            found_is : report_of r words_after ≡ x
            found_is = cc (settings_reported settings m here words)

            module _ (s : Result Analysis Unsound) (s_is : Analyses g s) where
              abbrev number : ℕ
              number = answer_number unsound_number s

              abbrev byte : ℕ
              byte = (analysis_status s).bits

              number_is : number ≡ (analysis (position_of here)).refusal
              number_is = s_is.refusal ∙ ap (λ (k : Game). (analysis (position_of k)).refusal) g_is

              byte_is : byte ≡ as_byte (analysis (position_of here)).status
              byte_is = ap (λ (k : Status). k.bits) s_is.status ∙ ap (λ (k : Game). as_byte (analysis (position_of k)).status) g_is

              words_are : report_words (report_of r []) number byte ≡ report_words x (analysis (position_of here)).refusal
                  (as_byte (analysis (position_of here)).status)
              words_are =
                  ap (λ (k : Reported). report_words k number byte) found_is
                  ∙ ap (λ (k : ℕ). report_words x k byte) number_is
                  ∙ ap (report_words x (analysis (position_of here)).refusal) byte_is

              answers_are : responses_bytes (responses_of r.state.responses) ≡ responses_bytes x.responses
              answers_are = ap (λ (k : Reported). responses_bytes k.responses) found_is

              pub analyzes_well : (answers_after report_after : List ℕ) (n : ℕ)
                  → Puts answers (responses_bytes (responses_of r.state.responses)) 512 answers_after
                  → Puts report (report_words (report_of r []) number byte) 655 report_after
                  → n ≡ ending_number r.ending → Here answers_after words_after report_after n
              analyzes_well answers_after report_after n u v y =
                  let all = both _ _ e (both _ _ settled (both _ _ (le-leb 512 (length answers) a) (le-leb 655 (length report) b))) in
                  record {
                    returns = returned_well n x.number _ all (y ∙ ap (λ (k : Reported). k.number) found_is);
                    responses_is =
                        left_written (responses_bytes x.responses) answers answers_after _ all
                        (omega (arith, sym (ap length answers_are) ∙ u.many)) (u.stored ∙ ap (sets answers 0) answers_are);
                    words_is = left_words words_after x.table _ all (ap (λ (k : Reported). k.table) found_is);
                    report_is =
                        left_written _ report report_after _ all
                        (omega (arith, sym (ap length words_are) ∙ v.many)) (v.stored ∙ ap (sets report 0) words_are);
                  }

-- ---- evaluate
pub value_given : (r : Result ℤ BadWeight) → result_unwrap_or r (pos 0) ≡ value_or_0 r
value_given (Ok value) = refl
value_given (Err why) = refl

module _ (p : List ℕ) (draws : ℕ) (weights score : List ℕ) where
  evaluates_wrongly : evaluate_ok p draws weights score ≡ false → EvaluatesPosition p draws weights score score 255
  evaluates_wrongly bad = record { returns = returned_bad _ _ bad; score_is = left_kept _ score _ bad }

  pub evaluates_none : is_position p ≡ false → EvaluatesPosition p draws weights score score 255
  evaluates_none e = evaluates_wrongly (first_no _ _ e)

  module _ (e : is_position p ≡ true) where
    pub evaluates_no_draws : 2 < draws → EvaluatesPosition p draws weights score score 255
    evaluates_no_draws h = evaluates_wrongly (later_no _ _ e (first_no _ _ (lt-leb draws 2 h)))

    module _ (d : draws ≤ 2) where
      pub evaluates_few_weights : length weights < 3 → EvaluatesPosition p draws weights score score 255
      evaluates_few_weights h =
          evaluates_wrongly (later_no _ _ e (later_no _ _ (le-leb draws 2 d) (first_no _ _ (lt-leb 3 (length weights) h))))

      module _ (three : 3 ≤ length weights) where
        pub evaluates_no_score : length score < 1 → EvaluatesPosition p draws weights score score 255
        evaluates_no_score h = evaluates_wrongly (later_no _ _ e (later_no _ _ (le-leb draws 2 d)
            (later_no _ _ (le-leb 3 (length weights) three) (lt-leb 1 (length score) h))))

        module _ (one : 1 ≤ length score) (g : Game) (g_is : g ≡ game_from p) (w : Option Player) (w_is : w ≡ draws_from draws)
            (v : Weights) (v_is : v ≡ held_weights (weights_from weights))
            (r : Result ℤ BadWeight) (r_is : Evaluates (scoring_with w v) g r) where
          value_is : evaluated (scoring_with w v) (position_of g) ≡ valued p draws weights score
          value_is = cc (held_evaluated (draws_from draws) (weights_from weights) (position_of (game_from p)))

          pub evaluates_well : (score_after : List ℕ) (n : ℕ) → score_after ≡ sets score 0 (to_word (value_or_0 r) ∷ [])
              → n ≡ answer_number bad_weight_number r → EvaluatesPosition p draws weights score score_after n
          evaluates_well score_after n u y =
              let all = both _ _ e (both _ _ (le-leb draws 2 d) (both _ _ (le-leb 3 (length weights) three)
              (le-leb 1 (length score) one))) in
              record {
                returns = returned_well n _ _ all (y ∙ r_is.refusal ∙ ap (λ (k : Evaluated). k.refusal) value_is);
                score_is =
                    left_written (to_word (valued p draws weights score).value ∷ []) score score_after _ all one
                    (u ∙ ap (λ (z : ℤ). sets score 0 (to_word z ∷ [])) (r_is.value ∙ ap (λ (k : Evaluated). k.value) value_is));
              }
