-- A line is parted at its last blank, which is the one that no blank follows; its answer is that of the first check that fails.
use mathlib.Core.Path.{◌≡◌, refl, sym, ap, ap₂, ◌∙◌, subst}
use mathlib.Core.Bool.{Bool, true, false, not, ◌&&◌, ◌||◌}
use mathlib.Core.List.{List, [], ◌∷◌, ◌++◌}
use mathlib.Core.Logic.{inl, inr}
use Prim.Native.Nat.{ℕ, zero, suc, ◌≤◌, ◌<◌}
use native.Mathlib.Omega.{arith}
use lib.Dec.{T, eqb, leb, ltb, eqb→eq, leb→le, le→leb, ltb→lt, lt→ltb, nltb→le, T_not, not_T}
use lib.Ieee.Bits.{is_true, is_false}
use lib.ListN.{length, get_or}
use borrow.Author.Tests.{eqb-false, ne_eqb}
use Rattle.base.specs.Branch.{when◌then◌else◌}
use Rattle.base.specs.Lists.{all, elem, from}
use Rattle.base.specs.Checks.{all_pass, first_failed}
use Rattle.base.proofs.Bool.{and→, →and, →or_l, is}
use Rattle.base.proofs.Branch.{if_ind}
use Rattle.base.proofs.Checks.{some_failed, passed_++, failed_++}
use Rattle.base.proofs.ListsAgree.{same_by}
use Rattle.rules.specs.Position.{Position}
use Rattle.rules.specs.Moves.{moves}
use Rattle.rules.specs.Hash.{hash}
use Rattle.rules.specs.Evaluation.{accepted_weights}
use Rattle.rules.specs.Endgame.{analysis}
use Rattle.text.specs.Reading.{Reading, reads, refuses, text_refusal, sections, read}
use Rattle.text.specs.ProgramLine.{Parted, no_blank, around, parted, parted_with, depth_of, Question, no_depth, asks}
use Rattle.text.specs.ProgramLine.{asks_with, asked_by, is_digit, refusal_text}
use Rattle.text.proofs.Reading.{refusal_is_1_to_6}
use Rattle.theory.specs.Limits.{console}
use Rattle.theory.specs.Memory.{no_responses}
use Rattle.theory.specs.Reported.{Reported, reported}
use Rattle.game.specs.declared.Game.{Game}
use Rattle.game.specs.Neat.{game_of}
use Rattle.notation.specs.Parsed.{game_for}
use Rattle.notation.proofs.ParsedGames.{ReadGame, read_gives_a_game}
use Rattle.minimax.specs.Structs.{structs}
use Rattle.minimax.specs.Report.{reported_of, empty_responses}
use Rattle.minimax.proofs.ReportAnswers.{bytes_empty}
use Rattle.minimax.proofs.Structs.{reported_rules}
use Rattle.line_buffer.specs.Buffer.{new_buffer, pushed_all, buffer_asks}
use Rattle.answer_text.specs.declared.AnswerText.{AnswerText}
use Rattle.answer_text.specs.AnswerBytes.{text_of_bytes, written_bytes}
use Rattle.program_line.specs.Answered.{settings, program_scoring, program_search, report_text, position_text, reading_text, asked_text}
use Rattle.program_line.specs.Answered.{answer_line}
use Rattle.program_line.proofs.Answered.{line_is_answered}
use Rattle.demands.specs.Demand1.{depth_1_enters, searching, analysing, cell_checks, text_checks, numbers, digit, one_or_two_digits}
use Rattle.demands.specs.Demand1.{digits_say, program_config, answering, Answered, AnsweringLine}
use Rattle.demands.proofs.Demand1Calls.{analysis_number_is, reported_holds}
use Rattle.demands.proofs.Demand1Texts.{refusal_is_first_failed}

-- ---- tests
eqb_turned : (c : ℕ) → eqb 0x20 c ≡ false → eqb c 0x20 ≡ false
eqb_turned c e = ne_eqb c 0x20 (λ q. eqb-false 0x20 c e (sym q))

le_is_not_lt : (a b : ℕ) → leb a b ≡ not (ltb b a)
le_is_not_lt a b =
    same_by (leb a b) (not (ltb b a)) (λ t. not_T (ltb b a) (λ u. le_not_lt (leb→le a b t) (ltb→lt b a u)))
    (λ t. le→leb a b (nltb→le b a t))
  where
    le_not_lt : a ≤ b → b < a → ⊥
    le_not_lt h k = omega arith

-- ---- where it is parted
not_here : (c : ℕ) (cs : List ℕ) → T (not (elem 0x20 (c ∷ cs))) → (eqb c 0x20 ≡ false) × T (not (elem 0x20 cs))
unfolding elem
not_here c cs t = go (eqb 0x20 c) refl t
  where
    go : (b : Bool) → eqb 0x20 c ≡ b → T (not (b || elem 0x20 cs)) → (eqb c 0x20 ≡ false) × T (not (elem 0x20 cs))
    go true e u = absurd u
    go false e u = (eqb_turned c e, u)

parted_none : (line : List ℕ) → T (not (elem 0x20 line)) → parted line ≡ no_blank
unfolding parted when◌then◌else◌
parted_none [] t = refl
parted_none (c ∷ cs) t = let h = not_here c cs t in ap (parted_with c cs) (parted_none cs h.1) ∙ rw h.0

parted_last : (text rest : List ℕ) → T (not (elem 0x20 rest)) → parted (text ++ (0x20 ∷ rest)) ≡ around text rest
unfolding parted when◌then◌else◌
parted_last [] rest t = ap (parted_with 0x20 rest) (parted_none rest t)
parted_last (c ∷ text) rest t = ap (parted_with c (text ++ (0x20 ∷ rest))) (parted_last text rest t)

-- ---- the depth
same_digit : (c : ℕ) → is_digit c ≡ digit c
same_digit c = ap₂ ◌&&◌ (le_is_not_lt 0x30 c) (le_is_not_lt c 0x39)

depth_refused : (text rest : List ℕ) → T (not (one_or_two_digits rest)) → asks_with text (depth_of rest) ≡ no_depth
unfolding depth_of when◌then◌else◌
depth_refused text [] t = refl
depth_refused text (c ∷ []) t = rw (same_digit c, is_false (digit c) t)
depth_refused text (c ∷ d ∷ []) t = rw (same_digit c, same_digit d, is_false (digit c && digit d) t)
depth_refused text (c ∷ d ∷ e ∷ cs) t = refl

depth_said : (text rest : List ℕ) → T (one_or_two_digits rest) → asks_with text (depth_of rest) ≡ asks text (digits_say rest)
unfolding depth_of when◌then◌else◌
depth_said text [] t = absurd t
depth_said text (c ∷ []) t = rw (same_digit c, is_true (digit c) t)
depth_said text (c ∷ d ∷ []) t = rw (same_digit c, same_digit d, is_true (digit c && digit d) t)
depth_said text (c ∷ d ∷ e ∷ cs) t = absurd t

-- ---- lists of checks, and what is written by them: a check that fails has a number
abbrev Checks : Type 0
Checks = List (Bool × ℕ)

abbrev told : Checks → Bool
told cs = all (λ (t : Bool × ℕ). ltb 0 t.1 || t.0) cs

told_pass : (cs : Checks) → T (told cs) → first_failed cs ≡ 0 → T (all_pass cs)
unfolding all_pass all first_failed when◌then◌else◌
told_pass [] t e = tt
told_pass ((true, n) ∷ cs) t e = told_pass cs (and→ (ltb 0 n || true) _ t).1 e
told_pass ((false, n) ∷ cs) t e =
    absurd (subst (λ (k : ℕ). T (ltb 0 k || false)) e (and→ (ltb 0 n || false) _ t).0)

record Says (cs : Checks) (Right : List ℕ → Type 0) (written : List ℕ) : Type 0 where
  refused : (first_failed cs ≡ 0 → ⊥) → written ≡ refusal_text (first_failed cs)
  answered : first_failed cs ≡ 0 → Right written

module _ (cs ds : Checks) (Right : List ℕ → Type 0) where
  says_later : T (told cs) → first_failed cs ≡ 0 → (written : List ℕ) → Says ds Right written → Says (cs ++ ds) Right written
  says_later t e written h = let same = passed_++ cs ds (told_pass cs t e) in record {
    refused = λ k. h.refused (λ q. k (same ∙ q)) ∙ ap refusal_text (sym same);
    answered = λ k. h.answered (sym same ∙ k);
  }

  says_here : (n : ℕ) → n ≡ first_failed cs → (n ≡ 0 → ⊥) → Says (cs ++ ds) Right (refusal_text n)
  says_here n e k = let same = failed_++ cs ds (some_failed cs (λ q. k (e ∙ q))) in record {
    refused = λ _. ap refusal_text (e ∙ sym same);
    answered = λ q. absurd (k (e ∙ sym same ∙ q));
  }

not_0 : (n : ℕ) → T (not (eqb n 0)) → n ≡ 0 → ⊥
not_0 n t e = T_not (eqb n 0) t (subst (λ (k : ℕ). T (eqb k 0)) (sym e) tt)

text_told : (text : List ℕ) (parts : List (List ℕ)) → T (told (numbers (text_checks text parts)))
unfolding all
text_told text parts =
    let n = first_failed (cell_checks (get_or parts 2 []) (from 0 89)) in →and (ltb 0 n || eqb n 0) true (some_or_none n) tt
  where
    some_or_none : (n : ℕ) → T (ltb 0 n || eqb n 0)
    some_or_none zero = tt
    some_or_none (suc n) = →or_l (ltb 0 (suc n)) _ (lt→ltb 0 (suc n) (omega arith))

-- ---- a position's text and a depth
module _ (text : List ℕ) (depth : ℕ) where
  abbrev Right : List ℕ → Type 0
  Right = Answered text depth

  abbrev search_checks : Game → Checks
  search_checks g =
      (leb 1 depth && leb depth console.deepest, 15) ∷
      (leb (depth_1_enters empty_responses g (program_config depth) []) 1000000, 18) ∷ []

  abbrev later_checks : Reading → Checks
  later_checks x = analysing (game_for x) ++ search_checks (game_for x)

  module _ (p : Position) (e : read text ≡ reads p) where
    abbrev g : Game
    g = game_of p (hash p)

    known : ReadGame p
    known = read_gives_a_game text p e

    endgame_number : (analysis p).refusal ≡ first_failed (analysing g)
    endgame_number = ap (λ (q : Position). (analysis q).refusal) (sym known.means) ∙ analysis_number_is g

    program_searched : reported_of empty_responses g (program_config depth) [] ≡ program_search depth p
    program_searched =
        ap (λ (xs : List ℕ). reported (structs program_scoring) (settings depth) g (record { to_x = xs; to_o = xs }) []) (bytes_empty 256)
        ∙ reported_rules program_scoring (settings depth) g known.is_neat known.fresh no_responses []
        ∙ ap (program_search depth) known.means

    -- 16, 17 and 20 never come: allowance, words and weights are within the limits
    only_15_and_18 : first_failed (searching empty_responses g (program_config depth) []) ≡ first_failed (search_checks g)
    unfolding first_failed accepted_weights when◌then◌else◌
    only_15_and_18 = refl

    search_number : (program_search depth p).number ≡ first_failed (search_checks g)
    search_number = sym (ap (λ (x : Reported). x.number) program_searched)
        ∙ (reported_holds empty_responses g (program_config depth) []).number ∙ only_15_and_18

    report_says : Says (search_checks g) Right (report_text (analysis p).status (length (moves p)) (program_search depth p))
    unfolding report_text
    report_says = if_ind (Says (search_checks g) Right) (eqb (program_search depth p).number 0) _ _
        (λ t. record {
          refused = λ k. absurd (k (sym search_number ∙ eqb→eq _ 0 t));
          answered = λ _. (p, e, refl);
        })
        (λ t. record {
          refused = λ _. ap refusal_text search_number;
          answered = λ k. absurd (not_0 _ t (search_number ∙ k));
        })

    position_says : Says (later_checks (reads p)) Right (position_text p depth)
    unfolding position_text all
    position_says = if_ind (Says (later_checks (reads p)) Right) (eqb (analysis p).refusal 0) _ _
        (λ t. says_later (analysing g) (search_checks g) Right tt (sym endgame_number ∙ eqb→eq _ 0 t) _ report_says)
        (λ t. says_here (analysing g) (search_checks g) Right _ endgame_number (not_0 _ t))

  abbrev form : Checks
  form = numbers (text_checks text (sections text))

  reading_says : (x : Reading) → read text ≡ x → Says (form ++ later_checks x) Right (reading_text x depth)
  reading_says (reads p) e = says_later form (later_checks (reads p)) Right (text_told text (sections text))
      (sym (refusal_is_first_failed text) ∙ ap text_refusal e) _ (position_says p e)
  reading_says (refuses n o l) e = says_here form (later_checks (refuses n o l)) Right n
      (sym (ap text_refusal e) ∙ refusal_is_first_failed text) (λ q. omega (arith, refusal_is_1_to_6 text n o l e, q))

-- ---- the line
module _ (text rest : List ℕ) where
  rest_says : Says (answering text rest) (Answered text (digits_say rest)) (asked_text (asks_with text (depth_of rest)))
  unfolding all first_failed when◌then◌else◌
  rest_says =
      let head : Checks = (one_or_two_digits rest, 19) ∷ [] in
      let depth = digits_say rest in
      let later = form text depth ++ later_checks text depth (read text) in
      elim (is (one_or_two_digits rest)) [
        | inl t ↦ says_later head later (Answered text depth) tt (rw (is_true (one_or_two_digits rest) t)) _
            (subst (λ (q : Question). Says later (Answered text depth) (asked_text q)) (sym (depth_said text rest t))
            (reading_says text depth (read text) refl))
        | inr t ↦ subst (λ (q : Question). Says (head ++ later) (Answered text depth) (asked_text q)) (sym (depth_refused text rest t))
            (says_here head later (Answered text depth) 19 (rw (is_false (one_or_two_digits rest) t)) (λ q. omega (arith, q)))
      ]

  line_parted : (line : List ℕ) → line ≡ text ++ (0x20 ∷ rest) → T (not (elem 0x20 rest)) →
      answer_line line ≡ asked_text (asks_with text (depth_of rest))
  line_parted line e t = ap (λ (l : List ℕ). asked_text (asked_by (parted l))) e
      ∙ ap (λ (p : Parted). asked_text (asked_by p)) (parted_last text rest t)

pub answering_line_holds : (line : List ℕ) (r : AnswerText) →
    r ≡ text_of_bytes (asked_text (buffer_asks (pushed_all new_buffer line))) → AnsweringLine line (written_bytes r)
answering_line_holds line r h =
    let w = (line_is_answered line r h).written_is in
    record {
      no_blank = λ t. w ∙ ap (λ (p : Parted). asked_text (asked_by p)) (parted_none line t);
      refused = λ text rest e t k. w ∙ line_parted text rest line e t ∙ (rest_says text rest).refused k;
      answered = λ text rest e t k. subst (Answered text (digits_say rest)) (sym (w ∙ line_parted text rest line e t))
          ((rest_says text rest).answered k);
    }
