-- What the texts of a move and of a position are refused with: a reading that gives an answer has passed the checks before it.
use Rattle.game.specs.Built.{new_game}
use Rattle.demands.proofs.Demand1Calls.{refused_value}
use Rattle.std.specs.Prelude.{Option, None, Some, Result, Ok, Err, IfOk}
use mathlib.Core.Path.{◌≡◌, refl, sym, ap, ◌∙◌, subst}
use mathlib.Core.Bool.{Bool, true, false, not, ◌||◌, ◌&&◌, or-false}
use mathlib.Core.List.{List, [], ◌∷◌}
use Prim.Native.Nat.{ℕ, suc, ◌+◌, ◌-◌, ◌%◌}
use native.Mathlib.Omega.{arith}
use lib.Dec.{T, eqb, leb, ltb, eqb→eq, leb→le, le→leb, not_T}
use lib.ListN.{length, get_or, drop}
use borrow.Author.Tests.{ne_eqb}
use Rattle.base.specs.Branch.{when◌then◌else◌}
use Rattle.base.specs.Lists.{all, from}
use Rattle.base.specs.Checks.{all_pass, first_failed}
use Rattle.base.proofs.Bool.{is}
use Rattle.base.proofs.Checks.{failed_at}
use Rattle.rules.specs.declared.Player.{Player}
use Rattle.rules.specs.declared.Player.TheVariants.{X, O}
use Rattle.rules.specs.declared.CellState.TheVariants.{Empty}
use Rattle.rules.specs.declared.GameState.TheVariants.{InPlay, Drawn}
use Rattle.rules.specs.Position.{Position}
use Rattle.rules.specs.Play.{move_of}
use Rattle.text.specs.Reading.{Reading, reads, refuses, side_of, won_mark, overall_mark, played_mark, cell_mark, known, sections, one_on}
use Rattle.text.specs.Reading.{text_refusal, first_bad, fault_at, first_fault, lone_side, read}
use Rattle.text.specs.MoveText.{MoveReading, reads_move, bad_length, bad_character, move_refusal, coordinate, read_letters, read_move}
use Rattle.text.proofs.Reading.{Parted, Sided, Marked, Answer as Answered, too_long, not_three, bad_side, not_nine, bad_mark, bad_cells}
use Rattle.text.proofs.Reading.{good, read_answers}
use Rattle.game.specs.declared.Game.{Game}
use Rattle.notation.specs.declared.ParseError.{ParseError}
use Rattle.notation.specs.Parsed.{parse_number, reading_of, Parses, move_reading_of, move_number, ParsesMove}
use Rattle.demands.specs.Demand1.{letters, ReadingMove, side_letter, good_mark, good_cell, marks_from, cell_checks, text_checks}
use Rattle.demands.specs.Demand1.{numbers, offsets, lengths, ReadingPosition}
use Rattle.rules.specs.Refusal.{answer_number}
use Rattle.boards.specs.declared.moves.Move.{Move}
use Rattle.notation.specs.declared.ParseMoveError.{ParseMoveError}
use Rattle.notation.specs.declared.ParseMoveError.TheVariants.{BadLength, BadCharacter}

-- ---- reading a move
-- what is claimed of a reading, by its checks and those that give the byte: its number, its byte, and its move
record ReadsSo (cs bytes : List (Bool × ℕ)) (m : ℕ) (x : MoveReading) : Type 0 where
  number : move_refusal x ≡ first_failed cs
  byte_is : move_refusal x ≡ 8 → x ≡ bad_character (first_failed bytes)
  read_is : (k : ℕ) → x ≡ reads_move k → k ≡ m

reads_length : (t : Bool) (cs bytes : List (Bool × ℕ)) (m : ℕ) → T (not t) → ReadsSo ((t, 7) ∷ cs) bytes m bad_length
unfolding all_pass all
reads_length t cs bytes m u = record {
  number = sym (failed_at [] cs t 7 tt u);
  byte_is = λ q. absurd (omega (arith, q));
  read_is = λ k q. absurd (omega (arith, ap move_refusal q));
}

reads_letters : (t u : Bool) (b c m : ℕ) → ReadsSo ((true, 7) ∷ (t, 8) ∷ (u, 8) ∷ []) ((t, b) ∷ (u, c) ∷ []) m
    (when t then (λ _. when u then (λ _. reads_move m) else λ _. bad_character c) else λ _. bad_character b)
unfolding first_failed when◌then◌else◌
reads_letters true true b c m =
    record { number = refl; byte_is = λ q. absurd (omega (arith, q)); read_is = λ k q. cc }
reads_letters true false b c m =
    record { number = refl; byte_is = λ _. refl; read_is = λ k q. absurd (omega (arith, ap move_refusal q)) }
reads_letters false u b c m =
    record { number = refl; byte_is = λ _. refl; read_is = λ k q. absurd (omega (arith, ap move_refusal q)) }

reads_so : (text : List ℕ) → ReadsSo ((eqb (length text) 2, 7) ∷ letters text 8 8) (letters text (get_or text 0 0) (get_or text 1 0))
    (move_of (get_or text 0 0 - 0x61) (get_or text 1 0 - 0x61)) (read_move text)
unfolding read_letters
reads_so [] = reads_length _ _ _ _ tt
reads_so (b ∷ []) = reads_length _ _ _ _ tt
reads_so (b ∷ c ∷ []) = reads_letters (coordinate b) (coordinate c) b c _
reads_so (b ∷ c ∷ d ∷ cs) =
    let n = length (b ∷ c ∷ d ∷ cs) in reads_length _ _ _ _ (not_T (eqb n 2) (λ t. omega (arith, eqb→eq n 2 t)))

answers_number : (r : Result Move ParseMoveError) → answer_number move_number r ≡ move_refusal (move_reading_of r)
answers_number (Ok m) = refl
answers_number (Err BadLength) = refl
answers_number (Err (BadCharacter c)) = refl

answers_byte : (r : Result Move ParseMoveError) (byte : ℕ) → move_reading_of r ≡ bad_character byte → r ≡ Err (BadCharacter byte)
answers_byte (Ok m) byte q = absurd (omega (arith, ap move_refusal q))
answers_byte (Err BadLength) byte q = absurd (omega (arith, ap move_refusal q))
answers_byte (Err (BadCharacter c)) byte q = cc

answers_move : (r : Result Move ParseMoveError) (m : ℕ) → ((k : ℕ) → move_reading_of r ≡ reads_move k → k ≡ m) →
    IfOk r (λ x. x.bits ≡ m)
answers_move (Ok x) m f = f x.bits refl
answers_move (Err why) m f = tt

pub reading_move_holds : (text : List ℕ) (r : Result Move ParseMoveError) → ParsesMove text r → ReadingMove text r
reading_move_holds text r h =
    let x = reads_so text in
    let number_is = answers_number r ∙ ap move_refusal h in record {
      number = number_is ∙ x.number;
      byte = λ e. answers_byte r _ (h ∙ x.byte_is (sym number_is ∙ e));
      refused = refused_value move_number _ r;
      accepted = answers_move r _ (λ k q. x.read_is k (sym h ∙ q));
    }

-- ---- reading a position
-- marks and cells: what is known passes the test, and nothing else
known_or : {A : Type 0} (t : Bool) (a : A) (o : Option A) → known (when t then (λ _. Some a) else λ _. o) ≡ (t || known o)
unfolding when◌then◌else◌
known_or true a o = refl
known_or false a o = refl

side_is : (c : ℕ) → known (side_of c) ≡ side_letter c
unfolding side_of
side_is c = known_or (eqb c 0x58) X _ ∙ ap (λ (t : Bool). eqb c 0x58 || t) (known_or (eqb c 0x4f) O None ∙ or-false (eqb c 0x4f))

known_won : (o : Option Player) → known (won_mark o) ≡ known o
known_won None = refl
known_won (Some w) = refl

mark_is : (c : ℕ) → known (overall_mark c) ≡ good_mark c
unfolding overall_mark
mark_is c = let a = eqb c 0x2e || eqb c 0x40 in
    known_or a InPlay _ ∙ ap (λ (t : Bool). a || t)
    (known_or (eqb c 0x23) Drawn _ ∙ ap (λ (t : Bool). eqb c 0x23 || t) (known_won (side_of c) ∙ side_is c))

known_played : (o : Option Player) → known (played_mark o) ≡ known o
known_played None = refl
known_played (Some w) = refl

cell_is : (c : ℕ) → known (cell_mark c) ≡ good_cell c
unfolding cell_mark
cell_is c = known_or (eqb c 0x2e) Empty _ ∙ ap (λ (t : Bool). eqb c 0x2e || t) (known_played (side_of c) ∙ side_is c)

-- the side
lone_is : (s : List ℕ) → known (lone_side s) ≡ (eqb (length s) 1 && side_letter (get_or s 0 0))
lone_is [] = refl
lone_is (c ∷ []) = side_is c
lone_is (c ∷ d ∷ ds) = sym (ap (λ (t : Bool). t && side_letter c) (ne_eqb (length (c ∷ d ∷ ds)) 1 (λ e. omega (arith, e))))

-- the first bad mark fails its check, at its offset; where there is none all pass
BadFrom : ℕ → List (Bool × ℕ) → Option ℕ → Type 0
BadFrom o cs None = T (all_pass cs)
BadFrom o cs (Some i) = T (not (all_pass cs)) × (first_failed cs ≡ o + i)

bad_from : (o : ℕ) (os : List ℕ) → BadFrom o (marks_from o os) (first_bad os)
unfolding BadFrom marks_from first_bad all_pass all first_failed when◌then◌else◌
bad_from o [] = tt
bad_from o (c ∷ os) = subst
    (λ (t : Bool). BadFrom o ((good_mark c, o) ∷ marks_from (suc o) os) (when t then (λ _. one_on (first_bad os)) else λ _. Some 0))
    (sym (mark_is c)) (by (good_mark c) (marks_from (suc o) os) (first_bad os) (bad_from (suc o) os))
  where
    by : (t : Bool) (cs : List (Bool × ℕ)) (b : Option ℕ) → BadFrom (suc o) cs b →
        BadFrom o ((t, o) ∷ cs) (when t then (λ _. one_on b) else λ _. Some 0)
    by true cs None h = h
    by true cs (Some i) h = (h.0, omega (arith, h.1))
    by false cs b h = (tt, omega arith)

-- the cells
faults_are : (cs is : List ℕ) → first_fault cs is ≡ first_failed (cell_checks cs is)
unfolding first_fault fault_at cell_checks first_failed when◌then◌else◌
faults_are cs [] = refl
faults_are cs (i ∷ is) =
    (λ j. let f = when eqb (i % 10) 9 then (λ _. when ltb i (length cs) && eqb (get_or cs i 0) 0x2f then (λ _. 0) else λ _. 5) else
    λ _. when not (ltb i (length cs)) then (λ _. 6) else λ _. when cell_is (get_or cs i 0) j then (λ _. 0) else λ _. 3 in
    when eqb f 0 then (λ _. faults_are cs is j) else λ _. f)
    ∙ by (eqb (i % 10) 9) (ltb i (length cs)) (eqb (get_or cs i 0) 0x2f) (good_cell (get_or cs i 0)) (cell_checks cs is)
  where
    by : (joint there slash ok : Bool) (ds : List (Bool × ℕ)) →
        (let f = when joint then (λ _. when there && slash then (λ _. 0) else λ _. 5) else
        λ _. when not there then (λ _. 6) else λ _. when ok then (λ _. 0) else λ _. 3 in
        when eqb f 0 then (λ _. first_failed ds) else λ _. f)
        ≡ first_failed ((not joint || (there && slash), 5) ∷ (joint || there, 6) ∷ (joint || ok, 3) ∷ ds)
    by true true true ok ds = refl
    by true true false ok ds = refl
    by true false slash ok ds = refl
    by false false slash ok ds = refl
    by false true slash true ds = refl
    by false true slash false ds = refl

-- a reading has the number and the place of the first check that fails
Fits : List (Bool × ℕ × ℕ × ℕ) → Reading → Type 0
Fits cs (reads p) = first_failed (numbers cs) ≡ 0
Fits cs (refuses n o l) = (first_failed (numbers cs) ≡ n) × (first_failed (offsets cs) ≡ o) × (first_failed (lengths cs) ≡ l)

passes : (t : Bool) (n o l : ℕ) (cs : List (Bool × ℕ × ℕ × ℕ)) (x : Reading) → T t → Fits cs x →
    Fits ((t, n, o, l) ∷ cs) x
unfolding Fits first_failed when◌then◌else◌
passes true n o l cs (reads p) t h = h
passes true n o l cs (refuses n' o' l') t h = h
passes false n o l cs x t h = absurd t

fails : (t : Bool) (n o l : ℕ) (cs : List (Bool × ℕ × ℕ × ℕ)) → T (not t) → Fits ((t, n, o, l) ∷ cs) (refuses n o l)
unfolding Fits first_failed when◌then◌else◌
fails true n o l cs t = absurd t
fails false n o l cs t = (refl, refl, refl)

all_passed : (p : Position) → Fits [] (reads p)
unfolding Fits first_failed
all_passed p = refl

known_some : {A : Type 0} (o : Option A) (a : A) → o ≡ Some a → T (known o)
known_some {A = A} o a e = subst (λ (x : Option A). T (known x)) (sym e) tt

-- three sections, the first of them a side's letter, the second nine good marks
module _ (text s os cs : List ℕ) (x : Reading) where
  abbrev parts : List (List ℕ)
  parts = s ∷ os ∷ cs ∷ []

  abbrev after_2 : List (Bool × ℕ × ℕ × ℕ)
  after_2 = drop 2 (text_checks text parts)

  parted : Parted text s os cs → Fits after_2 x → Fits (text_checks text (sections text)) x
  parted q h = subst (λ (ss : List (List ℕ)). Fits (text_checks text ss) x) (sym q.parts)
      (passes (leb (length text) 256) 1 0 0 _ x (le→leb _ _ q.short) (passes true 2 0 (length text) after_2 x tt h))

  sided : (w : Player) → Sided text s os cs w → Fits (drop 3 (text_checks text parts)) x → Fits (text_checks text (sections text)) x
  sided w q h = parted q.parted (passes _ 3 0 (length s) _ x (subst T (lone_is s) (known_some (lone_side s) w q.letter_is)) h)

  nine_marked : (w : Player) → Sided text s os cs w → length os ≡ 9 → Fits (drop 4 (text_checks text parts)) x →
      Fits (text_checks text (sections text)) x
  nine_marked w q n h = sided w q (passes (eqb (length os) 9) 4 2 (length os) _ x (subst (λ (k : ℕ). T (eqb k 9)) (sym n) tt) h)

  marked : (w : Player) → Marked text s os cs w → Fits (drop 5 (text_checks text parts)) x → Fits (text_checks text (sections text)) x
  unfolding BadFrom
  marked w q h = nine_marked w q.sided q.nine_marks
      (passes (all_pass (marks_from 2 os)) 5 (first_failed (marks_from 2 os)) 1 _ x
      (subst (BadFrom 2 (marks_from 2 os)) q.none_bad (bad_from 2 os)) h)

answer_fits : {text : List ℕ} {x : Reading} → Answered text x → Fits (text_checks text (sections text)) x
unfolding BadFrom
answer_fits {text} (too_long h) = fails (leb (length text) 256) 1 0 0 _
    (not_T (leb (length text) 256) (λ t. omega (arith, leb→le (length text) 256 t)))
answer_fits {text} (not_three h n) = passes (leb (length text) 256) 1 0 0 _ _ (le→leb _ _ h)
    (fails (eqb (length (sections text)) 3) 2 0 (length text) _ (not_T (eqb (length (sections text)) 3) (λ t. n (eqb→eq _ 3 t))))
answer_fits {text} (bad_side {s = s} {os = os} {cs = cs} q e) = parted text s os cs _ q (fails _ 3 0 (length s) _
    (subst (λ (t : Bool). T (not t)) (lone_is s) (subst (λ (o : Option Player). T (not (known o))) (sym e) tt)))
answer_fits {text} (not_nine {s = s} {os = os} {cs = cs} {w = w} q n) = sided text s os cs _ w q
    (fails (eqb (length os) 9) 4 2 (length os) _ (not_T (eqb (length os) 9) (λ t. n (eqb→eq _ 9 t))))
answer_fits {text} (bad_mark {s = s} {os = os} {cs = cs} {w = w} q n e) =
    let b = subst (BadFrom 2 (marks_from 2 os)) e (bad_from 2 os) in
    nine_marked text s os cs _ w q n
    (subst (λ (o : ℕ). Fits (drop 4 (text_checks text (s ∷ os ∷ cs ∷ []))) (refuses 5 o 1)) b.1
    (fails (all_pass (marks_from 2 os)) 5 (first_failed (marks_from 2 os)) 1 _ b.0))
answer_fits {text} (bad_cells {s = s} {os = os} {cs = cs} {w = w} q n) =
    let f = first_failed (cell_checks cs (from 0 89)) in let e = faults_are cs (from 0 89) in
    marked text s os cs _ w q (subst (λ (k : ℕ). Fits ((eqb f 0, f, 12, length cs) ∷ []) (refuses k 12 (length cs))) (sym e)
    (fails (eqb f 0) f 12 (length cs) [] (not_T (eqb f 0) (λ t. n (e ∙ eqb→eq f 0 t)))))
answer_fits {text} (good {s = s} {os = os} {cs = cs} {w = w} q z) =
    let f = first_failed (cell_checks cs (from 0 89)) in let e = faults_are cs (from 0 89) in
    marked text s os cs _ w q
    (passes (eqb f 0) f 12 (length cs) [] _ (subst (λ (k : ℕ). T (eqb k 0)) (sym (sym e ∙ z)) tt) (all_passed _))

fits_number : (cs : List (Bool × ℕ × ℕ × ℕ)) (x : Reading) → Fits cs x → text_refusal x ≡ first_failed (numbers cs)
unfolding Fits
fits_number cs (reads p) h = sym h
fits_number cs (refuses n o l) h = sym h.0

pub refusal_is_first_failed : (text : List ℕ) → text_refusal (read text) ≡ first_failed (numbers (text_checks text (sections text)))
refusal_is_first_failed text = fits_number _ (read text) (answer_fits (read_answers text))

answer_said : (r : Result Game ParseError) → answer_number parse_number r ≡ text_refusal (reading_of r)
answer_said (Ok g) = refl
answer_said (Err e) = refl

module _ (text : List ℕ) (r : Result Game ParseError) (h : Parses text r) where
  abbrev asked : List (Bool × ℕ × ℕ × ℕ)
  asked = text_checks text (sections text)

  fits : Fits asked (reading_of r)
  fits = subst (Fits asked) (sym h.says) (answer_fits (read_answers text))

  error_placed : (e : ParseError) → r ≡ Err e →
      (e.offset ≡ first_failed (offsets asked)) × (e.length ≡ first_failed (lengths asked))
  unfolding Fits
  error_placed e q = let f = subst (λ (a : Result Game ParseError). Fits asked (reading_of a)) q fits in (sym f.1, sym f.2)

  pub reading_position_holds : ReadingPosition text r
  reading_position_holds = record {
    number = answer_said r ∙ fits_number asked _ fits;
    offset_is = λ e q. (error_placed e q).0;
    length_is = λ e q. (error_placed e q).1;
    refused = refused_value parse_number new_game r;
  }
