-- Laws of reading: each answer with what it takes, and of a text that reads, what its position is like.
use Rattle.std.specs.Prelude.{Option, None, Some}
use mathlib.Core.Path.{◌≡◌, refl, ap, ◌∙◌, subst}
use mathlib.Core.Bool.{Bool, true, false, ◌&&◌}
use mathlib.Core.List.{List, [], ◌∷◌, ◌++◌}
use Prim.Native.Nat.{ℕ, suc, ◌+◌, ◌*◌, ◌≤◌, ◌<◌}
use native.Mathlib.Omega.{arith}
use borrow.Author.Tests.{lt-ltb}
use lib.Dec.{T, eqb, ltb, ltb→lt, lt→ltb, nltb→le, lit<, lit≤, T_not}
use lib.ListN.{length, get_or, length-append, get_or-append}
use Rattle.base.specs.Branch.{when◌then◌else◌}
use Rattle.base.specs.Lists.{from}
use Rattle.base.proofs.Bool.{and→, →and}
use Rattle.base.proofs.Branch.{if_ind, if_both}
use Rattle.base.proofs.Lists.{default_unused}
use Rattle.rules.specs.declared.Player.{Player}
use Rattle.rules.specs.declared.CellState.TheVariants.{Empty}
use Rattle.rules.specs.declared.GameState.TheVariants.{InPlay}
use Rattle.rules.specs.Board.{other, result_of}
use Rattle.rules.specs.Position.{Position, open_board, won_boards}
use Rattle.rules.specs.Sound.{next_board_open, proper}
use Rattle.rules.proofs.Board.{result_open}
use Rattle.rules.proofs.Play.{same_position}
use Rattle.rules.proofs.Sound.{→proper}
use Rattle.text.specs.Bytes.{semicolon, dot}
use Rattle.text.specs.Reading.{Reading, reads, refuses, overall_mark, cell_mark, or_else, sections, first_longer, first_bad}
use Rattle.text.specs.Reading.{fault_at, first_fault, cell_in, state_in, said, read_cells, read_marks, read_overall, lone_side}
use Rattle.text.specs.Reading.{read_side, read_sections, read}
use Rattle.text.proofs.ReadingScan.{if_equal, Clear, one_section, semicolons, section_count, last_at_cases, faultless_is_there}
use Rattle.text.proofs.ReadingScan.{no_fault, no_fault→, first_fault_at_most_6}

-- ---- the answers
-- the text is not too long and has three sections
pub record Parted (t s os cs : List ℕ) : Type 0 where
  pub short : length t ≤ 256
  pub parts : sections t ≡ s ∷ os ∷ cs ∷ []

-- and the first is w's letter
pub record Sided (t s os cs : List ℕ) (w : Player) : Type 0 where
  pub parted : Parted t s os cs
  pub letter_is : lone_side s ≡ Some w

-- and the second has nine marks, none of them bad
pub record Marked (t s os cs : List ℕ) (w : Player) : Type 0 where
  pub sided : Sided t s os cs w
  pub nine_marks : length os ≡ 9
  pub none_bad : first_bad os ≡ None

-- each answer, with what it takes
pub data Answer (t : List ℕ) : Reading → Type 0 where
  too_long : 256 < length t → Answer t (refuses 1 0 0)
  not_three : length t ≤ 256 → (length (sections t) ≡ 3 → ⊥) → Answer t (refuses 2 0 (length t))
  bad_side : {s os cs : List ℕ} → Parted t s os cs → lone_side s ≡ None → Answer t (refuses 3 0 (length s))
  not_nine : {s os cs : List ℕ} {w : Player} → Sided t s os cs w → (length os ≡ 9 → ⊥) → Answer t (refuses 4 2 (length os))
  bad_mark : {s os cs : List ℕ} {w : Player} {i : ℕ} → Sided t s os cs w → length os ≡ 9 → first_bad os ≡ Some i →
      Answer t (refuses 5 (2 + i) 1)
  bad_cells : {s os cs : List ℕ} {w : Player} → Marked t s os cs w → (first_fault cs (from 0 89) ≡ 0 → ⊥) →
      Answer t (refuses (first_fault cs (from 0 89)) 12 (length cs))
  good : {s os cs : List ℕ} {w : Player} → Marked t s os cs w → first_fault cs (from 0 89) ≡ 0 → Answer t (reads (said w os cs))

-- every text has its answer
pub read_answers : (t : List ℕ) → Answer t (read t)
unfolding read read_cells read_overall
read_answers t =
    if_ind (Answer t) (ltb 256 (length t)) _ _ (λ h. too_long (ltb→lt 256 (length t) h))
    (λ n. by_sections (nltb→le 256 (length t) n) (sections t) refl)
  where
    by_cells : (s os cs : List ℕ) (w : Player) → Marked t s os cs w → Answer t (read_cells w os cs)
    by_cells s os cs w m = if_equal (Answer t) (first_fault cs (from 0 89)) 0 _ _ (good m) (bad_cells m)

    by_marks : (s os cs : List ℕ) (w : Player) → Sided t s os cs w → length os ≡ 9 → (r : Option ℕ) → first_bad os ≡ r →
        Answer t (read_marks r w os cs)
    by_marks s os cs w q n None e = by_cells s os cs w (record { sided = q; nine_marks = n; none_bad = e })
    by_marks s os cs w q n (Some i) e = bad_mark q n e

    by_side : (s os cs : List ℕ) → Parted t s os cs → (r : Option Player) → lone_side s ≡ r → Answer t (read_side r s os cs)
    by_side s os cs q None e = bad_side q e
    by_side s os cs q (Some w) e =
        let d : Sided t s os cs w = record { parted = q; letter_is = e } in
        if_equal (Answer t) (length os) 9 _ _ (λ n. by_marks s os cs w d n (first_bad os) refl) (λ n. not_nine d n)

    by_sections : length t ≤ 256 → (ss : List (List ℕ)) → sections t ≡ ss → Answer t (read_sections ss (length t))
    by_sections h [] e = not_three h (λ n. omega (arith, ap length e))
    by_sections h (s ∷ []) e = not_three h (λ n. omega (arith, ap length e))
    by_sections h (s ∷ os ∷ []) e = not_three h (λ n. omega (arith, ap length e))
    by_sections h (s ∷ os ∷ cs ∷ []) e = by_side s os cs (record { short = h; parts = e }) (lone_side s) refl
    by_sections h (s ∷ os ∷ cs ∷ u ∷ us) e = not_three h (λ n. omega (arith, ap length e))

-- ---- as far as the tests are passed
read_short : (t : List ℕ) → length t ≤ 256 → read t ≡ read_sections (sections t) (length t)
unfolding read
read_short t h =
    if_ind (λ r. r ≡ read_sections (sections t) (length t)) (ltb 256 (length t)) _ _
    (λ u. absurd (omega (arith, ltb→lt 256 (length t) u))) (λ _. refl)

read_parted : {t s os cs : List ℕ} → Parted t s os cs → read t ≡ read_side (lone_side s) s os cs
read_parted {t} {s} {os} {cs} q = read_short t q.short ∙ ap (λ (ss : List (List ℕ)). read_sections ss (length t)) q.parts

read_sided : {t s os cs : List ℕ} {w : Player} → Sided t s os cs w → read t ≡ read_overall w os cs
read_sided {t} {s} {os} {cs} q = read_parted q.parted ∙ ap (λ (r : Option Player). read_side r s os cs) q.letter_is

read_nine : {t s os cs : List ℕ} {w : Player} → Sided t s os cs w → length os ≡ 9 → read t ≡ read_marks (first_bad os) w os cs
unfolding read_overall
read_nine {t} {s} {os} {cs} {w} q n =
    read_sided q ∙ if_equal (λ r. r ≡ read_marks (first_bad os) w os cs) (length os) 9 _ _ (λ _. refl) (λ m. absurd (m n))

read_marked : {t s os cs : List ℕ} {w : Player} → Marked t s os cs w → read t ≡ read_cells w os cs
read_marked {t} {s} {os} {cs} {w} q = read_nine q.sided q.nine_marks ∙ ap (λ (r : Option ℕ). read_marks r w os cs) q.none_bad

wrong_count : (ss : List (List ℕ)) (n : ℕ) → (length ss ≡ 3 → ⊥) → read_sections ss n ≡ refuses 2 0 n
wrong_count [] n m = refl
wrong_count (s ∷ []) n m = refl
wrong_count (s ∷ os ∷ []) n m = refl
wrong_count (s ∷ os ∷ cs ∷ []) n m = absurd (m refl)
wrong_count (s ∷ os ∷ cs ∷ u ∷ us) n m = refl

-- an answer that has what it takes is the one that is given
pub answer_is_read : {t : List ℕ} {r : Reading} → Answer t r → read t ≡ r
unfolding read read_cells read_overall
answer_is_read {t} (too_long h) =
    if_ind (λ r. r ≡ refuses 1 0 0) (ltb 256 (length t)) _ _ (λ _. refl)
    (λ n. absurd (T_not (ltb 256 (length t)) n (lt→ltb 256 (length t) h)))
answer_is_read {t} (not_three h n) = read_short t h ∙ wrong_count (sections t) (length t) n
answer_is_read (bad_side {s = s} {os = os} {cs = cs} q e) = read_parted q ∙ ap (λ (r : Option Player). read_side r s os cs) e
answer_is_read (not_nine {os = os} q n) = read_sided q ∙ if_equal (λ r. r ≡ refuses 4 2 (length os)) (length os) 9 _ _
    (λ e. absurd (n e)) (λ _. refl)
answer_is_read (bad_mark {os = os} {cs = cs} {w = w} q n e) = read_nine q n ∙ ap (λ (r : Option ℕ). read_marks r w os cs) e
answer_is_read (bad_cells {cs = cs} q n) =
    read_marked q ∙ if_equal (λ r. r ≡ refuses (first_fault cs (from 0 89)) 12 (length cs)) (first_fault cs (from 0 89)) 0 _ _
    (λ e. absurd (n e)) (λ _. refl)
answer_is_read (good {os = os} {cs = cs} {w = w} q e) =
    read_marked q ∙ if_equal (λ r. r ≡ reads (said w os cs)) (first_fault cs (from 0 89)) 0 _ _ (λ _. refl) (λ n. absurd (n e))

-- over 256 bytes is 1
pub too_long_is_1 : (t : List ℕ) → 256 < length t → read t ≡ refuses 1 0 0
too_long_is_1 t h = answer_is_read (too_long h)

-- ---- the numbers of the refusals
numbered : {t : List ℕ} {n o l : ℕ} → Answer t (refuses n o l) → (1 ≤ n) × (n ≤ 6)
numbered (too_long h) = (lit≤ tt, lit≤ tt)
numbered (not_three h n) = (lit≤ tt, lit≤ tt)
numbered (bad_side q e) = (lit≤ tt, lit≤ tt)
numbered (not_nine q n) = (lit≤ tt, lit≤ tt)
numbered (bad_mark q n e) = (lit≤ tt, lit≤ tt)
numbered (bad_cells {cs = cs} q n) = (omega (arith, n), first_fault_at_most_6 cs (from 0 89))

-- a refusal has one of the numbers 1 to 6
pub refusal_is_1_to_6 : (t : List ℕ) (n o l : ℕ) → read t ≡ refuses n o l → (1 ≤ n) × (n ≤ 6)
refusal_is_1_to_6 t n o l e = numbered (subst (Answer t) e (read_answers t))

-- ---- a text that reads: what holds of all that nine marks and cells can say holds of its position
said_ind {κ} : {t : List ℕ} {p : Position} (P : Position → Type κ) → ((w : Player) (os cs : List ℕ) → length os ≡ 9 →
    P (said w os cs)) → Answer t (reads p) → P p
said_ind P f (good {os = os} {cs = cs} {w = w} q e) = f w os cs q.nine_marks

module _ {κ} (P : Position → Type κ) (f : (w : Player) (os cs : List ℕ) → length os ≡ 9 → P (said w os cs)) (t : List ℕ)
    (p : Position) (e : read t ≡ reads p) where
  read_ind : P p
  read_ind = said_ind P f (subst (Answer t) e (read_answers t))

-- what a mark says of its board
pub state_in_at : (os : List ℕ) (b : ℕ) → b < 9 → b < length os → state_in os b ≡ or_else (overall_mark (get_or os b 0)) InPlay
unfolding state_in
state_in_at os b h l = if_ind (λ s. s ≡ or_else (overall_mark (get_or os b 0)) InPlay) (ltb b 9) _ _
    (λ _. ap (λ (c : ℕ). or_else (overall_mark c) InPlay) (default_unused os b dot 0 l))
    (λ n. absurd (T_not (ltb b 9) n (lt→ltb b 9 h)))

-- what a byte says of its cell
pub cell_in_at : (cs : List ℕ) (b c : ℕ) → b < 9 → c < 9 → 10 * b + c < length cs →
    cell_in cs b c ≡ or_else (cell_mark (get_or cs (10 * b + c) 0)) Empty
unfolding cell_in
cell_in_at cs b c h k l = if_ind (λ s. s ≡ or_else (cell_mark (get_or cs (10 * b + c) 0)) Empty) (ltb b 9 && ltb c 9) _ _
    (λ _. ap (λ (c : ℕ). or_else (cell_mark c) Empty) (default_unused cs (10 * b + c) dot 0 l))
    (λ n. absurd (T_not (ltb b 9 && ltb c 9) n (→and (ltb b 9) _ (lt→ltb b 9 h) (lt→ltb c 9 k))))

-- the board that is due has an `@`, so it reads as in play
said_due : (w : Player) (os cs : List ℕ) → length os ≡ 9 → T (next_board_open (said w os cs) (said w os cs).next_board)
unfolding said overall_mark when◌then◌else◌
said_due w os cs n = last_at_cases (λ d. T (next_board_open (said w os cs) d)) 0 os None (λ _. tt) (λ k h e _.
    let z : 0 + k ≡ k = omega arith in
    rw z (→and (ltb k 9) _ (lt→ltb k 9 (omega arith)) (rw (state_in_at os k (omega arith) h, e) tt)))

-- and an unfinished game has a board in play
pub said_is_proper : (w : Player) (os cs : List ℕ) → length os ≡ 9 → T (proper (said w os cs))
unfolding said
said_is_proper w os cs n =
    →proper (said w os cs) (said_due w os cs n) (λ o. (result_open (other w) (won_boards (said w os cs) (other w))
    (open_board (said w os cs)) o).1)

-- all that is read is proper
pub read_is_proper : (t : List ℕ) (p : Position) → read t ≡ reads p → T (proper p)
read_is_proper = read_ind (λ p. T (proper p)) said_is_proper

-- nothing stands beyond the nine boards of nine cells
pub record Filled (p : Position) : Type 0 where
  pub board_over : (b c : ℕ) → 8 < b → p.cells b c ≡ Empty
  pub cell_over : (b c : ℕ) → 8 < c → p.cells b c ≡ Empty
  pub state_over : (b : ℕ) → 8 < b → p.states b ≡ InPlay

-- marks and cells say nothing of what is beyond
pub said_fills : (w : Player) (os cs : List ℕ) → length os ≡ 9 → Filled (said w os cs)
unfolding said cell_in state_in
said_fills w os cs _ = record {
  board_over =
      λ b c h. if_ind (λ s. s ≡ Empty) (ltb b 9 && ltb c 9) _ _ (λ t. absurd (omega (arith, ltb→lt b 9 (and→ (ltb b 9) _ t).0)))
      (λ _. refl);
  cell_over =
      λ b c h. if_ind (λ s. s ≡ Empty) (ltb b 9 && ltb c 9) _ _ (λ t. absurd (omega (arith, ltb→lt c 9 (and→ (ltb b 9) _ t).1)))
      (λ _. refl);
  state_over = λ b h. if_ind (λ s. s ≡ InPlay) (ltb b 9) _ _ (λ t. absurd (omega (arith, ltb→lt b 9 t))) (λ _. refl);
}

-- what is read has nothing there
pub read_fills_the_board : (t : List ℕ) (p : Position) → read t ≡ reads p → Filled p
read_fills_the_board = read_ind Filled said_fills

-- the game's state is what the side not to move has left: only its lines are looked at
abbrev pub LeftByOther : Position → Type 0
LeftByOther p = p.state ≡ result_of (other p.turn) (won_boards p (other p.turn)) (open_board p)

-- and so it is in all that is read
pub read_looks_at_the_mover : (t : List ℕ) (p : Position) → read t ≡ reads p → LeftByOther p
unfolding said
read_looks_at_the_mover = read_ind LeftByOther (λ w os cs _. refl)

-- ---- the shortest text that reads: a letter, nine marks and 89 bytes, parted by two semicolons
-- the lengths of sections, each with the byte that parts it from the next
spread : List (List ℕ) → ℕ
spread [] = 0
spread (s ∷ ss) = suc (length s) + spread ss

spread_sections : (t : List ℕ) → spread (sections t) ≡ suc (length t)
unfolding sections spread when◌then◌else◌
spread_sections [] = refl
spread_sections (c ∷ cs) = go (eqb c semicolon) (sections cs) (spread_sections cs)
  where
    go : (b : Bool) (ss : List (List ℕ)) → spread ss ≡ suc (length cs) →
        spread (when b then (λ _. [] ∷ ss) else λ _. first_longer c ss) ≡ suc (suc (length cs))
    go true ss e = omega arith
    go false [] e = absurd (omega arith)
    go false (s ∷ ss) e = omega arith

-- without a fault all 89 bytes stand there
cells_there : (cs : List ℕ) → first_fault cs (from 0 89) ≡ 0 → (i : ℕ) → i < 89 → i < length cs
cells_there cs e i l = faultless_is_there cs i (no_fault→ cs 0 89 e i (omega arith) (omega arith))

shortest : {t : List ℕ} {p : Position} → Answer t (reads p) → 101 ≤ length t
unfolding spread
shortest {t} (good {s = s} {os = os} {cs = cs} m e) = omega (
  arith,
  spread_sections t,
  ap spread m.sided.parted.parts,
  lettered s m.sided.letter_is,
  m.nine_marks,
  cells_there cs e 88 (lit< tt),
)
  where
    lettered : {w : Player} (s : List ℕ) → lone_side s ≡ Some w → 1 ≤ length s
    lettered [] h = let z : ◌≡◌ {A = ℕ} 0 1 = cc in absurd (omega arith)
    lettered (c ∷ s) h = omega arith

pub shortest_is_101 : (t : List ℕ) (p : Position) → read t ≡ reads p → 101 ≤ length t
shortest_is_101 t p e = shortest (subst (Answer t) e (read_answers t))

-- ---- what follows the ninth board is ignored
-- a text without semicolons makes the last section longer
last_longer : List (List ℕ) → List ℕ → List (List ℕ)
last_longer [] u = u ∷ []
last_longer (s ∷ []) u = (s ++ u) ∷ []
last_longer (s ∷ s' ∷ ss) u = s ∷ last_longer (s' ∷ ss) u

sections_tail : (t u : List ℕ) → Clear u 0 (length u) → sections (t ++ u) ≡ last_longer (sections t) u
unfolding sections last_longer when◌then◌else◌
sections_tail [] u f = one_section u f
sections_tail (c ∷ cs) u f = rw (sections_tail cs u f) (go (eqb c semicolon) (sections cs) (section_count cs))
  where
    go : (b : Bool) (ss : List (List ℕ)) → length ss ≡ suc (semicolons cs) →
        when b then (λ _. [] ∷ last_longer ss u) else (λ _. first_longer c (last_longer ss u))
        ≡ last_longer (when b then (λ _. [] ∷ ss) else λ _. first_longer c ss) u
    go true [] e = absurd (omega arith)
    go true (s ∷ ss) e = refl
    go false [] e = absurd (omega arith)
    go false (s ∷ []) e = refl
    go false (s ∷ s' ∷ ss) e = refl

fault_kept : (cs u : List ℕ) (i : ℕ) → i < length cs → fault_at (cs ++ u) i ≡ fault_at cs i
unfolding fault_at
fault_kept cs u i h =
    let l : i < length (cs ++ u) = omega (arith, length-append cs u) in
    rw (lt-ltb i (length (cs ++ u)) l, lt-ltb i (length cs) h, get_or-append cs u 0 i h)

said_kept : (w : Player) (os cs u : List ℕ) → 88 < length cs → said w os (cs ++ u) ≡ said w os cs
unfolding said cell_in
said_kept w os cs u h = same_position (said w os (cs ++ u)) (said w os cs) refl refl
    (λ b c. if_both ◌≡◌ (ltb b 9 && ltb c 9) _ _ _ _ (λ t. inside b c (and→ (ltb b 9) _ t)) (λ _. refl))
    (λ _. refl) refl
  where
    inside : (b c : ℕ) → T (ltb b 9) × T (ltb c 9) → or_else (cell_mark (get_or (cs ++ u) (10 * b + c) dot)) Empty
        ≡ or_else (cell_mark (get_or cs (10 * b + c) dot)) Empty
    inside b c r = rw (get_or-append cs u dot (10 * b + c) (omega (arith, ltb→lt b 9 r.0, ltb→lt c 9 r.1)))

tailed : {t : List ℕ} {p : Position} (u : List ℕ) → Clear u 0 (length u) → length (t ++ u) ≤ 256 → Answer t (reads p) →
    read (t ++ u) ≡ reads p
unfolding last_longer
tailed {t} u f h (good {s = s} {os = os} {cs = cs} {w = w} m e) = answer_is_read (good marked faultless)
    ∙ ap reads (said_kept w os cs u (cells_there cs e 88 (lit< tt)))
  where
    faultless : first_fault (cs ++ u) (from 0 89) ≡ 0
    faultless = no_fault (cs ++ u) 0 89 (λ i a l. fault_kept cs u i (cells_there cs e i (omega arith)) ∙ no_fault→ cs 0 89 e i a l)

    marked : Marked (t ++ u) s os (cs ++ u) w
    marked = record {
      sided = record {
        parted =
            record {
              short = h;
              parts = sections_tail t u f ∙ ap (λ (ss : List (List ℕ)). last_longer ss u) m.sided.parted.parts;
            };
        letter_is = m.sided.letter_is;
      };
      nine_marks = m.nine_marks;
      none_bad = m.none_bad;
    }

-- further bytes, without a semicolon and within the bound, change nothing
pub tail_is_ignored : (t u : List ℕ) (p : Position) → read t ≡ reads p → Clear u 0 (length u) → length (t ++ u) ≤ 256 →
    read (t ++ u) ≡ reads p
tail_is_ignored t u p e f h = tailed u f h (subst (Answer t) e (read_answers t))
