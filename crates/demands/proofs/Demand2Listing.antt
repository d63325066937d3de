-- What a cursor has given, and what it has left.
use mathlib.Core.Path.{◌≡◌, refl, sym, ap, ◌∙◌, subst}
use mathlib.Core.List.{List, [], ◌∷◌, ◌++◌}
use Prim.Native.Nat.{ℕ, zero, suc, ◌+◌, ◌-◌, ◌≤◌, ◌<◌}
use native.Mathlib.Omega.{arith}
use lib.ListN.{length, set, take, drop, replicate, length-append, length-map}
use lib.Seq.{set_at, take_all}
use Rattle.base.specs.Lists.{filter, from}
use Rattle.base.specs.Bits.{bit}
use Rattle.base.proofs.Lists.{filter_short}
use Rattle.rules.specs.Play.{no_move}
use Rattle.theory.specs.Reported.{filled}
use Rattle.boards.specs.declared.moves.Move.{Move}
use Rattle.boards.specs.declared.moves.MoveIterator.{MoveIterator}
use Rattle.boards.specs.Cursor.{move_at, row_moves, moves_left}
use Rattle.minimax.specs.Report.{bytes_of}
use Rattle.minimax.proofs.ReportAnswers.{bytes_empty}
use Rattle.minimax.proofs.ReportPlaces.{bytes_set, drop_next, take_next, rest_next}

-- ---- lists
snoc_append : (xs : List ℕ) (n : ℕ) (ys : List ℕ) → (xs ++ (n ∷ [])) ++ ys ≡ xs ++ (n ∷ ys)
snoc_append [] n ys = refl
snoc_append (x ∷ xs) n ys = ap (λ (l : List ℕ). x ∷ l) (snoc_append xs n ys)

-- the first empty place is set
set_filled : (xs : List ℕ) (i n : ℕ) → length xs ≡ i → i < 81 →
    set (filled no_move xs) i n ≡ filled no_move (xs ++ (n ∷ []))
set_filled xs i n e h =
    let rest = replicate (81 - (i + 1)) no_move in
    ap (λ (k : ℕ). set (xs ++ replicate (81 - k) no_move) i n) e
    ∙ ap (λ (l : List ℕ). set (xs ++ l) i n) (rest_next i no_move h) ∙ set_at xs no_move rest n i e ∙ sym (snoc_append xs n rest)
    ∙ ap (λ (k : ℕ). (xs ++ (n ∷ [])) ++ replicate (81 - k) no_move)
    (sym (length-append xs (n ∷ []) ∙ ap (λ (k : ℕ). k + 1) e))

taken_length : (ms : List ℕ) (i n : ℕ) (ns : List ℕ) → drop i ms ≡ n ∷ ns → length (take i ms) ≡ i
taken_length ms zero n ns e = refl
taken_length [] (suc i) n ns e = absurd (let z : ◌≡◌ {A = ℕ} 0 1 = cc in omega arith)
taken_length (m ∷ ms) (suc i) n ns e = ap suc (taken_length ms i n ns e)

all_given : (ms : List ℕ) (i : ℕ) → drop i ms ≡ [] → (drop (suc i) ms ≡ []) × (take (suc i) ms ≡ take i ms)
all_given [] zero e = (refl, refl)
all_given [] (suc i) e = (refl, refl)
all_given (m ∷ ms) zero e = absurd (let z : ◌≡◌ {A = ℕ} 0 1 = cc in omega arith)
all_given (m ∷ ms) (suc i) e = let p = all_given ms i e in (p.0, ap (λ (l : List ℕ). m ∷ l) p.1)

-- ---- a cursor has 81 moves at most
row_short : (r n : ℕ) → length (row_moves r n) ≤ 27
unfolding row_moves
row_short r n = omega (arith, length-map (filter (bit n) (from 0 27)) (move_at r), filter_short (bit n) (from 0 27))

left_short : (it : MoveIterator) → length (moves_left it) ≤ 81
unfolding moves_left
left_short it = omega (
  arith,
  row_short 0 it.top,
  row_short 1 it.middle,
  row_short 2 it.bottom,
  length-append (row_moves 0 it.top) (row_moves 1 it.middle ++ row_moves 2 it.bottom),
  length-append (row_moves 1 it.middle) (row_moves 2 it.bottom),
)

-- ---- the cursor was asked i times for moves of ms: those are placed, and the others are left
pub record Listing (ms : List ℕ) (i : ℕ) (list : List Move) (left : MoveIterator) : Type 0 where
  pub most : i ≤ 81
  pub placed : bytes_of list ≡ filled no_move (take i ms)
  pub left_is : moves_left left ≡ drop i ms

-- asked once more, it gives the first of the moves left, or nothing
module _ (ms : List ℕ) (i : ℕ) (list : List Move) (left : MoveIterator) (h : Listing ms i list left) (more : i < 81) (j : ℕ)
    (j_is : j ≡ suc i) where
  pub listing_next : (m : Move) (rest : MoveIterator) → moves_left left ≡ m.bits ∷ moves_left rest → (list' : List Move) →
      list' ≡ set list i m → Listing ms j list' rest
  listing_next m rest e list' o = subst (λ (k : ℕ). Listing ms k list' rest) (sym j_is)
      (subst (λ (x : List Move). Listing ms (suc i) x rest) (sym o) (
      let d : drop i ms ≡ m.bits ∷ moves_left rest = sym h.left_is ∙ e in
      record {
        most = omega arith;
        placed =
            bytes_set list i m ∙ ap (λ (bs : List ℕ). set bs i m.bits) h.placed
            ∙ set_filled (take i ms) i m.bits (taken_length ms i m.bits _ d) more
            ∙ ap (filled no_move) (sym (take_next i ms _ m.bits d));
        left_is = sym (drop_next i ms _ m.bits d);
      }))

  pub listing_ended : moves_left left ≡ [] → (list' : List Move) → list' ≡ list → (left' : MoveIterator) → left' ≡ left →
      Listing ms j list' left'
  listing_ended e list' o left' f = subst (λ (k : ℕ). Listing ms k list' left') (sym j_is)
      (subst (λ (x : List Move). Listing ms (suc i) x left') (sym o) (subst (Listing ms (suc i) list) (sym f) (
      let d : drop i ms ≡ [] = sym h.left_is ∙ e in
      let p = all_given ms i d in
      record {
        most = omega arith;
        placed = h.placed ∙ ap (filled no_move) (sym p.1);
        left_is = e ∙ sym p.0;
      })))

pub listing_done : (it : MoveIterator) (i : ℕ) (list : List Move) (left : MoveIterator) → Listing (moves_left it) i list left →
    81 ≤ i → bytes_of list ≡ filled no_move (moves_left it)
listing_done it i list left h k = h.placed ∙ ap (filled no_move) (take_all i (moves_left it) (omega (arith, left_short it)))
