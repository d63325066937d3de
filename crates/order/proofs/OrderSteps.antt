-- One step of a move order, and what a move order has left by all its steps.
use Rattle.std.specs.Prelude.{Option, None, Some, Ok, Err}
use mathlib.Core.Path.{◌≡◌, refl, sym, ap, ◌∙◌, subst}
use mathlib.Core.Bool.{Bool, true, false}
use mathlib.Core.List.{List, [], ◌∷◌, ◌++◌}
use Prim.Native.Nat.{ℕ, suc, ◌/◌, ◌≤◌, ◌<◌}
use native.Mathlib.Omega.{arith}
use lib.Dec.{T, T_not}
use lib.ListN.{length, take}
use lib.Ieee.Bits.{is_true}
use Rattle.base.specs.Branch.{when◌then◌else◌}
use Rattle.base.specs.Lists.{elem}
use Rattle.base.proofs.ListsAgree.{false_by}
use Rattle.base.proofs.Branch.{if_ind, if_both}
use Rattle.rules.specs.Play.{accepts}
use Rattle.rules.specs.Moves.{moves}
use Rattle.theory.specs.OrderedSearch.{fresh}
use Rattle.boards.specs.declared.moves.Move.{Move}
use Rattle.boards.specs.declared.moves.MoveError.{MoveError}
use Rattle.boards.proofs.Answers.{error_not_0}
use Rattle.game.specs.declared.Game.{Game}
use Rattle.game.specs.Meaning.{position_of}
use Rattle.game.specs.After.{Plays, game_after}
use Rattle.game.proofs.AfterRefusals.{nought_accepts, refused_not_accepts}
use Rattle.game.proofs.MeaningMoves.{all_moves_listed}
use Rattle.order.specs.declared.Seen.{Seen}
use Rattle.order.specs.declared.MovesLeft.{MovesLeft}
use Rattle.order.specs.declared.MoveOrder.{MoveOrder}
use Rattle.order.specs.declared.NextMove.{NextMove}
use Rattle.order.specs.Order.{
  marked,
  listed,
  all_left,
  new_order,
  without_next,
  set_mark,
  left_after,
  set_marks,
  order_after,
  found_after,
  Step,
  with_mark,
  step,
  step_of,
  number_met,
  NextOf,
  unmarked,
  order_left,
}
use Rattle.order.proofs.OrderMarks.{none_marked, seen_length, seen_again, one_more}

-- ---- a new order
pub new_order_means : (g : Game) (first second : Option Move) → (all_left (new_order g first second).left
    ≡ listed first ++ (listed second ++ moves (position_of g)))
    × ((k : ℕ) → marked (new_order g first second).seen k ≡ false)
unfolding all_left
new_order_means g first second = (rw (all_moves_listed g), none_marked)

-- ---- one move met
module _ (ok : ℕ → Bool) (seen : ℕ → Bool) (m : ℕ) (ms : List ℕ) where
  step_repeat : seen m ≡ true → step ok seen (m ∷ ms) ≡ step ok seen ms
  unfolding step when◌then◌else◌
  step_repeat e = rw e

  step_refused : seen m ≡ false → ok m ≡ false → step ok seen (m ∷ ms) ≡ step ok (with_mark seen m) ms
  unfolding step when◌then◌else◌
  step_refused e a = rw (e, a)

  step_accepted : seen m ≡ false → ok m ≡ true → step ok seen (m ∷ ms) ≡ record
      { found = Some m; marks = with_mark seen m; left = ms }
  unfolding step when◌then◌else◌
  step_accepted e a = rw (e, a)

-- no more are left than there were
step_left : (ok : ℕ → Bool) (seen : ℕ → Bool) (ms : List ℕ) → length (step ok seen ms).left ≤ length ms
unfolding step
step_left ok seen [] = omega arith
step_left ok seen (m ∷ ms) =
    if_ind (λ (s : Step). length s.left ≤ suc (length ms)) (seen m) _ _ (λ _. omega (arith, step_left ok seen ms))
    (λ _. if_ind (λ (s : Step). length s.left ≤ suc (length ms)) (ok m) _ _ (λ _. omega arith)
    (λ _. omega (arith, step_left ok (with_mark seen m) ms)))

abbrev ok : Game → ℕ → Bool
ok g = accepts (position_of g)

pub shorter : (ms : List ℕ) (m : ℕ) (rest : List ℕ) → ms ≡ m ∷ rest → length rest < length ms
shorter ms m rest e = rw e (omega arith)

some_none : {x : NextMove} → ◌≡◌ {A = Option NextMove} (Some x) None → ⊥
some_none e = let z : ◌≡◌ {A = ℕ} 0 1 = cc in omega arith

-- ---- two orders with the same step, which leaves the same
abbrev pub order_of : MovesLeft → Seen → MoveOrder
order_of left seen = record { left = left; seen = seen }

pub record SameStep (g : Game) (w v : MoveOrder) : Type 0 where
  pub step_is : step_of g w ≡ step_of g v
  pub order_is : order_after (number_met g w) w ≡ order_after (number_met g v) v

-- what comes back, by what the step is
next_by : (g : Game) (w : MoveOrder) (r : Option NextMove) (after : MoveOrder) (s : Step) → step_of g w ≡ s →
    r ≡ found_after g s.found → after ≡ order_after (number_met g w) w
    → ((k : ℕ) → marked after.seen k ≡ s.marks k) → all_left after.left ≡ s.left → NextOf g w r after
next_by g w r after s e m o k l = record {
  found_is = m ∙ sym (ap (λ (x : Step). found_after g x.found) e);
  order_is = o;
  marks_are = λ n. k n ∙ sym (ap (λ (x : Step). x.marks n) e);
  left_are = l ∙ sym (ap (λ (x : Step). x.left) e);
}

-- the next move is met
module _ (g : Game) (left : MovesLeft) (seen : Seen) (m : Move) (rest : MovesLeft)
    (e : (all_left left ≡ m.bits ∷ all_left rest) × (rest ≡ without_next left)) where
  -- it is gone and marked, and the others are met from there
  after_one_met : (new : Seen) → new ≡ set_mark seen m.bits → (n : ℕ) → order_after n (order_of rest new)
      ≡ order_after (suc n) (order_of left seen)
  unfolding left_after set_marks
  after_one_met new f n =
      (λ i. record { left = left_after n (e.1 i); seen = set_marks (f i) (take n (all_left rest)) })
      ∙ sym (λ i. record { left = left_after n (without_next left); seen = set_marks seen (take (suc n) (e.0 i)) })

  module _ (w : MoveOrder) (s : SameStep g (order_of left seen) w) (b : Bool) (f : b ≡ marked seen m.bits) where
    goes_on : (new : Seen) → new ≡ set_mark seen m.bits → step_of g (order_of rest new) ≡ step_of g (order_of left seen)
        → SameStep g (order_of rest new) w
    goes_on new n t =
        let l = step_left (ok g) (marked new) (all_left rest) in
        let k : suc (number_met g (order_of rest new)) ≡ number_met g (order_of left seen) = omega (
          arith,
          ap length e.0,
          ap (λ (x : Step). length x.left) t,
        ) in
        record {
          step_is = t ∙ s.step_is;
          order_is = after_one_met new n _ ∙ ap (λ (j : ℕ). order_after j (order_of left seen)) k ∙ s.order_is;
        }

    pub repeated : b ≡ true → SameStep g (order_of rest seen) w
    repeated h =
        goes_on seen (sym (seen_again seen m.bits (sym f ∙ h)))
        (sym (ap (step (ok g) (marked seen)) e.0 ∙ step_repeat (ok g) (marked seen) m.bits (all_left rest) (sym f ∙ h)))

    module _ (h : b ≡ false) (new : Seen) (n : new ≡ set_mark seen m.bits) (fits : m.bits / 64 < length new.marks) where
      more : (k : ℕ) → marked new k ≡ with_mark (marked seen) m.bits k
      more k =
          let l = ap (λ (x : Seen). length x.marks) n ∙ seen_length seen m.bits in
          ap (λ (x : Seen). marked x k) n ∙ one_more seen m.bits (omega arith) k

      pub refused : (r : MoveError) → Plays g m (Err r) → SameStep g (order_of rest new) w
      refused r p =
          let a : ok g m.bits ≡ false = false_by (ok g m.bits) (T_not (ok g m.bits)
          (refused_not_accepts (position_of g) m.bits (λ z. omega (arith, p.number, error_not_0 r)))) in
          goes_on new n ((λ i. step (ok g) (λ k. more k i) (all_left rest))
          ∙ sym (ap (step (ok g) (marked seen)) e.0
          ∙ step_refused (ok g) (marked seen) m.bits (all_left rest) (sym f ∙ h) a))

      pub accepted : (after : Game) → Plays g m (Ok after) → NextOf g w (Some (record { game = after; m = m })) (order_of rest new)
      unfolding left_after set_marks
      accepted after p =
          let a : ok g m.bits ≡ true = is_true (ok g m.bits) (nought_accepts (position_of g) m.bits (sym p.number)) in
          let t = ap (step (ok g) (marked seen)) e.0
          ∙ step_accepted (ok g) (marked seen) m.bits (all_left rest) (sym f ∙ h) a in
          let one : 1 ≡ number_met g (order_of left seen) = omega (arith, ap length e.0, ap (λ (x : Step). length x.left) t) in
          next_by g w _ _ _ (sym s.step_is ∙ t)
          (ap (λ (x : Game). Some (record { game = x; m = m })) p.exact)
          (after_one_met new n 0 ∙ ap (λ (k : ℕ). order_after k (order_of left seen)) one ∙ s.order_is) more refl

pub ended : (g : Game) (left last : MovesLeft) (seen : Seen) (w : MoveOrder) → (all_left left ≡ []) × (last ≡ left) →
    SameStep g (order_of left seen) w → NextOf g w None (order_of last seen)
unfolding step left_after set_marks
ended g left last seen w e s =
    let none : 0 ≡ number_met g (order_of left seen) = omega (arith, ap length e.0) in
    rw e.1 (next_by g w _ _ _ (sym s.step_is ∙ ap (step (ok g) (marked seen)) e.0) refl
    (ap (λ (k : ℕ). order_after k (order_of left seen)) none ∙ s.order_is) (λ k. refl) e.0)

-- ---- what a move order has left
module _ (ok : ℕ → Bool) where
  unmarked_listed : (seen ms : List ℕ) → unmarked ok (λ k. elem k seen) ms ≡ fresh ok seen ms
  unfolding unmarked fresh elem
  unmarked_listed seen [] = refl
  unmarked_listed seen (m ∷ ms) = λ i.
      when elem m seen then (λ _. unmarked_listed seen ms i) else
      λ _. when ok m then (λ _. m ∷ unmarked_listed (m ∷ seen) ms i) else λ _. unmarked_listed (m ∷ seen) ms i

  pub left_accepted : (seen : ℕ → Bool) (ms : List ℕ) (m : ℕ) (rest : List ℕ) → unmarked ok seen ms ≡ m ∷ rest → T (ok m)
  unfolding unmarked
  left_accepted seen [] m rest = λ e. absurd (let z : ◌≡◌ {A = ℕ} 0 1 = cc in omega arith)
  left_accepted seen (x ∷ ms) m rest = if_ind (λ l. l ≡ m ∷ rest → T (ok m)) (seen x) _ _ (λ _ e. left_accepted seen ms m rest e)
      (λ _. if_ind (λ l. l ≡ m ∷ rest → T (ok m)) (ok x) _ _ (λ t e. let q : x ≡ m = cc in subst (λ (z : ℕ). T (ok z)) q t)
      (λ _ e. left_accepted (with_mark seen x) ms m rest e))

  -- a step gives the first of those left, and leaves the others
  abbrev FirstOf : List ℕ → Step → Type 0
  FirstOf [] s = (s.found ≡ None) × (s.left ≡ [])
  FirstOf (m ∷ ms) s = (s.found ≡ Some m) × (unmarked ok s.marks s.left ≡ ms)

  step_first : (seen : ℕ → Bool) (ms : List ℕ) → FirstOf (unmarked ok seen ms) (step ok seen ms)
  unfolding unmarked step
  step_first seen [] = (refl, refl)
  step_first seen (m ∷ ms) = if_both FirstOf (seen m) _ _ _ _ (λ _. step_first seen ms)
      (λ _. if_both FirstOf (ok m) _ _ _ _ (λ _. (refl, refl)) (λ _. step_first (with_mark seen m) ms))

-- with no mark, the order's moves with no repeat
pub order_new : (g : Game) (w : MoveOrder) (ms : List ℕ) → (all_left w.left ≡ ms) ×
    ((k : ℕ) → marked w.seen k ≡ false)
    → order_left g w ≡ fresh (accepts (position_of g)) [] ms
unfolding elem
order_new g w ms e = (λ i. unmarked (ok g) (λ k. e.1 k i) (e.0 i)) ∙ unmarked_listed (ok g) [] ms

-- the next of those left and the game after it, with the rest; or nothing, with nothing left
abbrev pub NextIs : Game → List ℕ → Option NextMove → MoveOrder → Type 0
NextIs g [] r after = (r ≡ None) × (order_left g after ≡ [])
NextIs g (m ∷ ms) r after = (r ≡ found_after g (Some m)) × (order_left g after ≡ ms)

module _ (g : Game) (w : MoveOrder) (r : Option NextMove) (after : MoveOrder) (n : NextOf g w r after) where
  by_first : (ms : List ℕ) → FirstOf (ok g) ms (step_of g w) → NextIs g ms r after
  unfolding unmarked
  by_first [] f = (n.found_is ∙ ap (found_after g) f.0, ap (unmarked (ok g) (marked after.seen)) (n.left_are ∙ f.1))
  by_first (m ∷ ms) f = (
    n.found_is ∙ ap (found_after g) f.0,
    (λ i. unmarked (ok g) (λ k. n.marks_are k i) (n.left_are i)) ∙ f.1,
  )

  pub next_left : NextIs g (order_left g w) r after
  next_left = by_first (order_left g w) (step_first (ok g) (marked w.seen) (all_left w.left))

-- as the caller has it, by what came back
module _ (g : Game) (w after : MoveOrder) where
  pub next_ends : NextOf g w None after → (order_left g w ≡ []) × (order_left g after ≡ [])
  next_ends n = go (order_left g w) (next_left g w None after n)
    where
      go : (ms : List ℕ) → NextIs g ms None after → (ms ≡ []) × (order_left g after ≡ [])
      go [] i = (refl, i.1)
      go (m ∷ ms) i = absurd (some_none (sym i.0))

  pub next_goes : (child : NextMove) → NextOf g w (Some child) after →
      (order_left g w ≡ child.m.bits ∷ order_left g after) × (child.game ≡ game_after g child.m.bits)
  next_goes child n = go (order_left g w) (next_left g w (Some child) after n)
    where
      go : (ms : List ℕ) → NextIs g ms (Some child) after →
          (ms ≡ child.m.bits ∷ order_left g after) × (child.game ≡ game_after g child.m.bits)
      go [] i = absurd (some_none i.0)
      go (m ∷ ms) i =
          let c : child ≡ record { game = game_after g m; m = record { bits = m } } = cc in (
            λ j. ((sym (ap (λ (x : NextMove). x.m.bits) c)) j) ∷ (sym i.1 j),
            ap (λ (x : NextMove). x.game) c ∙ ap (game_after g) (sym (ap (λ (x : NextMove). x.m.bits) c)),
          )
