-- The moves and stats of a report: what the array functions give, the stats one by one, and the parts joined.
use mathlib.Core.Path.{◌≡◌, refl, sym, ap, ◌∙◌}
use mathlib.Core.List.{List, [], ◌∷◌, ◌++◌, map}
use Prim.Native.Nat.{ℕ, suc, ◌+◌, ◌*◌, ◌≤◌, ◌<◌}
use native.Mathlib.Omega.{arith}
use native.Mathlib.Numerals.{add-one}
use denote.Param.Members.{Mut}
use Rattle.std.specs.Fn.{Called}
use Rattle.std.specs.Array.{IsFromFnResult}
use Rattle.std.proofs.Common.{get_or-take, get_or-drop, length-take-le, ext_get_or, length-drop, length-append}
use Rattle.std.proofs.lemmas.List.{get_or-map, length-map}
use lib.ListN.{length, get_or, take, drop, drop_of_length-le}
use lib.Seq.{drop-cons, sets}
use Rattle.base.proofs.Arrays.{from_fn_each}
use Rattle.theory.specs.Deepening.{Stats as Meant}
use Rattle.theory.specs.Reported.{Reported}
use Rattle.boards.specs.declared.moves.Move.{Move}
use Rattle.minimax.specs.declared.Stats.{Stats}
use Rattle.minimax.specs.Report.{stats_of, byte_of, bytes_of}
use Rattle.interface.specs.Lent.{Puts}
use Rattle.interface.specs.Calls.{stats_words, all_stats, head_words, report_words}
use Rattle.interface.proofs.LentPlaces.{sets_join}

-- ---- what the library's array functions give
-- an array mapped, by a closure of the place that gives the same at each call
module _ {F A B : Type 0} (g : Mut F (ℕ × Unit {0}) B) (f : F) (h : A → B) (xs : List A) (d : A)
    (computes : (i : ℕ) (y : B) (q : F) → Called g f (i, tt) y q → (y ≡ h (get_or xs i d)) × (q ≡ f)) where
  pub each_made : (ys : List B) (n : ℕ) → length xs ≡ n → IsFromFnResult g f ys n → ys ≡ map h xs
  each_made ys n long r =
      ext_get_or (h d) ys (map h xs) (r.long ∙ sym long ∙ sym (length-map xs h)) λ k lt.
      from_fn_each g f (λ i y. y ≡ h (get_or xs i d)) computes (h d) ys 0 n r.each k (omega arith) (omega (arith, r.long))
      ∙ sym (get_or-map h xs k d (h d) (omega (arith, r.long)))

-- moves from bytes
module _ {F : Type 0} (g : Mut F (ℕ × Unit {0}) Move) (f : F) (h : ℕ → ℕ)
    (computes : (i : ℕ) (y : Move) (q : F) → Called g f (i, tt) y q → (y.bits ≡ h i) × (q ≡ f)) where
  pub moves_made : (ms : List Move) (bs : List ℕ) (at n : ℕ) → at + n ≤ length bs → IsFromFnResult g f ms n →
      ((k : ℕ) → k < n → h k ≡ get_or bs (at + k) 0) → bytes_of ms ≡ take n (drop at bs)
  moves_made ms bs at n fit r reads =
      ext_get_or 0 (bytes_of ms) (take n (drop at bs))
      (length-map ms byte_of ∙ r.long ∙ sym (length-take-le n (drop at bs) (simp length-drop (omega arith)))) λ k lt.
      let l : k < n = omega (arith, length-map ms byte_of, r.long) in
      get_or-map byte_of ms k (record { bits = 0 }) 0 (omega (arith, r.long))
      ∙ from_fn_each g f (λ i y. y.bits ≡ h i) computes (record { bits = 0 }) ms 0 n r.each k (omega arith) (omega arith)
      ∙ reads k l ∙ sym (get_or-take n (drop at bs) k 0 l ∙ get_or-drop at bs k 0)

-- ---- the stats of each depth, seven words at a time
pub stats_start : (l : List ℕ) (at : ℕ) (ss : List Stats) → sets l (at + 7 * 0) (all_stats (map stats_of (drop 0 ss)))
    ≡ sets l at (all_stats (map stats_of ss))
stats_start l at ss = ap (λ (k : ℕ). sets l k (all_stats (map stats_of ss))) (omega arith)

pub stats_next : (l m : List ℕ) (at i : ℕ) (ss : List Stats) (d : Stats) → i < length ss →
    m ≡ sets l (at + 7 * i) (stats_words (stats_of (get_or ss i d))) → sets m (at + 7 * (i + 1))
    (all_stats (map stats_of (drop (i + 1) ss))) ≡ sets l (at + 7 * i) (all_stats (map stats_of (drop i ss)))
unfolding all_stats
stats_next l m at i ss d h e =
    ap (λ (k : ℕ). sets m k (all_stats (map stats_of (drop (i + 1) ss)))) (omega arith)
    ∙ ap (λ (k : ℕ). sets m (at + 7 * i + 7) (all_stats (map stats_of (drop k ss)))) (add-one i)
    ∙ ap (λ (k : List ℕ). sets k (at + 7 * i + 7) (all_stats (map stats_of (drop (suc i) ss)))) e
    ∙ sets_join (stats_words (stats_of (get_or ss i d))) (all_stats (map stats_of (drop (suc i) ss))) l (at + 7 * i)
    ∙ sym (ap (λ (k : List Stats). sets l (at + 7 * i) (all_stats (map stats_of k))) (drop-cons ss i d h))

pub stats_end : (l m : List ℕ) (k i : ℕ) (ss : List Stats) → length ss ≤ i →
    sets l k (all_stats (map stats_of (drop i ss))) ≡ m → l ≡ m
unfolding all_stats
stats_end l m k i ss h e = sym (ap (λ (q : List Stats). sets l k (all_stats (map stats_of q))) (drop_of_length-le ss h)) ∙ e

-- ---- lists of the parts
-- the responses to X's moves, then those to O's
pub both_put : (l l₁ l₂ : List ℕ) (xs os : List Move) → length xs ≡ 256 → length os ≡ 256 →
    l₁ ≡ sets l 0 (bytes_of xs) → l₂ ≡ sets l₁ 256 (bytes_of os) → Puts l (bytes_of xs ++ bytes_of os) 512 l₂
both_put l l₁ l₂ xs os n k e f =
    let z : 256 ≡ 0 + length (bytes_of xs) = simp length-map (omega arith) in
    record {
      stored =
          f ∙ ap (λ (m : List ℕ). sets m 256 (bytes_of os)) e ∙ ap (λ (i : ℕ). sets (sets l 0 (bytes_of xs)) i (bytes_of os)) z
          ∙ sets_join (bytes_of xs) (bytes_of os) l 0;
      many = simp (length-append, length-map) (omega arith);
    }

all_stats_length : (ss : List Meant) → length (all_stats ss) ≡ 7 * length ss
unfolding all_stats
all_stats_length [] = refl
all_stats_length (s ∷ ss) = let h : length (all_stats ss) ≡ 7 * length ss = all_stats_length ss in omega arith

-- head, moves and stats
pub report_put : (l l₁ l₂ l₃ : List ℕ) (x : Reported) (refusal status : ℕ) → length x.pv ≡ 81 →
    length x.stats ≡ 81 → l₁ ≡ sets l 0 (head_words x refusal status) → l₂ ≡ sets l₁ 7 x.pv →
    l₃ ≡ sets l₂ 88 (all_stats x.stats) → Puts l (report_words x refusal status) 655 l₃
report_put l l₁ l₂ l₃ x refusal status n k e f g =
    let z : 88 ≡ 7 + length x.pv = omega arith in
    record {
      stored =
          g ∙ ap (λ (i : ℕ). sets l₂ i (all_stats x.stats)) z
          ∙ ap (λ (m : List ℕ). sets m (7 + length x.pv) (all_stats x.stats)) f
          ∙ sets_join x.pv (all_stats x.stats) l₁ 7
          ∙ ap (λ (m : List ℕ). sets m 7 (x.pv ++ all_stats x.stats)) e
          ∙ sets_join (head_words x refusal status) (x.pv ++ all_stats x.stats) l 0;
      many = simp length-append (omega (arith, all_stats_length x.stats));
    }
