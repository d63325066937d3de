-- What the operations of a search do to its memory: only entering a position counts, and a table that is off stays off and answers nothing.
use Rattle.std.specs.Prelude.{Option, None, Some}
use mathlib.Core.Path.{◌≡◌, refl, ap, ◌∙◌}
use mathlib.Core.List.{List, []}
use Prim.Native.Nat.{ℕ, suc, ◌<◌}
use lib.Dec.{T, T_not}
use lib.IntN.{ℤ}
use lib.ListN.{length, get_or}
use lib.Seq.{get_or-set_same}
use Rattle.base.proofs.Branch.{if_ind}
use Rattle.rules.specs.declared.Player.{Player}
use Rattle.rules.specs.declared.Player.TheVariants.{X, O}
use Rattle.rules.specs.Board.{other}
use Rattle.rules.specs.Play.{no_move}
use Rattle.theory.specs.Table.{Entry, off, look_up, store, suffices}
use Rattle.theory.specs.Memory.{Memory, with_table, begin, enter, leaf, hit, answered, responses_to, cut}
use Rattle.theory.specs.OrderedSearch.{Probed, known, missed, probed, probe, with_stored}

-- ---- the count
pub count_enter : (s : Memory) → (enter s).count ≡ suc s.count
unfolding enter
count_enter s = refl

pub count_begin : (s : Memory) → (begin s).count ≡ s.count
unfolding begin
count_begin s = refl

pub count_leaf : (s : Memory) → (leaf s).count ≡ s.count
unfolding leaf
count_leaf s = refl

pub count_hit : (s : Memory) → (hit s).count ≡ s.count
unfolding hit
count_hit s = refl

pub count_answered : (s : Memory) → (answered s).count ≡ s.count
unfolding answered
count_answered s = refl

pub count_cut : (w : Player) (s : Memory) (prev m : ℕ) → (cut w s prev m).count ≡ s.count
unfolding cut
count_cut X s prev m = refl
count_cut O s prev m = refl

pub count_told : (s : Memory) (key d : ℕ) (a b r : ℤ) (pv : List ℕ) → (with_stored s key d a b r pv).count ≡ s.count
unfolding with_stored
count_told s key d a b r pv = refl

-- what holds of the memory that a probe leaves
abbrev pub Leaves : (Memory → Type 0) → Probed → Type 0
Leaves P (known v m s) = P s
Leaves P (missed ms s) = P s

probed_leaves : (P : Memory → Type 0) (s : Memory) (d : ℕ) (a b : ℤ) (e : Option Entry) → P s → P (hit s) →
    P (answered (hit s)) → Leaves P (probed s d a b e)
unfolding probed
probed_leaves P s d a b None h k l = h
probed_leaves P s d a b (Some e) h k l = if_ind (Leaves P) (suffices e d a b) _ _ (λ _. l) (λ _. k)

pub count_probe : (s : Memory) (key d : ℕ) (a b : ℤ) → Leaves (λ z. z.count ≡ s.count) (probe s key d a b)
count_probe s key d a b =
    probed_leaves (λ z. z.count ≡ s.count) s d a b (look_up s.table key) refl (count_hit s) (count_answered (hit s) ∙ count_hit s)

-- ---- a cut by m, with w to move, becomes the response to the previous move, which the other side made
pub cut_remembers : (w : Player) (s : Memory) (prev m : ℕ)
    → prev < length (responses_to s (other w)) → get_or (responses_to (cut w s prev m) (other w)) prev no_move ≡ m
unfolding cut
cut_remembers X s prev m h = get_or-set_same s.responses.to_o prev m no_move h
cut_remembers O s prev m h = get_or-set_same s.responses.to_x prev m no_move h

-- ---- the table is off
abbrev pub Off : Memory → Type 0
Off s = T (off s.table)

pub off_enter : (s : Memory) → Off s → Off (enter s)
unfolding enter
off_enter s t = t

pub off_begin : (s : Memory) → Off s → Off (begin s)
unfolding begin
off_begin s t = t

pub off_leaf : (s : Memory) → Off s → Off (leaf s)
unfolding leaf
off_leaf s t = t

pub off_cut : (w : Player) (s : Memory) (prev m : ℕ) → Off s → Off (cut w s prev m)
unfolding cut
off_cut X s prev m t = t
off_cut O s prev m t = t

-- it has no entry
pub look_up_off : (words : List ℕ) (h : ℕ) → T (off words) → look_up words h ≡ None
unfolding look_up
look_up_off words h t = if_ind (λ e. e ≡ None) (off words) _ _ (λ _. refl) (λ u. absurd (T_not (off words) u t))

-- and takes none
pub store_off : (words : List ℕ) (h : ℕ) (e : Entry) → T (off words) → store words h e ≡ words
unfolding store
store_off words h e t = if_ind (λ l. l ≡ words) (off words) _ _ (λ _. refl) (λ u. absurd (T_not (off words) u t))

-- so a probe misses, with no move to try first
pub probe_off : (s : Memory) (key d : ℕ) (a b : ℤ) → Off s → probe s key d a b ≡ missed [] s
unfolding probed
probe_off s key d a b t = ap (probed s d a b) (look_up_off s.table key t)

-- and what is told is not kept
pub told_off : (s : Memory) (key d : ℕ) (a b r : ℤ) (pv : List ℕ) → Off s → with_stored s key d a b r pv ≡ s
unfolding with_stored
told_off s key d a b r pv t = ap (with_table s) (store_off s.table key _ t)
