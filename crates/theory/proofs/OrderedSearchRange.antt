-- A score stays within the root's window if every evaluation does: a score is an evaluation, an edge of a window within it, a table's
-- value, which is tested, or the negative of such a score, and the root's window is its own negative.
use Rattle.std.specs.Prelude.{Option, None, Some}
use mathlib.Core.List.{List, [], ◌∷◌}
use Prim.Native.Nat.{ℕ, zero, suc, ◌/◌, ◌%◌}
use lib.Dec.{leb, ltb}
use lib.IntN.{ℤ, neg_ℤ}
use lib.ListN.{replicate}
use lib.Signed.{le_z, lt_z, ◌≤ℤ◌, le_z_yes}
use Rattle.base.proofs.Bool.{and→}
use Rattle.base.proofs.Branch.{if_ind}
use Rattle.base.proofs.Integers.{hi, lo, zarith, ng}
use Rattle.rules.specs.Play.{no_move}
use Rattle.theory.specs.Game.{Game}
use Rattle.theory.specs.PlainMinimax.{lowest, highest}
use Rattle.theory.specs.Table.{Entry, from_word, entry_of, off, look_up, suffices}
use Rattle.theory.specs.Memory.{Memory, enter}
use Rattle.theory.specs.OrderedSearch.{Allowance, Outcome, Probed, known, missed, probed, probe, on_probe, set_first, candidates}
use Rattle.theory.specs.OrderedSearch.{Search, over_moves, search}
use Rattle.theory.proofs.OrderedSearch.{Gives, gives_found, gives_next, gives_entering}

abbrev Within : ℤ → Type 0
Within z = (lowest ≤ℤ z) × (z ≤ℤ highest)

within_neg : (z : ℤ) → Within z → Within (neg_ℤ z)
unfolding hi lo
within_neg z h = (omega (zarith, ng z, h.1), omega (zarith, ng z, h.0))

-- ---- a table's value
abbrev ValueWithin : Option Entry → Type 0
ValueWithin None = Unit {0}
ValueWithin (Some e) = Within e.value

entry_within : (value rest : ℕ) → ValueWithin (entry_of value rest)
unfolding entry_of
entry_within value rest = if_ind ValueWithin _ _ _
    (λ t. let u = and→ (le_z lowest (from_word value)) (le_z (from_word value) highest)
    (and→ (leb (rest / 65536) 255) _ (and→ (leb (rest / 256 % 256) 2) _
    (and→ (leb (rest % 256) 81) _ (and→ (ltb 0 (rest % 256)) _ t).1).1).1).1 in
    (le_z_yes u.0, le_z_yes u.1))
    (λ _. tt)

look_up_within : (words : List ℕ) (h : ℕ) → ValueWithin (look_up words h)
unfolding look_up
look_up_within words h = if_ind ValueWithin (off words) _ _ (λ _. tt) (λ _. if_ind ValueWithin _ _ _ (λ _. entry_within _ _) (λ _. tt))

abbrev KnownWithin : Probed → Type 0
KnownWithin (known v m s) = Within v
KnownWithin (missed ms s) = Unit {0}

probed_within : (s : Memory) (d : ℕ) (a b : ℤ) (e : Option Entry) → ValueWithin e → KnownWithin (probed s d a b e)
unfolding probed
probed_within s d a b None h = tt
probed_within s d a b (Some e) h = if_ind KnownWithin (suffices e d a b) _ _ (λ _. h) (λ _. tt)

-- ---- a score
abbrev ScoreWithin : ℤ → List ℕ → Memory → Type 0
ScoreWithin r _ _ = Within r

gives_probe_within : (x : Probed) (f : ℤ → ℕ → Memory → Outcome) (k : List ℕ → Memory → Outcome) → KnownWithin x →
    ((v : ℤ) (m : ℕ) (s : Memory) → Within v → Gives ScoreWithin (f v m s)) →
    ((ms : List ℕ) (s : Memory) → Gives ScoreWithin (k ms s)) → Gives ScoreWithin (on_probe x f k)
unfolding on_probe
gives_probe_within (known v m s) f k w h i = h v m s w
gives_probe_within (missed ms s) f k w h i = i ms s

module _ (G : Game) where
  module _ (below : Search G) (ranges : (p : G.Pos) (a b : ℤ) (pv : List ℕ) (prev : ℕ) (s : Memory) → Within a → Within b →
      Gives ScoreWithin (below p a b pv prev s)) (p : G.Pos) (b : ℤ) (wb : Within b) (prev : ℕ) where
    moves_range : (ms : List ℕ) (a : ℤ) (pv low : List ℕ) (s : Memory) → Within a →
        Gives ScoreWithin (over_moves G below p b prev ms a pv low s)
    unfolding over_moves
    moves_range [] a pv low s wa = gives_found ScoreWithin a pv s wa
    moves_range (m ∷ ms) a pv low s wa =
        gives_next ScoreWithin ScoreWithin _ _ (ranges (G.play p m) (neg_ℤ b) (neg_ℤ a) low m s (within_neg b wb) (within_neg a wa))
        (λ r low' s' wr. if_ind (Gives ScoreWithin) (lt_z a (neg_ℤ r)) _ _
        (λ _. if_ind (Gives ScoreWithin) (le_z b (neg_ℤ r)) _ _
        (λ _. gives_found ScoreWithin (neg_ℤ r) (m ∷ low') _ (within_neg r wr))
        (λ _. moves_range ms (neg_ℤ r) (m ∷ low') low' s' (within_neg r wr)))
        (λ _. moves_range ms a pv low' s' wa))

  module _ (values : (p : G.Pos) → Within (G.value p)) where
    search_within : (n : Allowance) (d : ℕ) (p : G.Pos) (a b : ℤ) (pv : List ℕ) (prev : ℕ) (s : Memory) → Within a →
        Within b → Gives ScoreWithin (search G n d p a b pv prev s)
    unfolding search
    search_within n zero p a b pv prev s wa wb = gives_entering ScoreWithin n s _ (gives_found ScoreWithin (G.value p) pv _ (values p))
    search_within n (suc d) p a b pv prev s wa wb = gives_entering ScoreWithin n s _ (if_ind (Gives ScoreWithin) (G.over p) _ _
        (λ _. gives_found ScoreWithin (G.value p) pv _ (values p))
        (λ _. gives_probe_within (probe (enter s) (G.key p) (suc d) a b) _ _
        (probed_within (enter s) (suc d) a b _ (look_up_within (enter s).table (G.key p)))
        (λ v m s₂ w. gives_found ScoreWithin v (set_first m pv) s₂ w)
        (λ first s₂. gives_next ScoreWithin ScoreWithin _ _
        (moves_range (search G n d) (search_within n d) p b wb prev (candidates G first s₂ p prev pv) a pv (replicate d no_move) s₂ wa)
        (λ r line' s₃ w. gives_found ScoreWithin r line' _ w))))

  -- for every game whose evaluations are within, with any allowance, with the table on or off
  pub search_range : ((p : G.Pos) → (lowest ≤ℤ G.value p) × (G.value p ≤ℤ highest)) →
      (n : Allowance) (d : ℕ) (p : G.Pos) (a b : ℤ) (pv : List ℕ) (prev : ℕ) (s : Memory) → lowest ≤ℤ a →
      a ≤ℤ highest → lowest ≤ℤ b → b ≤ℤ highest → Gives (λ r _ _. (lowest ≤ℤ r) × (r ≤ℤ highest))
      (search G n d p a b pv prev s)
  search_range values n d p a b pv prev s la ha lb hb = search_within values n d p a b pv prev s (la, ha) (lb, hb)
