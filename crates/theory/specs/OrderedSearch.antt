-- The ordered search: move by move in a given order, each scored by the same search one depth lower, as far as a window shows.
use Rattle.std.specs.Prelude.{Bool, true, List, [], ◌∷◌, ◌++◌, ℕ, zero, suc, ltb, ℤ, neg_ℤ, get_or, replicate, Option, None, Some}
use Rattle.std.specs.Int.Signed.{le_z, lt_z}
use Rattle.base.specs.Branch.{when◌then◌else◌}
use Rattle.base.specs.Lists.{elem}
use Rattle.rules.specs.Play.{no_move}
use Rattle.theory.specs.Game.{Game}
use Rattle.theory.specs.Table.{Entry, look_up, store, suffices, bound_of}
use Rattle.theory.specs.Memory.{Memory, with_table, enter, leaf, hit, answered, cut, hints}

-- ---- how many positions may be entered, over all depths
pub data Allowance : Type 0 where
  unlimited : Allowance
  at_most : ℕ → Allowance

abbrev pub has_room : Allowance → ℕ → Bool
has_room unlimited count = true
has_room (at_most n) count = ltb count n

-- ---- what a search gives: a score and a variation, or nothing if it was stopped; and the memory as the entered positions left it
pub data Outcome : Type 0 where
  stopped : Memory → Outcome
  found : ℤ → List ℕ → Memory → Outcome

unfoldable pub unless_stopped : Outcome → (ℤ → List ℕ → Memory → Outcome) → Outcome
unless_stopped (stopped s) k = stopped s
unless_stopped (found r l s) k = k r l s

-- one position more is counted and searched, or, where none is left of the allowance, the search stops
unfoldable pub entering : Allowance → Memory → (Memory → Outcome) → Outcome
entering n s k = when has_room n s.count then (λ _. k (enter s)) else λ _. stopped s

-- ---- the table, asked for a key at a depth and within the window from a to b: a value and its move; or the moves to be tried first
pub data Probed : Type 0 where
  known : ℤ → ℕ → Memory → Probed
  missed : List ℕ → Memory → Probed

unfoldable pub probed : Memory → ℕ → ℤ → ℤ → Option Entry → Probed
probed s depth a b None = missed [] s
probed s depth a b (Some e) =
    when suffices e depth a b then (λ _. known e.value e.move (answered (hit s))) else λ _. missed (e.move ∷ []) (hit s)

abbrev pub probe : Memory → ℕ → ℕ → ℤ → ℤ → Probed
probe s key depth a b = probed s depth a b (look_up s.table key)

unfoldable pub on_probe : Probed → (ℤ → ℕ → Memory → Outcome) → (List ℕ → Memory → Outcome) → Outcome
on_probe (known v m s) f g = f v m s
on_probe (missed ms s) f g = g ms s

-- the memory after storing the score r and the variation at a depth and within the window
unfoldable pub with_stored : Memory → ℕ → ℕ → ℤ → ℤ → ℤ → List ℕ → Memory
with_stored s key depth a b r pv =
    with_table s (store s.table key (record { value = r; depth = depth; bound = bound_of a b r; move = get_or pv 0 no_move }))

-- a table's answer sets the variation's first place alone
unfoldable pub set_first : ℕ → List ℕ → List ℕ
set_first m [] = []
set_first m (x ∷ l) = m ∷ l

-- ---- the order: of a list those that are accepted, each once; those seen already are passed over
unfoldable pub fresh : (ℕ → Bool) → List ℕ → List ℕ → List ℕ
fresh ok seen [] = []
fresh ok seen (m ∷ ms) =
    when elem m seen then (λ _. fresh ok seen ms) else
    λ _. when ok m then (λ _. m ∷ fresh ok (m ∷ seen) ms) else λ _. fresh ok (m ∷ seen) ms

module _ (G : Game) where
  -- the table's move; the response or the variation's move; the list of moves
  unfoldable pub candidates : List ℕ → Memory → G.Pos → ℕ → List ℕ → List ℕ
  candidates first s p prev pv = fresh (G.accepts p) [] (first ++ (hints (G.turn p) s prev pv ++ G.moves p))

  -- position, window from a to b, variation, previous move, memory
  abbrev pub Search : Type 0
  Search = G.Pos → ℤ → ℤ → List ℕ → ℕ → Memory → Outcome

  -- over the moves left: a is the lower edge by now, pv the variation, and low the variation of the position below, which its moves share.
  -- A better score raises the lower edge, and the variation is its move and the variation below; at the upper edge the moves left are cut
  unfoldable pub over_moves : Search → G.Pos → ℤ → ℕ → List ℕ → ℤ → List ℕ → List ℕ → Memory → Outcome
  over_moves below p b prev [] a pv low s = found a pv s
  over_moves below p b prev (m ∷ ms) a pv low s =
      unless_stopped (below (G.play p m) (neg_ℤ b) (neg_ℤ a) low m s) (λ r low' s'.
      when lt_z a (neg_ℤ r)
      then (λ _. when le_z b (neg_ℤ r)
      then (λ _. found (neg_ℤ r) (m ∷ low') (cut (G.turn p) s' prev m))
      else λ _. over_moves below p b prev ms (neg_ℤ r) (m ∷ low') low' s')
      else λ _. over_moves below p b prev ms a pv low' s')

  -- to a depth. The variation has as many places as the depth; those that nothing was found for stay as given
  unfoldable pub search : Allowance → ℕ → Search
  search n zero p a b pv prev s = entering n s (λ s₁. found (G.value p) pv (leaf s₁))
  search n (suc d) p a b pv prev s = entering n s (λ s₁.
      when G.over p then (λ _. found (G.value p) pv (leaf s₁)) else
      λ _. on_probe (probe s₁ (G.key p) (suc d) a b)
      (λ v m s₂. found v (set_first m pv) s₂)
      (λ first s₂. unless_stopped (over_moves (search n d) p b prev (candidates first s₂ p prev pv) a pv (replicate d no_move) s₂)
      (λ r pv' s₃. found r pv' (with_stored s₃ (G.key p) (suc d) a b r pv'))))
