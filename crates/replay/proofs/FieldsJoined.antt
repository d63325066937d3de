-- A line of fields joined by tabs, none of which holds one: field k is the k-th.
use mathlib.Core.Path.{◌≡◌, refl, ap}
use mathlib.Core.Bool.{Bool, true, false, not, ◌&&◌}
use mathlib.Core.List.{List, [], ◌∷◌, ◌++◌}
use Prim.Native.Nat.{ℕ, zero, suc}
use lib.Dec.{T, eqb}
use lib.ListN.{get_or}
use Rattle.base.specs.Branch.{when◌then◌else◌}
use Rattle.base.specs.Lists.{all}
use Rattle.base.proofs.Bool.{and→}
use Rattle.replay.specs.Fields.{until_tab, past_tab, field}

abbrev tabless : List ℕ → Bool
tabless = all (λ b. not (eqb b 0x09))

-- what follows a field: nothing, or a tab and the rest
abbrev pub followed : List ℕ → List (List ℕ) → List ℕ
followed f [] = f
followed f (g ∷ gs) = f ++ (0x09 ∷ followed g gs)

abbrev pub joined : List (List ℕ) → List ℕ
joined [] = []
joined (f ∷ fs) = followed f fs

until_joined : (f rest : List ℕ) → T (tabless f) → until_tab (f ++ (0x09 ∷ rest)) ≡ f
unfolding until_tab all when◌then◌else◌
until_joined [] rest h = refl
until_joined (b ∷ bs) rest h = go (eqb b 0x09) h (λ t. until_joined bs rest t)
  where
    go : (c : Bool) → T (not c && tabless bs) → (T (tabless bs) → until_tab (bs ++ (0x09 ∷ rest)) ≡ bs) →
        (when c then (λ _. []) else λ _. b ∷ until_tab (bs ++ (0x09 ∷ rest))) ≡ b ∷ bs
    go true t k = absurd t
    go false t k = ap (λ (l : List ℕ). b ∷ l) (k t)

past_joined : (f rest : List ℕ) → T (tabless f) → past_tab (f ++ (0x09 ∷ rest)) ≡ rest
unfolding past_tab all when◌then◌else◌
past_joined [] rest h = refl
past_joined (b ∷ bs) rest h = go (eqb b 0x09) h (λ t. past_joined bs rest t)
  where
    go : (c : Bool) → T (not c && tabless bs) → (T (tabless bs) → past_tab (bs ++ (0x09 ∷ rest)) ≡ rest) →
        (when c then (λ _. bs ++ (0x09 ∷ rest)) else λ _. past_tab (bs ++ (0x09 ∷ rest))) ≡ rest
    go true t k = absurd t
    go false t k = k t

-- the last field
until_alone : (f : List ℕ) → T (tabless f) → until_tab f ≡ f
unfolding until_tab all when◌then◌else◌
until_alone [] h = refl
until_alone (b ∷ bs) h = go (eqb b 0x09) h (λ t. until_alone bs t)
  where
    go : (c : Bool) → T (not c && tabless bs) → (T (tabless bs) → until_tab bs ≡ bs) →
        (when c then (λ _. []) else λ _. b ∷ until_tab bs) ≡ b ∷ bs
    go true t k = absurd t
    go false t k = ap (λ (l : List ℕ). b ∷ l) (k t)

past_alone : (f : List ℕ) → T (tabless f) → past_tab f ≡ []
unfolding past_tab all when◌then◌else◌
past_alone [] h = refl
past_alone (b ∷ bs) h = go (eqb b 0x09) h (λ t. past_alone bs t)
  where
    go : (c : Bool) → T (not c && tabless bs) → (T (tabless bs) → past_tab bs ≡ []) →
        (when c then (λ _. bs) else λ _. past_tab bs) ≡ []
    go true t k = absurd t
    go false t k = k t

field_of_nothing : (k : ℕ) → field k [] ≡ []
unfolding field until_tab past_tab
field_of_nothing zero = refl
field_of_nothing (suc k) = field_of_nothing k

field_followed : (k : ℕ) (f : List ℕ) (fs : List (List ℕ)) → T (all tabless (f ∷ fs)) → field k (followed f fs) ≡ get_or (f ∷ fs) k []
unfolding field all
field_followed zero f [] h = until_alone f (and→ (tabless f) true h).0
field_followed (suc k) f [] h = rw (past_alone f (and→ (tabless f) true h).0) (field_of_nothing k)
field_followed zero f (g ∷ gs) h = until_joined f (followed g gs) (and→ (tabless f) (all tabless (g ∷ gs)) h).0
field_followed (suc k) f (g ∷ gs) h =
    rw (past_joined f (followed g gs) (and→ (tabless f) (all tabless (g ∷ gs)) h).0)
    (field_followed k g gs (and→ (tabless f) (all tabless (g ∷ gs)) h).1)

pub field_of_joined : (k : ℕ) (fs : List (List ℕ)) → T (all tabless fs) → field k (joined fs) ≡ get_or fs k []
field_of_joined k [] h = field_of_nothing k
field_of_joined k (f ∷ fs) h = field_followed k f fs h
