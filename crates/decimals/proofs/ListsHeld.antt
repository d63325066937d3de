-- What the count of a list that was read says of the words.
use mathlib.Core.Path.{◌≡◌, refl, sym, ap, ◌∙◌}
use mathlib.Core.List.{List}
use Prim.Native.Nat.{ℕ, ◌≤◌}
use native.Mathlib.Omega.{arith}
use lib.Dec.{leb, leb→le}
use lib.ListN.{length, take, drop}
use lib.Seq.{take_at}
use Rattle.std.specs.Prelude.{Option, Some, None, option_map}
use Rattle.base.proofs.Branch.{if_ind}
use Rattle.decimals.specs.Lists.{text_parts, numbers_of, at_most, list_of, ListRead}

pub at_most_fits : (room : ℕ) (o : Option (List ℕ)) (ns : List ℕ) → at_most room o ≡ Some ns → length ns ≤ room
at_most_fits room None ns = λ e. let z : ◌≡◌ {A = ℕ} 0 1 = cc in absurd (omega arith)
at_most_fits room (Some ms) ns =
    if_ind (λ (o : Option (List ℕ)). o ≡ Some ns → length ns ≤ room) (leb (length ms) room) _ _
    (λ t e. let q : ms ≡ ns = cc in omega (arith, leb→le (length ms) room t, ap length q))
    (λ t e. let z : ◌≡◌ {A = ℕ} 0 1 = cc in absurd (omega arith))

module _ (text words after : List ℕ) (r : Option ℕ) (p : ListRead text words r after) where
  -- no list
  pub none_read : r ≡ None → list_of (length words) text ≡ None
  none_read e = go (list_of (length words) text) (sym p.count_is ∙ e)
    where
      go : (o : Option (List ℕ)) → option_map length o ≡ None → o ≡ None
      go None h = refl
      go (Some ns) h = let z : ◌≡◌ {A = ℕ} 0 1 = cc in absurd (omega arith)

  module _ (n : ℕ) (e : r ≡ Some n) where
    -- the list is the first n words
    pub some_read : list_of (length words) text ≡ Some (take n after)
    some_read = go (list_of (length words) text) refl (sym p.count_is ∙ e)
      where
        go : (o : Option (List ℕ)) → list_of (length words) text ≡ o → option_map length o ≡ Some n → o ≡ Some (take n after)
        go None q h = let z : ◌≡◌ {A = ℕ} 0 1 = cc in absurd (omega arith)
        go (Some ns) q h =
            let l : length ns ≡ n = cc in
            sym (ap Some (ap (take n) (p.written ns q) ∙ take_at ns (drop (length ns) words) n l))

    -- and there was room for them
    pub read_fits : n ≤ length words
    read_fits = go (list_of (length words) text) refl (sym p.count_is ∙ e)
      where
        go : (o : Option (List ℕ)) → list_of (length words) text ≡ o → option_map length o ≡ Some n → n ≤ length words
        go None q h = let z : ◌≡◌ {A = ℕ} 0 1 = cc in absurd (omega arith)
        go (Some ns) q h = let l : length ns ≡ n = cc in omega (arith, at_most_fits (length words) (numbers_of (text_parts text)) ns q)
