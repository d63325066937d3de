-- A line taken byte by byte: what one byte does, bytes one after the other, and what is left of them.
use mathlib.Core.Path.{◌≡◌, refl, sym, ap, ◌∙◌}
use mathlib.Core.Bool.{Bool, true, false, true≢false}
use mathlib.Core.List.{List, [], ◌∷◌, ◌++◌}
use Prim.Native.Nat.{ℕ, suc, ◌+◌, ◌-◌, ◌≤◌, ◌<◌}
use native.Mathlib.Numerals.{add-one}
use native.Mathlib.Omega.{arith}
use lib.Dec.{eqb}
use lib.ListN.{length, get_or, drop, drop_of_length-le, length-append, length-drop}
use lib.Seq.{drop-cons, drop-drop, drop-append_seam}
use borrow.Author.Tests.{eq-eqb, ne_eqb}
use Rattle.base.specs.Branch.{when◌then◌else◌}
use Rattle.base.specs.LineFeed.{line_feed, UpToFeed, up_to_feed}
use Rattle.base.proofs.Branch.{if_ind}

module _ {S : Type 0} (push : S → ℕ → S) where
  -- ---- one byte
  pub byte_taken : (s : S) (b : ℕ) (bs : List ℕ) → (b ≡ line_feed → ⊥) →
      up_to_feed push s (b ∷ bs) ≡ up_to_feed push (push s b) bs
  unfolding up_to_feed when◌then◌else◌
  byte_taken s b bs n = rw (ne_eqb b line_feed n)

  pub feed_found : (s : S) (b : ℕ) (bs : List ℕ) → b ≡ line_feed →
      up_to_feed push s (b ∷ bs) ≡ record { line = s; left = bs; found = true }
  unfolding up_to_feed when◌then◌else◌
  feed_found s b bs e = rw (eq-eqb b line_feed e)

  -- ---- bytes one after the other
  abbrev met : S → List ℕ → UpToFeed S
  met s bs = record { line = s; left = bs; found = true }

  after_byte : (c : Bool) (s : S) (xs ys : List ℕ) (m : List ℕ → UpToFeed S) →
      ((m xs).found ≡ false → m (xs ++ ys) ≡ up_to_feed push (m xs).line ys) →
      (when c then (λ _. met s xs) else λ _. m xs).found ≡ false →
      (when c then (λ _. met s (xs ++ ys)) else λ _. m (xs ++ ys))
      ≡ up_to_feed push (when c then (λ _. met s xs) else λ _. m xs).line ys
  unfolding when◌then◌else◌
  after_byte true s xs ys m h e = let z : ◌≡◌ {A = ℕ} 0 1 = cc in absurd (omega arith)
  after_byte false s xs ys m h e = h e

  -- if the first bytes hold no line feed, the others go on with the line that those make
  pub feed_append : (s : S) (xs ys : List ℕ) → (up_to_feed push s xs).found ≡ false →
      up_to_feed push s (xs ++ ys) ≡ up_to_feed push (up_to_feed push s xs).line ys
  unfolding up_to_feed
  feed_append s [] ys e = refl
  feed_append s (b ∷ xs) ys e =
      after_byte (eqb b line_feed) s xs ys (up_to_feed push (push s b)) (feed_append (push s b) xs ys) e

  -- ---- what is left: the last bytes, and not all where a line feed was met
  record LastBytes (bs : List ℕ) (t : UpToFeed S) : Type 0 where
    before : List ℕ
    whole : bs ≡ before ++ t.left
    some : t.found ≡ true → 0 < length before

  left_is_last : (s : S) (bs : List ℕ) → LastBytes bs (up_to_feed push s bs)
  unfolding up_to_feed
  left_is_last s [] = record { before = []; whole = refl; some = λ e. absurd (true≢false (sym e)) }
  left_is_last s (b ∷ bs) =
      let k = left_is_last (push s b) bs in
      if_ind (LastBytes (b ∷ bs)) (eqb b line_feed) _ _
      (λ _. record { before = b ∷ []; whole = refl; some = λ _. omega arith })
      (λ _. record { before = b ∷ k.before; whole = ap (◌∷◌ b) k.whole; some = λ _. omega arith })

  -- ---- the bytes of a list from a place on
  module _ (bytes : List ℕ) (s : S) (i : ℕ) where
    pub byte_taken_at : i < length bytes → (get_or bytes i 0 ≡ line_feed → ⊥) →
        up_to_feed push s (drop i bytes) ≡ up_to_feed push (push s (get_or bytes i 0)) (drop (i + 1) bytes)
    byte_taken_at l n = rw (drop-cons bytes i 0 l, add-one i) (byte_taken s (get_or bytes i 0) (drop (suc i) bytes) n)

    pub feed_found_at : i < length bytes → get_or bytes i 0 ≡ line_feed →
        up_to_feed push s (drop i bytes) ≡ record { line = s; left = drop (i + 1) bytes; found = true }
    feed_found_at l e = rw (drop-cons bytes i 0 l, add-one i) (feed_found s (get_or bytes i 0) (drop (suc i) bytes) e)

    pub all_taken_at : length bytes ≤ i → up_to_feed push s (drop i bytes) ≡ record { line = s; left = []; found = false }
    unfolding up_to_feed
    all_taken_at l = rw (drop_of_length-le bytes l)

    abbrev last : LastBytes (drop i bytes) (up_to_feed push s (drop i bytes))
    last = left_is_last s (drop i bytes)

    length_last : length (drop i bytes) ≡ length last.before + length (up_to_feed push s (drop i bytes)).left
    length_last = simp length-append at (ap length last.whole)

    -- the place past the bytes that were taken, the line feed among them
    module _ (at : ℕ) (at_is : at ≡ i + (length (drop i bytes) - length (up_to_feed push s (drop i bytes)).left)) where
      pub left_at : drop at bytes ≡ (up_to_feed push s (drop i bytes)).left
      left_at =
          let e : at ≡ i + length last.before = omega (arith, length_last) in
          ap (λ (n : ℕ). drop n bytes) e ∙ sym (drop-drop (length last.before) i bytes)
          ∙ ap (drop (length last.before)) last.whole ∙ drop-append_seam last.before _

      pub rises_at : (up_to_feed push s (drop i bytes)).found ≡ true → (i < at) × (at ≤ length bytes)
      rises_at f = let n = last.some f in (omega (arith, length_last), omega (arith, length_last, length-drop i bytes))
