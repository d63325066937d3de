-- A line taken up to the first line feed, and lines that line feeds part.
use mathlib.Core.Path.{◌≡◌, refl, sym, ap, ◌∙◌}
use mathlib.Core.Bool.{Bool, true, false, cond, not}
use mathlib.Core.List.{List, [], ◌∷◌, ◌++◌}
use Prim.Native.Nat.{ℕ, suc, ◌+◌, ◌-◌, ◌<◌, ◌≤◌}
use native.Mathlib.Decide.{dec_le}
use native.Mathlib.Omega.{arith}
use lib.Dec.{T, eqb, ltb}
use lib.ListN.{length, take, drop, drop_of_length-le, length-drop}
use lib.Seq.{take_all}
use borrow.Author.Tests.{eq-eqb, lt-ltb, le-ltb, ltb-true, ltb-false}
use Rattle.std.specs.Prelude.{Some, None, ◌==◌, position}
use Rattle.std.specs.List.{position_or_len}
use Rattle.std.proofs.lemmas.Option.{cond_some, none-some}
use Rattle.base.specs.Branch.{when◌then◌else◌}
use Rattle.base.specs.Lists.{all}
use Rattle.base.specs.LineFeed.{line_feed, UpToFeed, up_to_feed}
use Rattle.base.proofs.Bool.{and→}
use Rattle.base.proofs.LineFeed.{byte_taken, feed_found, rises_at}
use Rattle.line_buffer.specs.declared.LineBuffer.{LineBuffer}
use Rattle.line_buffer.specs.Buffer.{pushed, pushed_all}
use Rattle.line_buffer.specs.Taking.{buffered, after_feed}

-- ---- by the place of the first line feed
abbrev first : List ℕ → ℕ
first bytes = position_or_len (λ b. eqb b line_feed) bytes

abbrev taken_at : LineBuffer → List ℕ → ℕ → UpToFeed LineBuffer
taken_at h bytes n = record { line = pushed_all h (take n bytes); left = drop (n + 1) bytes; found = ltb n (length bytes) }

next_less : (n m : ℕ) → ltb (1 + n) (suc m) ≡ ltb n m
next_less n m = go (dec_le (suc n) m)
  where
    go : Dec (suc n ≤ m) → ltb (1 + n) (suc m) ≡ ltb n m
    go (yes h) = lt-ltb (1 + n) (suc m) (omega arith) ∙ sym (lt-ltb n m (omega arith))
    go (no h) = le-ltb (1 + n) (suc m) (omega arith) ∙ sym (le-ltb n m (omega arith))

taken_first : (h : LineBuffer) (bytes : List ℕ) → buffered h bytes ≡ taken_at h bytes (first bytes)
unfolding up_to_feed when◌then◌else◌
taken_first h [] = refl
taken_first h (b ∷ bs) = step (eqb b line_feed) (first bs) (buffered (pushed h b) bs) (taken_first (pushed h b) bs)
  where
    step : (c : Bool) (n : ℕ) (t : UpToFeed LineBuffer) → t ≡ taken_at (pushed h b) bs n →
        (when c then (λ _. record { line = h; left = bs; found = true }) else λ _. t) ≡ taken_at h (b ∷ bs) (cond (not c) (1 + n) 0)
    step true n t e = rw (lt-ltb 0 (length (b ∷ bs)) (omega arith))
    step false n t e =
        let one : 1 + n ≡ suc n = omega arith in
        let two : 1 + n + 1 ≡ suc (n + 1) = omega arith in
        e ∙ rw (two, sym (next_less n (length bs)), one)

module _ (h : LineBuffer) (bytes : List ℕ) where
  module _ (end : ℕ) (e : Some end ≡ position (λ b. b == line_feed) bytes) where
    pub feed_within : end < length bytes
    feed_within = let p = cond_some _ _ end (sym e) in rw p.1 at (ltb-true (first bytes) (length bytes) p.0)

    feed_at : buffered h bytes ≡ record { line = pushed_all h (take end bytes); left = drop (end + 1) bytes; found = true }
    feed_at = let p = cond_some _ _ end (sym e) in rw p.1 at (rw p.0 at (taken_first h bytes))

    pub feed_line : pushed_all h (take end bytes) ≡ (buffered h bytes).line
    feed_line = rw feed_at

    pub feed_rest : Some (take (length bytes - (end + 1)) (drop (end + 1) bytes)) ≡ after_feed (buffered h bytes)
    feed_rest = rw feed_at (ap Some (take_all _ (drop (end + 1) bytes) (omega (arith, length-drop (end + 1) bytes))))

  pub no_feed : None ≡ position (λ b. b == line_feed) bytes →
      buffered h bytes ≡ record { line = pushed_all h bytes; left = []; found = false }
  no_feed e = go (ltb (first bytes) (length bytes)) refl e
    where
      go : (c : Bool) → ltb (first bytes) (length bytes) ≡ c → None ≡ cond c (Some (first bytes)) None →
          buffered h bytes ≡ record { line = pushed_all h bytes; left = []; found = false }
      go true t e = absurd (none-some _ e)
      go false t e =
          let l = ltb-false (first bytes) (length bytes) t in
          let all : length bytes ≤ first bytes + 1 = omega (arith, l) in
          taken_first h bytes ∙ rw (t, take_all (first bytes) bytes l, drop_of_length-le bytes all) refl

-- where a line feed was met, fewer bytes are left
pub left_shorter : (h : LineBuffer) (bytes : List ℕ) → (buffered h bytes).found ≡ true →
    length (buffered h bytes).left < length bytes
left_shorter h bytes e = omega (arith, rises_at pushed bytes h 0 (length bytes - length (buffered h bytes).left) (omega arith) e)

-- ---- lines
abbrev pub Plain : List ℕ → Type 0
Plain line = T (all (λ b. not (eqb b line_feed)) line)

-- bytes with no line feed are pushed one by one, and what follows goes on with the line that they make: where a read ends makes no
-- difference
pub taken_append : (h : LineBuffer) (line bs : List ℕ) → Plain line → buffered h (line ++ bs) ≡ buffered (pushed_all h line) bs
unfolding all
taken_append h [] bs t = refl
taken_append h (b ∷ line) bs t =
    let u = and→ (not (eqb b line_feed)) _ t in
    byte_taken pushed h b (line ++ bs) (λ e. rw (eq-eqb b line_feed e) at u.0) ∙ taken_append (pushed h b) line bs u.1

-- a line feed ends it
pub whole_line_taken : (h : LineBuffer) (line bs : List ℕ) → Plain line → buffered h (line ++ (line_feed ∷ bs))
    ≡ record { line = pushed_all h line; left = bs; found = true }
whole_line_taken h line bs t = taken_append h line (line_feed ∷ bs) t ∙ feed_found pushed (pushed_all h line) line_feed bs refl
