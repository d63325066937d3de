-- A line taken from a part of a buffer: what one byte does, and a read after another.
use mathlib.Core.Path.{◌≡◌, refl, sym, ap, ◌∙◌}
use mathlib.Core.Bool.{Bool, true, false, true≢false}
use mathlib.Core.Logic.{inl, inr}
use mathlib.Core.List.{List, [], ◌∷◌, ◌++◌, append_assoc, append-nil}
use Prim.Native.Nat.{ℕ, ◌+◌, ◌-◌, ◌≤◌, min}
use native.Mathlib.Omega.{arith}
use lib.Dec.{eqb}
use lib.ListN.{length, set, take, drop, length-take, length-drop, length-append}
use lib.Seq.{length-take-le, drop-drop}
use Rattle.std.proofs.lemmas.List.{take_min, drop_min, drop-take}
use Rattle.base.specs.Branch.{when◌then◌else◌}
use Rattle.base.specs.LineFeed.{line_feed, UpToFeed, up_to_feed}
use Rattle.base.proofs.LineFeed.{feed_append, rises_at}
use Rattle.input.specs.declared.InputLine.{InputLine}
use Rattle.input.specs.declared.Input.{Input}
use Rattle.input.specs.Lines.{longest, new_line, count_on, KeptLine, kept_with, line_taken, line_of, unused, new_input, line_read}
use Rattle.input.specs.Lines.{TakesLine, LastRead, ReadsLine}

-- ---- the bytes of the buffer that are not used
pub unused_is : (i : Input) (buffer : List ℕ) (start end : ℕ) → end ≡ min i.end (length buffer) → start ≡ min i.at end →
    take (end - start) (drop start buffer) ≡ unused i buffer
unused_is i buffer start end e s =
    let all = take i.end buffer in
    let whole : take end buffer ≡ all = rw e (take_min i.end buffer) in
    let first : start ≡ min i.at (length all) = s ∙ omega (arith, e, length-take i.end buffer) in
    let upto : start + (end - start) ≡ end = omega arith in
    sym (drop-take start (end - start) buffer)
    ∙ ap (λ (n : ℕ). drop start (take n buffer)) upto
    ∙ rw (whole, first) (drop_min i.at all)

-- ---- what was taken: the first n of these bytes
pub takes : (i : Input) (l : InputLine) (buffer kept xs : List ℕ) (n : ℕ) (m : InputLine) (j : Input) (after : List ℕ) →
    xs ≡ unused i buffer → line_taken l.length kept xs ≡ record
    { line = record { length = m.length; kept = after }; left = drop n xs; found = m.ended } →
    j.end ≡ i.end → j.at ≡ i.at + n → n ≤ length xs → TakesLine i l buffer kept m j after
takes i l buffer kept xs n m j after e t end_is at_is h =
    let all : line_taken l.length kept (unused i buffer) ≡ record
    { line = record { length = m.length; kept = after }; left = drop n xs; found = m.ended } = rw (← e) t in
    record {
      end_is = end_is;
      line_is = rw all;
      kept_is = rw all;
      left_is = rw (all, end_is, at_is, e) (sym (drop-drop n i.at (take i.end buffer)));
      at_is = rw all (omega (arith, at_is, h, length-drop n xs, ap (λ (ys : List ℕ). length ys) e));
    }

-- ---- a line that goes on has all bytes on it: its length is their number, up to the largest
byte_counted : (c : Bool) (s : KeptLine) (bs : List ℕ) (t : UpToFeed KeptLine) (k : ℕ) → (t.found ≡ false → t.line.length ≡ k) →
    (when c then (λ _. record { line = s; left = bs; found = true }) else λ _. t).found ≡ false →
    (when c then (λ _. record { line = s; left = bs; found = true }) else λ _. t).line.length ≡ k
unfolding when◌then◌else◌
byte_counted true s bs t k h e = absurd (true≢false e)
byte_counted false s bs t k h e = h e

pub all_counted : (n : ℕ) (kept bs : List ℕ) → n ≤ longest → (line_taken n kept bs).found ≡ false →
    (line_taken n kept bs).line.length ≡ min longest (n + length bs)
unfolding up_to_feed
all_counted n kept [] h e = omega arith
all_counted n kept (b ∷ bs) h e =
    byte_counted (eqb b line_feed) (record { length = n; kept = kept }) bs (line_taken (count_on n) (set kept n b) bs)
    (min longest (n + length (b ∷ bs))) (λ f. all_counted (count_on n) (set kept n b) bs (omega arith) f ∙ omega arith) e

-- ---- a read after another
-- each turn has read a byte
pub record Went (turns : ℕ) (i : Input) (buffer₀ kept₀ : List ℕ) (j : Input) (line : InputLine) (buffer kept : List ℕ) : Type 0 where
  pub came : List ℕ
  pub same : line_taken 0 kept₀ (unused i buffer₀ ++ came) ≡ line_taken line.length kept (unused j buffer)
  pub last_read : LastRead i buffer₀ came j buffer
  pub long : turns ≤ length came

module _ (i : Input) (buffer₀ kept₀ : List ℕ) where
  pub went_none : Went 0 i buffer₀ kept₀ i new_line buffer₀ kept₀
  went_none = record { came = []; same = rw append-nil; last_read = inl (refl, refl, refl, refl); long = omega arith }

  module _ (turns : ℕ) (j : Input) (line : InputLine) (buffer kept : List ℕ) (w : Went turns i buffer₀ kept₀ j line buffer kept)
      (m : InputLine) (k : Input) (after : List ℕ) (t : TakesLine j line buffer kept m k after) where
    same_line : m ≡ line_of (line_taken 0 kept₀ (unused i buffer₀ ++ w.came))
    same_line = rw w.same t.line_is

    pub went_on : (got : ℕ) (more : List ℕ) (turns' : ℕ) → m.ended ≡ false → got ≤ length more → turns' ≤ turns + got →
        Went turns' i buffer₀ kept₀ (record { at = 0; end = got }) m more after
    went_on got more turns' e fits h =
        let s = w.same in
        let bytes = take got more in
        let n : length bytes ≡ got = length-take-le got more fits in
        let f : (line_taken 0 kept₀ (unused i buffer₀ ++ w.came)).found ≡ false =
        sym (ap (λ (l : InputLine). l.ended) same_line) ∙ e in
        record {
          came = w.came ++ bytes;
          same = rw (
            ← append_assoc (unused i buffer₀) w.came bytes,
            feed_append kept_with (record { length = 0; kept = kept₀ }) (unused i buffer₀ ++ w.came) bytes f,
            s,
            t.line_is,
            t.kept_is,
          );
          last_read = inr (w.came, refl, omega arith, fits);
          long = omega (arith, w.long, n, length-append w.came bytes);
        }

    -- what is taken stands in the same buffer
    still_last : LastRead i buffer₀ w.came j buffer → LastRead i buffer₀ w.came k buffer
    still_last (inl h) =
        let same : k.at + length (unused k buffer) ≡ j.at + length (unused j buffer) =
        ap (λ (l : List ℕ). k.at + length l) t.left_is ∙ t.at_is in
        inl (h.0, t.end_is ∙ h.1, h.2, same ∙ h.3)
    still_last (inr h) =
        let within : length (unused j buffer) ≤ j.end - j.at =
        omega (arith, length-drop j.at (take j.end buffer), length-take j.end buffer) in
        inr (h.0, rw t.end_is h.1, omega (arith, t.end_is, t.at_is, within, h.2), omega (arith, t.end_is, h.3))

    -- what is taken at last
    pub reads : (m.ended ≡ false → longest ≤ turns) → ReadsLine i buffer₀ kept₀ (line_read false m) k buffer after
    reads last =
        let all = unused i buffer₀ ++ w.came in
        record {
          came = w.came;
          failed = false;
          last_read = still_last w.last_read;
          line_is = ap (line_read false) same_line;
          kept_is = rw w.same t.kept_is;
          left_is = rw w.same t.left_is;
          ends = λ e. inr (all_counted 0 kept₀ all (omega arith) e
              ∙ omega (arith, w.long, last (ap (λ (l : InputLine). l.ended) same_line ∙ e), length-append (unused i buffer₀) w.came));
          feed_last = λ e.
              let f : (line_taken line.length kept (unused j buffer)).found ≡ true = rw (← w.same) e in
              let h = rises_at kept_with (unused j buffer) (record { length = line.length; kept = kept }) 0
              (length (unused j buffer) - length (line_taken line.length kept (unused j buffer)).left) (omega arith) f in
              omega (arith, t.at_is, h);
          failed_ends = λ f. absurd (true≢false (sym f));
        }

-- the last read gave nothing, or failed
pub reads_end : (i : Input) (buffer₀ kept₀ : List ℕ) (turns : ℕ) (line : InputLine) (buffer kept : List ℕ) (failed : Bool) →
    line.ended ≡ false → Went turns i buffer₀ kept₀ new_input line buffer kept →
    ReadsLine i buffer₀ kept₀ (line_read failed line) new_input buffer kept
unfolding up_to_feed
reads_end i buffer₀ kept₀ turns line buffer kept failed e w =
    let s : line_taken 0 kept₀ (unused i buffer₀ ++ w.came) ≡ record
    { line = record { length = line.length; kept = kept }; left = []; found = false } = w.same in
    let same : line ≡ record { length = line.length; ended = false } = λ i. record { length = line.length; ended = e i } in
    record {
      came = w.came;
      failed = failed;
      last_read = w.last_read;
      line_is = rw s (ap (line_read failed) same);
      kept_is = rw s;
      left_is = rw s;
      ends = λ _. inl refl;
      feed_last = λ e. absurd (true≢false (sym (sym (ap (λ (t : UpToFeed KeptLine). t.found) s) ∙ e)));
      failed_ends = λ _. (rw s, refl);
    }
