-- The record by its kind, and whether it is apart.
use mathlib.Core.Path.{◌≡◌, sym, ap, ◌∙◌}
use mathlib.Core.Bool.{Bool, false}
use mathlib.Core.List.{List}
use Prim.Native.Nat.{ℕ}
use lib.ListN.{get_or, take}
use borrow.Author.Tests.{eq-eqb, ne_eqb}
use Rattle.base.specs.Branch.{when◌then◌else◌}
use Rattle.text.specs.Reading.{read}
use Rattle.replay.specs.Agreement.{same_numbers}
use Rattle.replay_notation.specs.Records.{byte_in, count_in, bytes_from_2, bytes_in, reading_record, move_record, byte_record}
use Rattle.replay_notation.specs.Records.{merge_record, play_record, won_record, expected_record, apart, is_apart}

pub bytes_are : (ns bytes : List ℕ) (n : ℕ) → n ≡ count_in ns → bytes ≡ bytes_from_2 ns → take n bytes ≡ bytes_in ns
bytes_are ns bytes n e f = ap (λ (k : ℕ). take k bytes) e ∙ ap (take (count_in ns)) f

module _ (ns : List ℕ) (kind : ℕ) (is : kind ≡ get_or ns 0 0) (r : Bool) where
  pub kind_6 : (bytes : List ℕ) → kind ≡ 6 → bytes ≡ bytes_in ns → r ≡ same_numbers ns (move_record bytes) →
      r ≡ same_numbers ns (expected_record ns)
  unfolding expected_record when◌then◌else◌
  kind_6 bytes k b e = rw (sym is ∙ k) (e ∙ ap (λ (bs : List ℕ). same_numbers ns (move_record bs)) b)

  pub kind_7 : (b : ℕ) → kind ≡ 7 → b ≡ byte_in ns 1 → r ≡ same_numbers ns (byte_record b) →
      r ≡ same_numbers ns (expected_record ns)
  unfolding expected_record when◌then◌else◌
  kind_7 b k f e = rw (sym is ∙ k) (e ∙ ap (λ (c : ℕ). same_numbers ns (byte_record c)) f)

  pub kind_8 : (a b : ℕ) → kind ≡ 8 → a ≡ byte_in ns 1 → b ≡ byte_in ns 2 → r ≡ same_numbers ns (merge_record a b) →
      r ≡ same_numbers ns (expected_record ns)
  unfolding expected_record when◌then◌else◌
  kind_8 a b k f g e =
      rw (sym is ∙ k) (e ∙ ap (λ (c : ℕ). same_numbers ns (merge_record c b)) f
      ∙ ap (λ (c : ℕ). same_numbers ns (merge_record (byte_in ns 1) c)) g)

  pub kind_9 : (bytes : List ℕ) → kind ≡ 9 → bytes ≡ bytes_in ns → r ≡ same_numbers ns (play_record bytes) →
      r ≡ same_numbers ns (expected_record ns)
  unfolding expected_record when◌then◌else◌
  kind_9 bytes k b e = rw (sym is ∙ k) (e ∙ ap (λ (bs : List ℕ). same_numbers ns (play_record bs)) b)

  pub kind_12 : (b : ℕ) → kind ≡ 12 → b ≡ byte_in ns 1 → r ≡ same_numbers ns (won_record b) →
      r ≡ same_numbers ns (expected_record ns)
  unfolding expected_record when◌then◌else◌
  kind_12 b k f e = rw (sym is ∙ k) (e ∙ ap (λ (c : ℕ). same_numbers ns (won_record c)) f)

  pub kind_of_text : (bytes : List ℕ) → (kind ≡ 6 → ⊥) → (kind ≡ 7 → ⊥) → (kind ≡ 8 → ⊥) →
      (kind ≡ 9 → ⊥) → (kind ≡ 12 → ⊥) → bytes ≡ bytes_in ns →
      r ≡ same_numbers ns (reading_record bytes (read bytes)) → r ≡ same_numbers ns (expected_record ns)
  unfolding expected_record when◌then◌else◌
  kind_of_text bytes a b c d f g e =
      rw (sym is, ne_eqb kind 6 a, ne_eqb kind 7 b, ne_eqb kind 8 c, ne_eqb kind 9 d, ne_eqb kind 12 f)
      (e ∙ ap (λ (bs : List ℕ). same_numbers ns (reading_record bs (read bs))) g)

  -- ---- apart
  pub other_kind_not_apart : (kind ≡ 4 → ⊥) → false ≡ is_apart ns
  other_kind_not_apart h = rw (sym is, ne_eqb kind 4 h)

  pub text_apart : (bytes : List ℕ) → kind ≡ 4 → bytes ≡ bytes_in ns → r ≡ apart bytes (read bytes) → r ≡ is_apart ns
  text_apart bytes k b e = rw (sym is, eq-eqb kind 4 k) (e ∙ ap (λ (bs : List ℕ). apart bs (read bs)) b)
