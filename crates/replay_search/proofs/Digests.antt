-- Digests and counts, piece after piece; three digests that FNV's authors give.
use mathlib.Core.Path.{◌≡◌, refl, sym, ap, ◌∙◌}
use mathlib.Core.Bool.{Bool, true, false, cond, not}
use mathlib.Core.List.{List, [], ◌∷◌, ◌++◌}
use Prim.Native.Nat.{ℕ, zero, suc, ◌+◌, ◌<◌}
use native.Mathlib.Omega.{arith}
use lib.Dec.{eqb}
use lib.ListN.{length, get_or}
use Rattle.std.specs.Prelude.{count_by, fold}
use Rattle.std.specs.Int.{w64, to_le_bytes}
use Rattle.std.proofs.lemmas.List.Folds.{fold-map}
use Rattle.std.proofs.lemmas.List.Sums.{fold-append}
use mir.Val.{bool_byte}
use borrow.Author.Tests.{ne_eqb}
use Rattle.base.specs.Lists.{concat_map}
use Rattle.boards.specs.declared.moves.Move.{Move}
use Rattle.minimax.specs.Report.{bytes_of, byte_of}
use Rattle.replay_search.specs.Digests.{mixed, mixed_all, digest, entry_count}

-- ---- given digests: of no byte, of `a`, of `foobar`
digest_of_none : digest [] ≡ 0xcbf29ce484222325
digest_of_none = refl

digest_of_a : digest (0x61 ∷ []) ≡ 0xaf63dc4c8601ec8c
unfolding mixed
digest_of_a = refl

digest_of_foobar : digest (0x66 ∷ 0x6f ∷ 0x6f ∷ 0x62 ∷ 0x61 ∷ 0x72 ∷ []) ≡ 0x85944171f73967e8
unfolding mixed
digest_of_foobar = refl

-- ---- words of a table, each by its bytes
pub words_digest : (h : ℕ) (words : List ℕ) →
    fold (λ d w. mixed_all d (to_le_bytes w64 w)) h words ≡ mixed_all h (concat_map (to_le_bytes w64) words)
unfolding concat_map
words_digest h [] = refl
words_digest h (w ∷ ws) =
    words_digest (mixed_all h (to_le_bytes w64 w)) ws ∙ sym (fold-append mixed h (to_le_bytes w64 w) (concat_map (to_le_bytes w64) ws))

-- ---- how many moves pass a test, by their bytes
pub bytes_counted : (f : ℕ → Bool) (ms : List Move) → count_by f (bytes_of ms) ≡ count_by (λ m. f m.bits) ms
bytes_counted f ms = fold-map (λ n m. n + cond (f m) 1 0) byte_of 0 ms

-- ---- entries of a table
is_valid : (third : ℕ) → cond (eqb third 0) 0 1 ≡ bool_byte (not (eqb third 0))
is_valid zero = refl
is_valid (suc n) = let e : eqb (suc n) 0 ≡ false = ne_eqb (suc n) 0 (λ q. omega arith) in rw e

pub truth_below_2 : (b : Bool) → bool_byte b < 2
truth_below_2 true = omega arith
truth_below_2 false = omega arith

pub entry_next : (words entry rest : List ℕ) → words ≡ entry ++ rest → length entry ≡ 3 →
    (entry_count words ≡ bool_byte (not (eqb (get_or entry 2 0) 0)) + entry_count rest) × (length words ≡ 3 + length rest)
unfolding entry_count
entry_next words [] rest e h = absurd (omega arith)
entry_next words (a ∷ []) rest e h = absurd (omega arith)
entry_next words (a ∷ b ∷ []) rest e h = absurd (omega arith)
entry_next words (a ∷ b ∷ d ∷ []) rest e h =
    (rw e (ap (λ (n : ℕ). n + entry_count rest) (is_valid d)), rw e (omega arith))
entry_next words (a ∷ b ∷ d ∷ x ∷ xs) rest e h = absurd (omega arith)

pub entries_end : (words : List ℕ) → length words < 3 → entry_count words ≡ 0
unfolding entry_count
entries_end [] h = refl
entries_end (a ∷ []) h = refl
entries_end (a ∷ b ∷ []) h = refl
entries_end (a ∷ b ∷ d ∷ words) h = absurd (omega arith)
