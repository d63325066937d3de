-- Digests of bytes (FNV-1a, 64 bits), and what is counted of a memory.
use Rattle.std.specs.Prelude.{not, cond, List, [], ◌∷◌, ◌++◌, ℕ, ◌+◌, ◌*◌, ◌%◌, ◌^◌, count_by, eqb, fold}
use Rattle.std.specs.Int.{w64, to_le_bytes}
use Rattle.std.specs.Int.Bits.{bit_xor}
use Rattle.base.specs.Lists.{concat_map}
use Rattle.rules.specs.Play.{no_move}
use Rattle.theory.specs.Memory.{Responses}

-- a byte more
unfoldable pub mixed : ℕ → ℕ → ℕ
mixed h b = bit_xor h b * 0x100000001b3 % 2 ^ 64

abbrev pub mixed_all : ℕ → List ℕ → ℕ
mixed_all h bytes = fold mixed h bytes

abbrev pub digest : List ℕ → ℕ
digest bytes = mixed_all 0xcbf29ce484222325 bytes

-- ---- response tables: those to X's moves, then those to O's
abbrev pub responses_digest : Responses → ℕ
responses_digest rs = digest (rs.to_x ++ rs.to_o)

abbrev pub response_count : Responses → ℕ
response_count rs = count_by (λ m. not (eqb m no_move)) (rs.to_x ++ rs.to_o)

-- ---- the table: eight bytes to a word, the lowest first, and three words to an entry, of which the third is 0 where there is none
abbrev pub table_digest : List ℕ → ℕ
table_digest words = digest (concat_map (to_le_bytes w64) words)

unfoldable pub entry_count : List ℕ → ℕ
entry_count [] = 0
entry_count (a ∷ []) = 0
entry_count (a ∷ b ∷ []) = 0
entry_count (a ∷ b ∷ c ∷ words) = cond (eqb c 0) 0 1 + entry_count words
