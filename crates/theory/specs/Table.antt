-- The table: words of 64 bits, three for each entry (the hash; the value; depth, bound and move in one word).
use Rattle.std.specs.Prelude.{Bool, true, ◌&&◌, List, ℕ, zero, suc, ◌+◌, ◌-◌, ◌*◌, ◌/◌, ◌%◌, eqb, leb, ltb, ℤ, pos, Option, None, Some}
use Rattle.std.specs.Prelude.{negsuc, length, get_or, set}
use Rattle.std.specs.Int.Signed.{le_z}
use Rattle.base.specs.Branch.{when◌then◌else◌}
use Rattle.theory.specs.Limits.{console}
use Rattle.theory.specs.PlainMinimax.{lowest, highest}

pub record Entry : Type 0 where
  pub value : ℤ
  pub depth : ℕ
  -- 0 Exact, 1 AtLeast, 2 AtMost
  pub bound : ℕ
  pub move : ℕ

-- ---- words
-- two's complement
unfoldable pub from_word : ℕ → ℤ
from_word w = when ltb w 0x8000_0000_0000_0000 then (λ _. pos w) else λ _. negsuc (0xffff_ffff_ffff_ffff - w)

abbrev pub to_word : ℤ → ℕ
to_word (pos n) = n
to_word (negsuc n) = 0xffff_ffff_ffff_ffff - n

abbrev pub rest_of : Entry → ℕ
rest_of e = e.depth + 256 * e.bound + 65536 * e.move

-- what two words say, if they are an entry: a depth that can be asked, a bound, a move, a value within the root's window, and nothing above
unfoldable pub entry_of : ℕ → ℕ → Option Entry
entry_of value rest =
    let v = from_word value in
    let depth = rest % 256 in
    let bound = rest / 256 % 256 in
    let move = rest / 65536 in
    when ltb 0 depth && (leb depth console.deepest && (leb bound 2 && (leb move 255 && (le_z lowest v && le_z v highest))))
    then (λ _. Some (record { value = v; depth = depth; bound = bound; move = move }))
    else λ _. None

-- ---- the row
-- with fewer than three words the table is off
unfoldable pub off : List ℕ → Bool
off words = ltb (length words) 3

-- where the entry of a hash begins, in so many words: slot = hash modulo entries
unfoldable pub begins : ℕ → ℕ → ℕ
begins words h = 3 * (h % (words / 3))

unfoldable pub look_up : List ℕ → ℕ → Option Entry
look_up words h =
    when off words then (λ _. None) else
    λ _. let i = begins (length words) h in
    when eqb (get_or words i 0) h then (λ _. entry_of (get_or words (i + 1) 0) (get_or words (i + 2) 0)) else λ _. None

-- what is stored goes where no entry is, or one of less depth
abbrev pub replaces : ℕ → Option Entry → Bool
replaces depth None = true
replaces depth (Some e) = ltb e.depth depth

unfoldable pub store : List ℕ → ℕ → Entry → List ℕ
store words h e =
    when off words then (λ _. words) else
    λ _. let i = begins (length words) h in
    when replaces e.depth (entry_of (get_or words (i + 1) 0) (get_or words (i + 2) 0))
    then (λ _. set (set (set words i h) (i + 1) (to_word e.value)) (i + 2) (rest_of e))
    else λ _. words

-- ---- what an entry is good for
abbrev pub bound_suffices : ℕ → ℤ → ℤ → ℤ → Bool
bound_suffices zero v a b = true
bound_suffices (suc zero) v a b = le_z b v
bound_suffices (suc (suc n)) v a b = le_z v a

-- it answers for the window from a to b at a depth
unfoldable pub suffices : Entry → ℕ → ℤ → ℤ → Bool
suffices e depth a b = leb depth e.depth && bound_suffices e.bound e.value a b

-- what a score within the window from a to b is: AtMost if it did not rise, AtLeast if it reached the upper edge, else Exact
unfoldable pub bound_of : ℤ → ℤ → ℤ → ℕ
bound_of a b r = when le_z r a then (λ _. 2) else λ _. when le_z b r then (λ _. 1) else λ _. 0
