-- Words within their bounds, word by word; a game comes back from its words.
use Rattle.std.specs.Prelude.{Option, None, Some}
use mathlib.Core.Path.{◌≡◌, refl, ap}
use mathlib.Core.Bool.{Bool, true, false, ◌&&◌}
use mathlib.Core.List.{List, [], ◌∷◌, ◌++◌}
use Prim.Native.Nat.{ℕ, zero, suc, ◌^◌, ◌≤◌, ◌<◌}
use native.Mathlib.Omega.{arith}
use lib.Dec.{T, leb, ltb, leb→le, le→leb, ltb→lt}
use lib.ListN.{length, get_or}
use Rattle.std.specs.List.{list_all, zip}
use Rattle.base.specs.Lists.{all}
use Rattle.base.proofs.Bool.{and→, →and}
use Rattle.game.specs.Neat.{neat_row, neat_next, neat}
use Rattle.game.proofs.Neat.{neat→}
use borrow.Author.Tests.{ne_eqb}
use Rattle.rules.specs.declared.Player.{Player}
use Rattle.rules.specs.declared.Player.TheVariants.{X, O}
use Rattle.rules.specs.declared.GameState.{GameState}
use Rattle.rules.specs.declared.GameState.TheVariants.{InPlay, Drawn, Won}
use Rattle.rules.specs.Board.{side_number, side_from, state_number, state_from}
use Rattle.boards.specs.declared.local.Row.{Row}
use Rattle.game.specs.declared.Game.{Game}
use Rattle.interface.specs.Position.{next_board_word, words_of, next_board_from, row_from}
use Rattle.interface.specs.Position.{game_from, most, all_within, is_position}

pub within_short : (bs ws : List ℕ) → length ws < length bs → false ≡ all_within bs ws
unfolding all_within
within_short [] ws h = absurd (omega arith)
within_short (b ∷ bs) [] h = refl
within_short (b ∷ bs) (w ∷ ws) h = rest (leb w b) (all_within bs ws) (within_short bs ws (omega arith))
  where
    rest : (a t : Bool) → false ≡ t → false ≡ (a && t)
    rest true t e = e
    rest false t e = refl

-- each word beside its bound
pub within_zip : (bs ws : List ℕ) → length bs ≤ length ws → list_all (λ (p : ℕ × ℕ). leb p.0 p.1) (zip ws bs) ≡ all_within bs ws
unfolding all_within
within_zip [] [] h = refl
within_zip [] (w ∷ ws) h = refl
within_zip (b ∷ bs) [] h = absurd (omega arith)
within_zip (b ∷ bs) (w ∷ ws) h = ap (λ (t : Bool). leb w b && t) (within_zip bs ws (omega arith))

-- each word is within its bound
pub within_at : (bs ws : List ℕ) → T (all_within bs ws) → (k : ℕ) → k < length bs → get_or ws k 0 ≤ get_or bs k 0
unfolding all_within
within_at [] ws t k h = absurd (omega arith)
within_at (b ∷ bs) [] t k h = absurd t
within_at (b ∷ bs) (w ∷ ws) t zero h = leb→le w b (first (leb w b) (all_within bs ws) t)
  where
    first : (x y : Bool) → T (x && y) → T x
    first true y s = tt
    first false y s = s
within_at (b ∷ bs) (w ∷ ws) t (suc k) h = within_at bs ws (second (leb w b) (all_within bs ws) t) k (omega arith)
  where
    second : (x y : Bool) → T (x && y) → T y
    second true y s = s
    second false y s = absurd s

pub within_long : (bs ws : List ℕ) → T (all_within bs ws) → length bs ≤ length ws
unfolding all_within
within_long [] ws t = omega arith
within_long (b ∷ bs) [] t = absurd t
within_long (b ∷ bs) (w ∷ ws) t =
    let h : length bs ≤ length ws = within_long bs ws (and→ (leb w b) (all_within bs ws) t).1 in omega arith

-- ---- the twelve words of a position
module _ (ws : List ℕ) (t : T (is_position ws)) where
  pub twelve : 12 ≤ length ws
  twelve = within_long most ws t

  pub word_most : (k : ℕ) → k < 12 → get_or ws k 0 ≤ get_or most k 0
  word_most = within_at most ws t

-- ---- a game of words, from its parts
pub game_made : (ws : List ℕ) (who : Player) (next : Option ℕ) (a b c : Row) (state : GameState)
    → who ≡ side_from (get_or ws 8 0) → next ≡ next_board_from (get_or ws 9 0) → state ≡ state_from (get_or ws 10 0)
    → a ≡ row_from ws 0 → b ≡ row_from ws 2 → c ≡ row_from ws 4
    → ◌≡◌ {A = Game} (record {
      next_player = who;
      next_board = next;
      local_boards = record { rows = a ∷ b ∷ c ∷ [] };
      global_states = record { x = get_or ws 6 0; o = get_or ws 7 0 };
      game_state = state;
      hash = get_or ws 11 0;
    }) (game_from ws)
unfolding game_from
game_made ws who next a b c state p q r s t u = simp (p, q, r, s, t, u)

-- ---- a game comes back from a slice that its words were left in: three rows, and a due board that is a byte
side_back : (w : Player) → side_from (side_number w) ≡ w
side_back X = refl
side_back O = refl

state_back : (s : GameState) → state_from (state_number s) ≡ s
state_back InPlay = refl
state_back Drawn = refl
state_back (Won X) = refl
state_back (Won O) = refl

abbrev pub Byte : Option ℕ → Type 0
Byte None = Unit {0}
Byte (Some b) = b < 256

due_back : (n : Option ℕ) → Byte n → next_board_from (next_board_word n) ≡ n
due_back None h = refl
due_back (Some b) h = simp (ne_eqb b 256 (λ e. omega arith))

slice_back : (who : Player) (next : Option ℕ) (rs : List Row) (x o : ℕ) (state : GameState) (h : ℕ) (rest : List ℕ) →
    length rs ≡ 3 → Byte next
    → game_from (words_of
    (record {
      next_player = who;
      next_board = next;
      local_boards = record { rows = rs };
      global_states = record { x = x; o = o };
      game_state = state;
      hash = h;
    }) ++ rest)
    ≡ record {
      next_player = who;
      next_board = next;
      local_boards = record { rows = rs };
      global_states = record { x = x; o = o };
      game_state = state;
      hash = h;
    }
unfolding game_from
slice_back who next [] x o state h rest n k = absurd (omega arith)
slice_back who next (a ∷ []) x o state h rest n k = absurd (omega arith)
slice_back who next (a ∷ b ∷ []) x o state h rest n k = absurd (omega arith)
slice_back who next (a ∷ b ∷ c ∷ []) x o state h rest n k = simp (side_back who, due_back next k, state_back state)
slice_back who next (a ∷ b ∷ c ∷ d ∷ rs) x o state h rest n k = absurd (omega arith)

pub slice_comes_back : (g : Game) (rest : List ℕ) → length g.local_boards.rows ≡ 3 → Byte g.next_board →
    game_from (words_of g ++ rest) ≡ g
slice_comes_back g rest =
    slice_back g.next_player g.next_board g.local_boards.rows g.global_states.x g.global_states.o
    g.game_state g.hash rest

-- ---- the words of a neat game are a position, whatever follows them: so a call takes what another has left
row_fits : (r : Row) → T (neat_row r) → (r.x ≤ 0xffff_ffff) × (r.o ≤ 0xffff_ffff)
row_fits r t =
    let a = and→ (ltb r.x (2 ^ 27)) _ t in
    let b = and→ (ltb r.o (2 ^ 27)) _ a.1 in
    let x = ltb→lt r.x (2 ^ 27) a.0 in
    let o = ltb→lt r.o (2 ^ 27) b.0 in
    (omega (arith, x), omega (arith, o))

side_fits : (w : Player) → T (leb (side_number w) 1)
side_fits X = tt
side_fits O = tt

due_fits : (n : Option ℕ) → T (neat_next n) → T (leb (next_board_word n) 256)
due_fits None t = tt
due_fits (Some b) t = le→leb b 256 (let h = ltb→lt b 9 t in omega (arith, h))

state_fits : (s : GameState) → T (leb (state_number s) 3)
state_fits InPlay = tt
state_fits Drawn = tt
state_fits (Won X) = tt
state_fits (Won O) = tt

fits : (who : Player) (next : Option ℕ) (rs : List Row) (x o : ℕ) (state : GameState) (h : ℕ) (rest : List ℕ)
    → T (neat_next next) → length rs ≡ 3 → T (all neat_row rs) → x < 2 ^ 9 → o < 2 ^ 9 → h ≤ 0xffff_ffff_ffff_ffff
    → T (is_position (words_of
    (record {
      next_player = who;
      next_board = next;
      local_boards = record { rows = rs };
      global_states = record { x = x; o = o };
      game_state = state;
      hash = h;
    }) ++ rest))
unfolding all_within all
fits who next [] x o state h rest d n t p q w = absurd (omega arith)
fits who next (a ∷ []) x o state h rest d n t p q w = absurd (omega arith)
fits who next (a ∷ b ∷ []) x o state h rest d n t p q w = absurd (omega arith)
fits who next (a ∷ b ∷ c ∷ []) x o state h rest d n t p q w =
    let t₁ = and→ (neat_row a) _ t in
    let t₂ = and→ (neat_row b) _ t₁.1 in
    let t₃ = and→ (neat_row c) _ t₂.1 in
    let i = row_fits a t₁.0 in
    let j = row_fits b t₂.0 in
    let k = row_fits c t₃.0 in
    →and (leb a.x 0xffff_ffff) _ (le→leb _ _ i.0) (→and (leb a.o 0xffff_ffff) _ (le→leb _ _ i.1)
    (→and (leb b.x 0xffff_ffff) _ (le→leb _ _ j.0) (→and (leb b.o 0xffff_ffff) _ (le→leb _ _ j.1)
    (→and (leb c.x 0xffff_ffff) _ (le→leb _ _ k.0) (→and (leb c.o 0xffff_ffff) _ (le→leb _ _ k.1)
    (→and (leb x 0xffff) _ (le→leb x 0xffff (omega arith)) (→and (leb o 0xffff) _ (le→leb o 0xffff (omega arith))
    (→and (leb (side_number who) 1) _ (side_fits who) (→and (leb (next_board_word next) 256) _ (due_fits next d)
    (→and (leb (state_number state) 3) _ (state_fits state) (→and (leb h 0xffff_ffff_ffff_ffff) _ (le→leb _ _ w) tt)))))))))))
fits who next (a ∷ b ∷ c ∷ e ∷ es) x o state h rest d n t p q w = absurd (omega arith)

pub neat_is_position : (g : Game) (rest : List ℕ) → T (neat g) → g.hash ≤ 0xffff_ffff_ffff_ffff →
    T (is_position (words_of g ++ rest))
neat_is_position g rest t = let n = neat→ g t in
    fits g.next_player g.next_board g.local_boards.rows g.global_states.x g.global_states.o
    g.game_state g.hash rest
    n.next n.three n.each n.xs n.os
