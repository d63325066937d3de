-- A list of moves, tried on the struct: it means what the rules reach, has the fresh hash and is neat.
use mathlib.Core.Path.{◌≡◌, refl, sym, ap, ◌∙◌}
use mathlib.Core.List.{List, [], ◌∷◌, ◌++◌}
use Rattle.std.specs.List.{fold}
use Prim.Native.Nat.{ℕ, ◌+◌, ◌≤◌, ◌<◌}
use native.Mathlib.Numerals.{add-one}
use lib.Dec.{T}
use lib.ListN.{length, get_or, drop, drop_of_length-le}
use lib.Seq.{drop-cons}
use Rattle.rules.specs.Position.{Position, start}
use Rattle.rules.specs.Play.{reached}
use Rattle.game.specs.declared.Game.{Game}
use Rattle.game.specs.Meaning.{position_of}
use Rattle.std.specs.Prelude.{Result, Ok, Err}
use Rattle.std.specs.Result.{result_unwrap_or}
use Rattle.boards.specs.declared.moves.Move.{Move}
use Rattle.boards.specs.declared.moves.MoveError.{MoveError}
use Rattle.game.specs.After.{game_after, games_after, game_left, Plays}
use Rattle.game.specs.Built.{new_game}
use Rattle.game.specs.Neat.{neat}
use Rattle.game.proofs.Meaning.{game_after_means, new_game_means}
use Rattle.game.proofs.AfterHash.{Fresh, game_after_hash, new_game_hash}
use Rattle.game.proofs.Neat.{neat→, game_after_neat, new_game_neat}

-- ---- one by one
-- one more
pub games_more :
    (g : Game) (ms : List ℕ) (i d : ℕ) → i < length ms
    → games_after (game_after g (get_or ms i d)) (drop (i + 1) ms) ≡ games_after g (drop i ms)
unfolding games_after
games_more g ms i d h =
    ap (λ (k : ℕ). games_after (game_after g (get_or ms i d)) (drop k ms)) (add-one i) ∙ sym (ap (games_after g) (drop-cons ms i d h))

-- no more
pub games_all : (g : Game) (ms : List ℕ) (i : ℕ) → length ms ≤ i → games_after g (drop i ms) ≡ g
unfolding games_after
games_all g ms i h = ap (games_after g) (drop_of_length-le ms h)

-- the game that a move leaves
pub left_or : (g : Game) (r : Result Game MoveError) → result_unwrap_or r g ≡ game_left g r
left_or g (Ok after) = refl
left_or g (Err why) = refl

-- all, as a fold
pub left_as_tried : (g : Game) (m : Move) (r : Result Game MoveError) → Plays g m r → result_unwrap_or r g ≡ game_after g m.bits
left_as_tried g m r p = left_or g r ∙ p.exact

pub games_folded : (g : Game) (ms : List ℕ) → fold game_after g ms ≡ games_after g ms
unfolding games_after
games_folded g [] = refl
games_folded g (m ∷ ms) = games_folded (game_after g m) ms

-- one list, then another
pub games_joined : (g : Game) (ns ms : List ℕ) → games_after (games_after g ns) ms ≡ games_after g (ns ++ ms)
unfolding games_after
games_joined g [] ms = refl
games_joined g (n ∷ ns) ms = games_joined (game_after g n) ns ms

-- ---- from any neat game
pub played_neat : (g : Game) (ms : List ℕ) → T (neat g) → T (neat (games_after g ms))
unfolding games_after
played_neat g [] t = t
played_neat g (m ∷ ms) t = played_neat (game_after g m) ms (game_after_neat g m t)

pub played_means : (g : Game) (ms : List ℕ) → T (neat g) → position_of (games_after g ms) ≡ reached (position_of g) ms
unfolding games_after reached
played_means g [] t = refl
played_means g (m ∷ ms) t =
    played_means (game_after g m) ms (game_after_neat g m t) ∙ ap (λ (p : Position). reached p ms)
    (game_after_means g m (neat→ g t).three)

pub played_hash : (g : Game) (ms : List ℕ) → T (neat g) → Fresh g → Fresh (games_after g ms)
unfolding games_after
played_hash g [] t e = e
played_hash g (m ∷ ms) t e = played_hash (game_after g m) ms (game_after_neat g m t) (game_after_hash g m (neat→ g t).three e)

-- ---- from the empty one
module _ (ms : List ℕ) where
  pub new_played_neat : T (neat (games_after new_game ms))
  new_played_neat = played_neat new_game ms new_game_neat

  pub new_played_means : position_of (games_after new_game ms) ≡ reached start ms
  new_played_means = played_means new_game ms new_game_neat ∙ ap (λ (p : Position). reached p ms) new_game_means

  pub new_played_hash : Fresh (games_after new_game ms)
  new_played_hash = played_hash new_game ms new_game_neat new_game_hash
