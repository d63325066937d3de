-- What a text is read as: a proper position, and the neat game of it with its fresh hash.
use Rattle.std.specs.Prelude.{Option, None, Some, Result, Ok, Err, IfOk}
use mathlib.Core.Path.{◌≡◌, sym, ap}
use mathlib.Core.List.{List}
use Prim.Native.Nat.{ℕ}
use native.Mathlib.Omega.{arith}
use lib.Dec.{T, ltb}
use Rattle.std.specs.Result.{result_unwrap_or}
use Rattle.base.proofs.Bool.{and→}
use Rattle.rules.specs.Position.{Position}
use Rattle.rules.specs.Hash.{hash}
use Rattle.rules.specs.Sound.{next_board_open, proper}
use Rattle.text.specs.Reading.{reads, read}
use Rattle.text.proofs.Reading.{read_is_proper, Filled, read_fills_the_board}
use Rattle.game.specs.Meaning.{position_of}
use Rattle.game.specs.Neat.{neat_next, neat, game_of}
use Rattle.game.proofs.Neat.{game_of_neat, Nine, game_of_means}
use Rattle.notation.specs.declared.ParseError.{ParseError}
use Rattle.notation.specs.Parsed.{reading_of, game_for}
use Rattle.game.specs.Built.{new_game}
use Rattle.game.specs.declared.Game.{Game}

pub record ReadGame (p : Position) : Type 0 where
  pub is_proper : T (proper p)
  pub is_neat : T (neat (game_of p (hash p)))
  pub means : position_of (game_of p (hash p)) ≡ p
  pub fresh : hash p ≡ hash (position_of (game_of p (hash p)))

due_is_neat : (p : Position) (d : Option ℕ) → T (next_board_open p d) → T (neat_next d)
due_is_neat p None t = tt
due_is_neat p (Some b) t = (and→ (ltb b 9) _ t).0

filled_is_nine : (p : Position) → Filled p → Nine p
filled_is_nine p f = record {
  board_past = λ b c h. f.board_over b c (omega arith);
  cell_past = λ b c h. f.cell_over b c (omega arith);
  state_past = λ b h. f.state_over b (omega arith);
}

pub read_gives_a_game : (t : List ℕ) (p : Position) → read t ≡ reads p → ReadGame p
unfolding proper
read_gives_a_game t p e =
    let o = read_is_proper t p e in
    let m = game_of_means p (hash p) (filled_is_nine p (read_fills_the_board t p e)) in
    record {
      is_proper = o;
      is_neat = game_of_neat p (hash p) (due_is_neat p p.next_board (and→ (next_board_open p p.next_board) _ o).0);
      means = m;
      fresh = sym (ap hash m);
    }
