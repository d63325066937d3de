-- A game played from the empty board, rendered and parsed, is that game, hash and all.
use mathlib.Core.Path.{◌≡◌, sym, ap, ◌∙◌, subst}
use mathlib.Core.List.{List}
use Prim.Native.Nat.{ℕ}
use Rattle.rules.specs.Position.{Position}
use Rattle.text.specs.Reading.{reads, read}
use Rattle.text.specs.Writing.{text_of}
use Rattle.text.proofs.WritingRoundTrip.{reached_reads_back}
use Rattle.game.specs.Meaning.{position_of}
use Rattle.game.specs.Built.{new_game}
use Rattle.game.specs.Neat.{game_of}
use Rattle.game.proofs.Neat.{neat_is_fixed}
use Rattle.game.specs.After.{games_after}
use Rattle.game.proofs.AfterList.{new_played_neat, new_played_means, new_played_hash}
use Rattle.notation.specs.Parsed.{game_for}

-- its text is not refused, and what is read is that struct
pub render_reads_back : (ms : List ℕ) → let g = games_after new_game ms in
    (read (text_of (position_of g)) ≡ reads (position_of g)) × (game_for (read (text_of (position_of g))) ≡ g)
render_reads_back ms =
    let g = games_after new_game ms in
    let r : read (text_of (position_of g)) ≡ reads (position_of g) = subst (λ (p : Position). read (text_of p) ≡ reads p)
    (sym (new_played_means ms)) (reached_reads_back ms) in
    (r, ap game_for r ∙ ap (game_of (position_of g)) (sym (new_played_hash ms)) ∙ neat_is_fixed g (new_played_neat ms))
