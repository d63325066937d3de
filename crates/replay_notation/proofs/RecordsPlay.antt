-- A game that is played from the empty board reads back, and its text is that of the position that is reached.
use mathlib.Core.Path.{◌≡◌, refl, ap, ◌∙◌}
use mathlib.Core.Bool.{Bool, true, false}
use mathlib.Core.List.{List, ◌∷◌}
use Prim.Native.Nat.{ℕ}
use lib.Dec.{T}
use lib.ListN.{length}
use borrow.Author.Tests.{eq-eqb}
use Rattle.rules.specs.Compare.{equivalent}
use Rattle.rules.proofs.Compare.{equivalent_self}
use Rattle.text.specs.Writing.{text_of}
use Rattle.game.specs.declared.Game.{Game}
use Rattle.game.specs.Meaning.{position_of}
use Rattle.game.specs.Built.{new_game}
use Rattle.game.specs.After.{games_after}
use Rattle.game.proofs.AfterList.{new_played_means}
use Rattle.notation.proofs.ParsedRoundTrip.{render_reads_back}
use Rattle.std.specs.Prelude.{Option, Some}
use Rattle.replay.specs.Agreement.{compared_all, wholly_agrees, same_numbers}
use Rattle.replay_notation.specs.Records.{with_bytes, play_record, alike, reads_back}
use Rattle.replay_notation.proofs.RecordsCompared.{answer_compared}

holds : (b : Bool) → T b → b ≡ true
holds true t = refl
holds false t = absurd t

alike_self : (g : Game) → alike g g ≡ true
alike_self g = rw (eq-eqb g.hash g.hash refl, holds (equivalent (position_of g) (position_of g)) (equivalent_self (position_of g)))

pub played_reads_back : (ms : List ℕ) → reads_back (games_after new_game ms) ≡ true
played_reads_back ms =
    let g = games_after new_game ms in
    ap (λ (h : Game). alike h g) (render_reads_back ms).1 ∙ alike_self g

module _ (ms : List ℕ) (n g : Game) (n_is : n ≡ new_game) (g_is : g ≡ games_after n ms) where
  is_played : g ≡ games_after new_game ms
  is_played = g_is ∙ ap (λ (h : Game). games_after h ms) n_is

  pub always_reads_back : (b : Bool) → b ≡ reads_back g → b ≡ true
  always_reads_back b e = e ∙ ap reads_back is_played ∙ played_reads_back ms

  pub play_compared : (ns text : List ℕ) (q a : Option (List ℕ)) (r : Bool) → text ≡ text_of (position_of g) →
      q ≡ compared_all (Some ns) (9 ∷ length ms ∷ ms) → a ≡ compared_all q text → r ≡ wholly_agrees a →
      r ≡ same_numbers ns (play_record ms)
  play_compared ns text q a r t e f h =
      answer_compared ns 9 ms text q a r e f h ∙ ap (λ (bs : List ℕ). same_numbers ns (with_bytes 9 ms bs))
      (t ∙ ap (λ (p : Game). text_of (position_of p)) is_played ∙ ap text_of (new_played_means ms))
