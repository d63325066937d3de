-- The parts, one after the other, and whether the game is over.
use mathlib.Core.Path.{ap, ap₂, ◌∙◌}
use mathlib.Core.Bool.{not}
use Prim.Native.Nat.{ℕ, ◌%◌}
use Rattle.rules.specs.Position.{unfinished}
use Rattle.game.specs.declared.Game.{Game}
use Rattle.game.specs.Meaning.{position_of}
use Rattle.replay.specs.Agreement.{left_of, wholly_agrees}
use Rattle.replay.specs.Totals.{comparison}
use Rattle.replay_game.proofs.Records.{play_joined, play_end}
use Rattle.replay_game.proofs.play.Goals as goal

pub returns : goal.returns
returns c =
    let a = c.args in
    let ns = a.words.now in
    let k = c.at.result % 512 in
    let count = ap (λ (n : ℕ). n % 512) c.at.ensures in
    let run = c.run_moves-run.result in
    let asked = c.asked-asked in
    let all = play_joined ns (left_of a.begun) (left_of c.number-counted.result) (left_of asked.result) (left_of c.reached.result)
    (left_of c.moves-all.result) run a.start a.i k count c.number-counted.ensures asked.ensures
    c.run_moves-run.ensures c.reached.ensures c.moves-all.ensures in
    let end = play_end ns (left_of asked.result) run a.start a.i k count c.run_moves-run.ensures in
    c.of.ensures ∙ ap₂ comparison (c.is_whole.ensures ∙ ap (wholly_agrees) all)
    (c.game_over.ensures ∙ ap (λ (g : Game). not (unfinished (position_of g))) end)
