-- Each part by its name in the rules.
use Rattle.std.specs.Prelude.{Option}
use mathlib.Core.Path.{◌≡◌, refl, sym, ap, ap₂, ◌∙◌}
use mathlib.Core.Bool.{not, ◌&&◌}
use Prim.Native.Nat.{◌+◌}
use Rattle.std.proofs.Common.{rules}
use Rattle.rules.specs.Status.{Status as Set}
use Rattle.rules.specs.Endgame.{prove_attacker, forced_loss, or_unproven}
use Rattle.status.specs.Sets.{status_of}
use Rattle.game.specs.Meaning.{position_of}
use Rattle.endgame.proofs.PartsAttack.{some_critical}
use Rattle.endgame.proofs.MeansStatuses.{combined_is_merged, sets_agree, counts}
use Rattle.endgame.proofs.Critical.analysis.Goals as goal
use Rattle.endgame.proofs.Critical.analysis.Goals.{After-player, then-not-wins, else-not-wins, then-attacker, else-attacker}

-- whether the side to move loses
lost : (c : After-player) → let p = position_of c.args.self.pos in c.if-not-wins.loses ≡ (not (prove_attacker p) && forced_loss p)
lost c = elim c.if-not-wins.branch [ then-not-wins w ↦ search rules | else-not-wins w ↦ search rules ]

pub combined-requires : goal.combined-requires
combined-requires c =
    sets_agree (position_of c.args.self.pos) _ _ _ _ _ c.player.ensures c.prove_attacker-wins.ensures
    (lost c) c.is_winnable-x.ensures c.is_winnable-o.ensures

pub returns : goal.returns
returns c =
    let at = goal.at.returns c in
    let k = c.args.self in
    let p = position_of k.pos in
    let loses = lost at.After-player in (
      c.combined.ensures
          ∙ ap (λ (s : Option Set). status_of (or_unproven s))
          (combined_is_merged p _ _ _ _ _ c.player.ensures c.prove_attacker-wins.ensures loses c.is_winnable-x.ensures
          c.is_winnable-o.ensures),
      counts p _ _ _ _ _ _ _
          (sym (some_critical p _ _ k.of_attacker _ refl)) (sym (some_critical p _ _ k.of_defender _ refl))
          c.prove_attacker-wins.ensures loses c.is_winnable-x.ensures c.is_winnable-o.ensures
          c.from.ensures c.from-2.ensures
          (elim c.if-attacker.branch [ then-attacker w ↦ search rules | else-attacker w ↦ search rules ])
          (ap₂ ◌+◌ c.from-4.ensures c.from-5.ensures) c.from-6.ensures c.from-7.ensures,
    )
