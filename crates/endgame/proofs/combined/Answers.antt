-- The two limits, one after the other, leave a set.
use Rattle.std.specs.Prelude.{Some, option_map}
use mathlib.Core.Path.{◌≡◌, sym, ap, ◌∙◌}
use Rattle.rules.specs.declared.Player.TheVariants.{X, O}
use Rattle.rules.specs.Status.{draw_or_other}
use Rattle.rules.specs.Endgame.{combine}
use Rattle.status.specs.Sets.{status_of}
use Rattle.endgame.proofs.MeansStatuses.{set_left, some_left}
use Rattle.endgame.proofs.combined.Goals as goal
use Rattle.endgame.proofs.combined.Goals.{After-limited-without_o}

left : (c : After-limited-without_o) → let a = c.args in
    c.limited-without_o.result ≡ option_map status_of (combine a.who a.wins a.loses a.x a.o)
unfolding combine
left c =
    c.limited-without_o.ensures.narrowed (draw_or_other O) _ c.draw_or_x.ensures
    (c.limited-without_x.ensures.narrowed (draw_or_other X) (Some _) c.draw_or_o.ensures (ap Some c.proven_of.ensures))

pub unwrap-requires : goal.unwrap-requires
unwrap-requires c = some_left _ c.requires _ (left (goal.at.unwrap-requires c).After-limited-without_o)

pub returns : goal.returns
returns c = set_left _ _ (sym c.unwrap.ensures ∙ left (goal.at.returns c).After-limited-without_o)
