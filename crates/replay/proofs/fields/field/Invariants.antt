use Rattle.std.proofs.Common.{◌≡◌, ◌-◌}
use Rattle.replay.specs.Fields.{field}
use Rattle.replay.proofs.fields.field.Given as goal

abbrev pub invariant-loop : goal.invariant-loop
invariant-loop l = field (l.k - l.counter) l.rest ≡ field l.k l.line
