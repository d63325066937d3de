use mathlib.Core.Path.{◌≡◌}
use mathlib.Core.Bool.{false}
use Prim.Native.Nat.{◌+◌}
use lib.ListN.{drop}
use Rattle.input.specs.Lines.{line_taken}
use Rattle.input.proofs.Input.take.Given as goal

abbrev pub invariant-loop-b : goal.invariant-loop-b
invariant-loop-b l = record {
  same : line_taken l.fn.line.length l.fn.kept l.b-items ≡ line_taken l.line.length l.kept (drop l.b-index l.b-items);
  not_ended : l.line.ended ≡ false;
  end_is : l.self.end ≡ l.fn.self.end;
  at_is : l.self.at ≡ l.fn.self.at + l.b-index;
}
