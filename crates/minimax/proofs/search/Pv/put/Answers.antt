-- The variation's first place is the move, and those after it are copied.
use mathlib.Core.Path.{◌≡◌, ap, ◌∙◌}
use Prim.Native.Nat.{◌-◌}
use native.Mathlib.Omega.{arith}
use lib.ListN.{length, set}
use borrow.Rule.Slice.PartMut.{put_mid}
use Rattle.minimax.proofs.StatePv.{put_placed, placed_all}
use Rattle.minimax.proofs.search.Pv.put.Goals as goal

pub returns : goal.returns
returns c =
    let n : length c.args.self.now.moves ≡ 81 = omega arith in
    let b : length c.args.below.now.moves ≡ 81 = omega arith in
    placed_all c.args.self.now.moves c.args.below.now.moves _ c.args.m c.args.depth (c.args.depth - 1)
    (omega (arith, c.requires.0)) (omega arith) (omega (arith, c.requires.1))
    (ap (put_mid 1 (c.args.depth - 1) (set c.args.self.now.moves 0 c.args.m)) c.copy_from_slice.ensures.after
    ∙ put_placed c.args.self.now.moves c.args.below.now.moves c.args.m (c.args.depth - 1) (omega arith))
