-- The values stand between what was before and after them.
use native.Mathlib.Omega.{arith}
use Rattle.interface.proofs.LentPlaces.{sets_between}
use Rattle.interface.proofs.lent.put.Goals as goal

pub returns : goal.returns
returns g c =
    let a = c.args in
    rw c.copy_from_slice.ensures.after (sets_between a.values.now a.out.now a.at _ (omega arith) c.requires)
