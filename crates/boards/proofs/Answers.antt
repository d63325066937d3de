-- The numbers of refusals are 9 to 13: none is 0, and each fits a byte; what is answered of a place in range, and past it.
use mathlib.Core.Path.{◌≡◌}
use Prim.Native.Nat.{ℕ, ◌≤◌, ◌<◌}
use native.Mathlib.Omega.{arith}
use lib.Dec.{ltb, ltb→lt}
use borrow.Author.Tests.{lt-ltb, le-ltb}
use Rattle.std.specs.Prelude.{Ok, Err}
use Rattle.base.specs.Branch.{when◌then◌else◌}
use Rattle.base.proofs.Bool.{and→}
use Rattle.base.proofs.ListsAgree.{false_by}
use Rattle.boards.specs.declared.moves.MoveError.{MoveError}
use Rattle.boards.specs.declared.moves.MoveError.TheVariants.{WrongBoard, WonBoard, OutOfBounds, NotEmpty, GameOver}
use Rattle.boards.specs.Answers.{move_error_number, in_range, within}

pub error_most : (e : MoveError) → move_error_number e ≤ 13
error_most OutOfBounds = omega arith
error_most GameOver = omega arith
error_most WonBoard = omega arith
error_most WrongBoard = omega arith
error_most NotEmpty = omega arith

pub error_not_0 : (e : MoveError) → 0 < move_error_number e
error_not_0 OutOfBounds = omega arith
error_not_0 GameOver = omega arith
error_not_0 WonBoard = omega arith
error_not_0 WrongBoard = omega arith
error_not_0 NotEmpty = omega arith

-- ---- what is answered of a place
module _ {A : Type 0} (a : A) where
  pub in_one : (b : ℕ) → b < 9 → Ok a ≡ within (ltb b 9) a
  unfolding within when◌then◌else◌
  in_one b h = rw (lt-ltb b 9 h)

  pub past_one : (b : ℕ) → 9 ≤ b → Err OutOfBounds ≡ within (ltb b 9) a
  unfolding within when◌then◌else◌
  past_one b h = rw (le-ltb b 9 h)

  pub in_both : (b c : ℕ) → b < 9 → c < 9 → Ok a ≡ within (in_range b c) a
  unfolding within when◌then◌else◌
  in_both b c h k = rw (lt-ltb b 9 h, lt-ltb c 9 k)

  pub past_either : (b c : ℕ) → (b < 9 → c < 9 → ⊥) → Err OutOfBounds ≡ within (in_range b c) a
  unfolding within when◌then◌else◌
  past_either b c h = rw (false_by (in_range b c) (λ t. let p = and→ (ltb b 9) _ t in h (ltb→lt b 9 p.0) (ltb→lt c 9 p.1)))
