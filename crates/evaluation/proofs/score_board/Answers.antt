-- Eight lines of at most 65,535 do not overflow, and the digits of each side are its cells.
use mathlib.Core.Path.{◌≡◌, sym, refl, ap, ap₂, ◌∙◌}
use Prim.Native.Nat.{◌+◌, ◌*◌, ◌<◌}
use native.Mathlib.Omega.{arith}
use lib.Dec.{T, ltb, lt→ltb}
use lib.IntN.{◌+ℤ◌}
use mir.Syntax.{w32}
use Rattle.base.specs.Bits.{bit}
use Rattle.base.proofs.Integers.{within_+}
use Rattle.base.proofs.Signed.{Held, held_promised, held_gives, held_reads}
use Rattle.rules.specs.Evaluation.{board_line}
use Rattle.lines.specs.Masks.{line_at}
use Rattle.evaluation.proofs.ValuesLines.{line_in, mask_is, first_lines, first_more, first_eight}
use Rattle.evaluation.proofs.ValuesBoards.{board_sum}
use Rattle.evaluation.proofs.score_board.Goals.{After-score_line-score}
use Rattle.evaluation.proofs.score_board.Goals as goal

-- the sum with one line more
abbrev more : (c : After-score_line-score) → Held w32 (65535 * c.loop-mask.mask-index + 65535)
more c =
    let i = c.loop-mask.mask-index in
    let h : i < 8 = omega (arith, c.loop-mask-test.true) in
    let r = c.score_line-score.ensures in
    let a : Held w32 (65535 * i) = held_promised c.loop-mask.invariant in
    let b : Held w32 65535 = held_promised (r.gives (line_at i) (line_in i h) (mask_is i h), r.bounded) in
    record {
      machine = _;
      value = _;
      same = ap₂ ◌+ℤ◌ a.same (held_reads b tt);
      near = within_+ _ _ a.value b.value a.near b.near;
    }

abbrev few : (c : After-score_line-score) → T (ltb (65535 * c.loop-mask.mask-index + 65535) 2147483648)
few c = lt→ltb _ _ (omega (arith, c.loop-mask-test.true))

pub loop-mask-init : goal.loop-mask-init
unfolding first_lines
loop-mask-init c = (refl, omega arith)

pub loop-mask-preserved : goal.loop-mask-preserved
loop-mask-preserved c =
    let g = held_gives (more c) (few c) (sym (first_more (board_line _ (bit _) (bit _)) c.loop-mask.mask-index)) in
    (g.0, omega (arith, g.1))

pub returns : goal.returns
returns c =
    let e : c.loop-mask.mask-index ≡ 8 = omega (arith, c.loop-mask-test.false) in
    c.loop-mask.invariant.0 ∙ ap (first_lines (board_line _ (bit _) (bit _))) e ∙ first_eight (board_line _ (bit _) (bit _))
    ∙ board_sum _ _ _ _ _ c.xbits-x.ensures c.obits-o.ensures
