-- Eight overall lines of at most 3 × 2^31 do not overflow, and their sum is the definition's.
use mathlib.Core.Path.{refl, ◌∙◌}
use Prim.Native.Nat.{ℕ, ◌+◌, ◌^◌, ◌≤◌}
use lib.Dec.{T, ltb, lit<}
use lib.IntN.{ℤ, nat_abs}
use mir.Val.{hbits}
use mir.Syntax.{w64}
use Rattle.lines.specs.Masks.{line_at}
use Rattle.game.specs.Meaning.{position_of}
use Rattle.evaluation.specs.Values.{overall_value}
use Rattle.base.proofs.Signed.{Held, held_promised, held_fits, held_gives, plus}
use Rattle.evaluation.proofs.ValuesLines.{line_in, eight}
use Rattle.evaluation.proofs.ValuesOverall.{score_bits}
use Rattle.evaluation.proofs.Values.score.Goals as goal

-- the sum with one line more, of which a bound is known
abbrev more : {k : ℕ} (a : Held w64 k) (r : ℤ) → nat_abs r ≤ 6442450944 → T (ltb k (2 ^ hbits w64)) → Held w64 (k + 6442450944)
more {k} a r h t = plus a (held_promised {v = r} (refl, h)) t tt

abbrev one : (r : ℤ) → nat_abs r ≤ 6442450944 → Held w64 6442450944
one r h = held_promised {v = r} (refl, h)

pub overflow_add-result-3 : goal.overflow_add-result-3
overflow_add-result-3 c =
    let to-2 = more (one c.score_overall.result c.score_overall.ensures.bounded)
    c.score_overall-2.result c.score_overall-2.ensures.bounded tt in
    let to-3 = more to-2 c.score_overall-3.result c.score_overall-3.ensures.bounded tt in
    let to-4 = more to-3 c.score_overall-4.result c.score_overall-4.ensures.bounded tt in
    held_fits to-4 tt

pub overflow_add-result-4 : goal.overflow_add-result-4
overflow_add-result-4 c =
    let to-2 = more (one c.score_overall.result c.score_overall.ensures.bounded)
    c.score_overall-2.result c.score_overall-2.ensures.bounded tt in
    let to-3 = more to-2 c.score_overall-3.result c.score_overall-3.ensures.bounded tt in
    let to-4 = more to-3 c.score_overall-4.result c.score_overall-4.ensures.bounded tt in
    let to-5 = more to-4 c.score_overall-5.result c.score_overall-5.ensures.bounded tt in
    held_fits to-5 tt

pub overflow_add-result-5 : goal.overflow_add-result-5
overflow_add-result-5 c =
    let to-2 = more (one c.score_overall.result c.score_overall.ensures.bounded)
    c.score_overall-2.result c.score_overall-2.ensures.bounded tt in
    let to-3 = more to-2 c.score_overall-3.result c.score_overall-3.ensures.bounded tt in
    let to-4 = more to-3 c.score_overall-4.result c.score_overall-4.ensures.bounded tt in
    let to-5 = more to-4 c.score_overall-5.result c.score_overall-5.ensures.bounded tt in
    let to-6 = more to-5 c.score_overall-6.result c.score_overall-6.ensures.bounded tt in
    held_fits to-6 tt

pub overflow_add-result-6 : goal.overflow_add-result-6
overflow_add-result-6 c =
    let to-2 = more (one c.score_overall.result c.score_overall.ensures.bounded)
    c.score_overall-2.result c.score_overall-2.ensures.bounded tt in
    let to-3 = more to-2 c.score_overall-3.result c.score_overall-3.ensures.bounded tt in
    let to-4 = more to-3 c.score_overall-4.result c.score_overall-4.ensures.bounded tt in
    let to-5 = more to-4 c.score_overall-5.result c.score_overall-5.ensures.bounded tt in
    let to-6 = more to-5 c.score_overall-6.result c.score_overall-6.ensures.bounded tt in
    let to-7 = more to-6 c.score_overall-7.result c.score_overall-7.ensures.bounded tt in
    held_fits to-7 tt

pub overflow_add-result-7 : goal.overflow_add-result-7
overflow_add-result-7 c =
    let to-2 = more (one c.score_overall.result c.score_overall.ensures.bounded)
    c.score_overall-2.result c.score_overall-2.ensures.bounded tt in
    let to-3 = more to-2 c.score_overall-3.result c.score_overall-3.ensures.bounded tt in
    let to-4 = more to-3 c.score_overall-4.result c.score_overall-4.ensures.bounded tt in
    let to-5 = more to-4 c.score_overall-5.result c.score_overall-5.ensures.bounded tt in
    let to-6 = more to-5 c.score_overall-6.result c.score_overall-6.ensures.bounded tt in
    let to-7 = more to-6 c.score_overall-7.result c.score_overall-7.ensures.bounded tt in
    let to-8 = more to-7 c.score_overall-8.result c.score_overall-8.ensures.bounded tt in
    held_fits to-8 tt

pub returns : goal.returns
returns c =
    let l0 : Held w64 6442450944 = let r = c.score_overall.ensures in
    held_promised (r.gives (line_at 0) (line_in 0 (lit< tt)) refl refl, r.bounded) in
    let l1 : Held w64 6442450944 = let r = c.score_overall-2.ensures in
    held_promised (r.gives (line_at 1) (line_in 1 (lit< tt)) refl refl, r.bounded) in
    let l2 : Held w64 6442450944 = let r = c.score_overall-3.ensures in
    held_promised (r.gives (line_at 2) (line_in 2 (lit< tt)) refl refl, r.bounded) in
    let l3 : Held w64 6442450944 = let r = c.score_overall-4.ensures in
    held_promised (r.gives (line_at 3) (line_in 3 (lit< tt)) refl refl, r.bounded) in
    let l4 : Held w64 6442450944 = let r = c.score_overall-5.ensures in
    held_promised (r.gives (line_at 4) (line_in 4 (lit< tt)) refl refl, r.bounded) in
    let l5 : Held w64 6442450944 = let r = c.score_overall-6.ensures in
    held_promised (r.gives (line_at 5) (line_in 5 (lit< tt)) refl refl, r.bounded) in
    let l6 : Held w64 6442450944 = let r = c.score_overall-7.ensures in
    held_promised (r.gives (line_at 6) (line_in 6 (lit< tt)) refl refl, r.bounded) in
    let l7 : Held w64 6442450944 = let r = c.score_overall-8.ensures in
    held_promised (r.gives (line_at 7) (line_in 7 (lit< tt)) refl refl, r.bounded) in
    let to-2 : Held w64 12884901888 = plus l0 l1 tt tt in
    let to-3 : Held w64 19327352832 = plus to-2 l2 tt tt in
    let to-4 : Held w64 25769803776 = plus to-3 l3 tt tt in
    let to-5 : Held w64 32212254720 = plus to-4 l4 tt tt in
    let to-6 : Held w64 38654705664 = plus to-5 l5 tt tt in
    let to-7 : Held w64 45097156608 = plus to-6 l6 tt tt in
    let to-8 : Held w64 51539607552 = plus to-7 l7 tt tt in
    held_gives to-8 tt
    (eight (overall_value _ _ _) ∙ score_bits (position_of c.args.g) _ _ _
    c.xbits-x.ensures c.obits-o.ensures)
