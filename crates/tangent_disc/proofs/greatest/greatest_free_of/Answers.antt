-- Answers the goals of `greatest_free_of`.
use Rattle.std.proofs.Common.{arith, pos, ◌≤ℤ◌}
use Rattle.std.proofs.lemmas.Int.{ints}
use Rattle.depth_rule.proofs.Bisection.{brackets_all, brackets_below}
use Rattle.tangent_disc.specs.Touch.{IsFreeOf}
use Rattle.tangent_disc.proofs.Free.{less_free_of, zero_free_of}
use Rattle.tangent_disc.proofs.greatest.greatest_free_of.Goals as goal

pub loop-low-init : goal.loop-low-init
loop-low-init c =
    let t = c.args.touch.now in
    let some = t.at.ranged.long.low in
    let long : pos 0 ≤ℤ t.point.length = omega (arith, ints) in
    brackets_all _ c.args.most (zero_free_of t.side t.point long c.args.edge.now)

pub loop-low-preserved : goal.loop-low-preserved
loop-low-preserved c =
    let t = c.args.touch.now in
    let some = t.at.ranged.long.low in
    let long : pos 0 ≤ℤ t.point.length = omega (arith, ints) in
    brackets_below (λ j. IsFreeOf t.side t.point j c.args.edge.now)
    (less_free_of t.side t.point long c.args.edge.now)
    c.args.most c.loop-low.low c.loop-low.high _ c.loop-low.invariant (omega arith) (omega arith)
    (λ free. let yes = c.is_free_of-in-loop-low.ensures.1 free in grind (arith, yes))
