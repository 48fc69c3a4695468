-- Answers the goals of `Touch::of`.
use Rattle.std.proofs.Common.{◌∙◌, ap, arith, ◌*ℤ◌}
use Rattle.std.proofs.lemmas.Int.{ints}
use Rattle.plane_exact.proofs.Ranges.{wide_is}
use Rattle.tangent_disc.proofs.Touches.{over_kept, size_kept, square_kept, touch_at}
use Rattle.tangent_disc.proofs.touch.Touch.of.Goals as goal

pub overflow_mul-result : goal.overflow_mul-result
overflow_mul-result c = (over_kept c.args.point.now c.requires).fits

pub overflow_mul-result-2 : goal.overflow_mul-result-2
overflow_mul-result-2 c = let a = c.progress_across-across.result in (square_kept a.step a.step a.by a.by a.step a.by).fits

pub overflow_mul-result-3 : goal.overflow_mul-result-3
overflow_mul-result-3 c = let b = c.progress_up-up.result in (square_kept b.step b.step b.by b.by b.step b.by).fits

pub overflow_add-result : goal.overflow_add-result
overflow_add-result c = let a = c.progress_across-across.result in let b = c.progress_up-up.result in (size_kept a.step b.step a.by b.by).fits

pub invariant_of-result : goal.invariant_of-result
invariant_of-result c =
    let a = c.progress_across-across.result in
    let b = c.progress_up-up.result in
    let across = c.progress_across-across.ensures in
    let up = c.progress_up-up.ensures in
    let n = c.turned-normal.result in
    let on_x = n.across in
    let x_low = on_x.low in
    let x_high = on_x.high in
    let on_y = n.up in
    let y_low = on_y.low in
    let y_high = on_y.high in
    let x = wide_is n.x (omega (arith, ints)) ∙ c.turned-normal.ensures.across in
    let y = wide_is n.y (omega (arith, ints)) ∙ c.turned-normal.ensures.up in
    record {
      at = touch_at c.args.point.now c.requires c.args.side a b _ _ across.start up.start
          (across.step ∙ ap (λ z. c.args.point.now.n *ℤ z) x) (up.step ∙ ap (λ z. c.args.point.now.n *ℤ z) y)
          across.among up.among (over_kept c.args.point.now c.requires).value (size_kept a.step b.step a.by b.by).value;
    }
