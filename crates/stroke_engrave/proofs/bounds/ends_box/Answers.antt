-- Answers the goals of `ends_box`.
use Rattle.std.proofs.Common.{arith, ap, ◌∙◌}
use Rattle.std.specs.Int.{int_max, int_min}
use Rattle.stroke_engrave.proofs.Ends.{box_more, box_of_all}
use Rattle.stroke_engrave.proofs.bounds.ends_box.Goals as goal

pub loop-stroke-preserved : goal.loop-stroke-preserved
loop-stroke-preserved c =
    let s = c.stroke-item.result in
    box_more c.args.strokes.now c.loop-stroke.stroke-index c.loop-stroke.low c.loop-stroke.high c.lower_left-low.result c.upper_right-high.result s
    c.loop-stroke-test.true c.stroke-item.is
    (c.lower_left-low.ensures.across ∙ ap (λ z. int_min z s.b.x) c.lower_left.ensures.across)
    (c.lower_left-low.ensures.up ∙ ap (λ z. int_min z s.b.y) c.lower_left.ensures.up)
    (c.upper_right-high.ensures.across ∙ ap (λ z. int_max z s.b.x) c.upper_right.ensures.across)
    (c.upper_right-high.ensures.up ∙ ap (λ z. int_max z s.b.y) c.upper_right.ensures.up)
    c.loop-stroke.invariant

pub returns : goal.returns
returns c = box_of_all c.args.strokes.now c.loop-stroke.stroke-index c.loop-stroke.low c.loop-stroke.high (omega arith) c.loop-stroke.invariant
