-- Answers the goals of `greatest_depth`.
use Rattle.std.proofs.Common.{subst}
use Rattle.engrave_model.specs.Depth.{IsDiscClear}
use Rattle.engrave_model.specs.Drawing.{edges_of}
use Rattle.depth_rule.specs.Greatest.{IsGreatestUpTo}
use Rattle.depth_rule.proofs.DeepestDepths.{deepest_fits}
use Rattle.depth_rule.proofs.depth.greatest_depth.Goals as goal

pub returns-then-is_inside : goal.returns-then-is_inside
returns-then-is_inside c =
    let bit = c.args.bit.now in
    let edges = edges_of c.args.scene.now in
    let deepest = c.deepest.ensures in
    deepest_fits bit c.args.limit deepest.range.slope.low edges c.args.p c.greatest_clear.result (c.is_inside.ensures.0 c.if-is_inside.true)
    (subst (λ most. IsGreatestUpTo (IsDiscClear edges bit c.args.p) most c.greatest_clear.result) deepest.value c.greatest_clear.ensures)
