-- Answers the goals of `repeats_a_point`.
use Rattle.std.proofs.Common.{arith}
use Rattle.std.proofs.lemmas.Grind.{common_steps}
use Rattle.std.proofs.lemmas.List.Elements.{AllWithin-more, at_read}
use Rattle.plane_exact.specs.Plane.{IsOnGrid}
use Rattle.loops_text.proofs.drawing.repeats_a_point.Goals as goal

pub loop-point-preserved : goal.loop-point-preserved
loop-point-preserved c = (
  grind (arith, common_steps),
  AllWithin-more (λ p. IsOnGrid p.x p.y) c.in-Some.rest.now 0 c.loop-point.point-index c.loop-point.invariant.1
      (at_read c.in-Some.rest.now (λ p. IsOnGrid p.x p.y) c.loop-point.point-index c.point-item.result c.loop-point-test.true c.point-item.is c.is_same_point.ensures.second),
)
