-- Answers the goals of `Heading::halfway`.
use Rattle.std.proofs.Common.{arith}
use Rattle.arc_flatten.proofs.Circles.{on_circle_range}
use Rattle.arc_flatten.proofs.heading.Heading.halfway.Goals as goal

pub invariant_of-result : goal.invariant_of-result
invariant_of-result c = rw (c.share.ensures.value, c.share-2.ensures.value) (on_circle_range _ _ (omega arith))
