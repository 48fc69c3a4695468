-- Answers the goals of `offset_from`.
use Rattle.std.proofs.Common.{lit<, sym, subst}
use Rattle.plane_exact.specs.Plane.{IsCoordinate}
use Rattle.plane_exact.proofs.Ranges.{difference_taken}
use Rattle.plane_exact.proofs.product.offset_from.Goals as goal

pub invariant_of-result : goal.invariant_of-result
invariant_of-result c =
    let to_x = subst IsCoordinate (sym c.x.ensures.value) c.x.ensures.range.across in
    let from_x = subst IsCoordinate (sym c.x-2.ensures.value) c.x-2.ensures.range.across in
    let to_y = subst IsCoordinate (sym c.y.ensures.value) c.y.ensures.range.up in
    let from_y = subst IsCoordinate (sym c.y-2.ensures.value) c.y-2.ensures.range.up in
    record { most = lit< tt; across = (difference_taken _ _ to_x from_x).range; up = (difference_taken _ _ to_y from_y).range }
