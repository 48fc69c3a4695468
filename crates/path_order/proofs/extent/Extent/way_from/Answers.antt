-- Answers the goals of `Extent::way_from`.
use Rattle.std.proofs.Common.{◌-ℤ◌, ◌*ℤ◌, ◌≤ℤ◌, ◌∙◌, subst, sym}
use Rattle.plane_exact.specs.Plane.{IsCoordinate}
use Rattle.path_order.proofs.Gaps.{stored_is, sum_least}
use Rattle.path_order.proofs.extent.Extent.way_from.Goals as goal

pub returns : goal.returns
returns c = λ e holds.
    let m = c.square_gap.result in
    let n = c.square_gap-2.result in
    let place = c.args.place in
    let x = stored_is c.x.result (subst IsCoordinate (sym c.x.ensures.value) c.x.ensures.range.across) ∙ c.x.ensures.value in
    let y = stored_is c.y.result (subst IsCoordinate (sym c.y.ensures.value) c.y.ensures.range.up) ∙ c.y.ensures.value in
    sum_least m n ((e.at.x -ℤ place.x) *ℤ (e.at.x -ℤ place.x)) ((e.at.y -ℤ place.y) *ℤ (e.at.y -ℤ place.y)) c.square_gap.ensures.range c.square_gap-2.ensures.range
    (subst (λ a. m ≤ℤ ((e.at.x -ℤ a) *ℤ (e.at.x -ℤ a))) x (c.square_gap.ensures.least e.at.x holds.across))
    (subst (λ a. n ≤ℤ ((e.at.y -ℤ a) *ℤ (e.at.y -ℤ a))) y (c.square_gap-2.ensures.least e.at.y holds.up))
