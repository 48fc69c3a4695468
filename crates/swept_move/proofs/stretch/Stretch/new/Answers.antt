-- Answers the goals of `Stretch::new`.
use Rattle.std.proofs.Common.{ap, arith}
use Rattle.std.proofs.lemmas.Int.{ints}
use Rattle.plane_exact.specs.Plane.{GridPoint}
use Rattle.swept_move.proofs.stretch.Stretch.new.Goals as goal

pub invariant_of-result : goal.invariant_of-result
invariant_of-result c =
    let start = ap (λ (p : GridPoint). p.x) c.point_at.ensures in
    let read = c.from.ensures in
    let on = c.requires.last in
    let first = c.requires.first in
    let order = c.requires.order in
    record { end = record { low = omega (arith, ints); high = omega (arith, ints) } }
