-- Answers the goals of `Point::upper_right`.
use Rattle.std.proofs.Common.{arith}
use Rattle.std.proofs.lemmas.Int.{ints, clamps}
use Rattle.plane_exact.proofs.point.Point.upper_right.Goals as goal

pub invariant_of-result : goal.invariant_of-result
invariant_of-result c = record {
  across = record { low = omega (arith, ints, clamps); high = omega (arith, ints, clamps) };
  up = record { low = omega (arith, ints, clamps); high = omega (arith, ints, clamps) };
}
