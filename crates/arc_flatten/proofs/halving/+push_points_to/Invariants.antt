-- The measure of `push_points_to`.
use Rattle.std.proofs.Common.{length}
use Rattle.arc_flatten.proofs.halving.+push_points_to.Given as goal

abbrev pub decreases-push_points_to : goal.decreases-push_points_to
decreases-push_points_to l = length l.bulges.now
