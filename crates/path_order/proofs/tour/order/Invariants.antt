-- The invariant and the measure of the loop of `order`.
use Rattle.std.proofs.Common.{length}
use Rattle.path_order.specs.Left.{IsIndexed, entries_left}
use Rattle.path_order.proofs.Tours.{IsSoFar}
use Rattle.path_order.proofs.tour.order.Given as goal

abbrev pub invariant-loop-number : goal.invariant-loop-number
invariant-loop-number l = record {
  indexed : IsIndexed l.left;
  so_far : IsSoFar l.chains l.order.items (entries_left l.left) l.place;
}

abbrev pub decreases-loop-number : goal.decreases-loop-number
decreases-loop-number l = length (entries_left l.left)
