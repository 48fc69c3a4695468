-- The invariant of the loop of `leaves_of`.
use Rattle.path_order.proofs.Indexes.{AreLeavesBelow}
use Rattle.path_order.proofs.build.leaves_of.Given as goal

abbrev pub invariant-loop-slot : goal.invariant-loop-slot
invariant-loop-slot l = AreLeavesBelow l.slots l.extents.items l.slot-index
