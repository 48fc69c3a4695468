-- The invariant and the measure of the loop of `extents_of`.
use Rattle.std.proofs.Common.{◌≤◌, length}
use Rattle.path_order.specs.Index.{IsIndexFrom}
use Rattle.path_order.proofs.build.extents_of.Given as goal

abbrev pub invariant-loop-node : goal.invariant-loop-node
invariant-loop-node l = record {
  indexed : IsIndexFrom l.node l.slots l.extents.items;
  node : l.node ≤ length l.slots;
}

abbrev pub decreases-loop-node : goal.decreases-loop-node
decreases-loop-node l = l.node
