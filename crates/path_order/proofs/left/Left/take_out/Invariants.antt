-- The invariant and the measure of the loop of `Left::take_out`.
use Rattle.std.proofs.Common.{◌≡◌, ◌*◌, ◌<◌, ◌≤◌, None, length, set}
use Rattle.path_order.specs.Index.{IsIndex}
use Rattle.path_order.proofs.left.Left.take_out.Given as goal

abbrev pub invariant-loop-node : goal.invariant-loop-node
invariant-loop-node l = record {
  indexed : IsIndex l.self.slots.items l.self.extents.items;
  slots : l.self.slots.items ≡ set l.fn.self.slots.items l.slot None;
  some : 1 ≤ l.node;
  node : l.node < 2 * length l.self.slots.items;
}

abbrev pub decreases-loop-node : goal.decreases-loop-node
decreases-loop-node l = l.node
