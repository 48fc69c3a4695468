-- The invariants of the loop of `base_of`.
use Rattle.std.proofs.Common.{◌≤◌, ◌-◌}
use Rattle.segment_grid.proofs.frame.base_of.Given as goal

abbrev pub invariant-loop-low : goal.invariant-loop-low
invariant-loop-low l = (1 ≤ l.low) × (l.low ≤ l.high)

abbrev pub decreases-loop-low : goal.decreases-loop-low
decreases-loop-low l = l.high - l.low
