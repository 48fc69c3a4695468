-- The invariants of the loop of `side_for`.
use Rattle.std.proofs.Common.{◌≤◌, ◌-◌}
use Rattle.segment_grid.proofs.frame.side_for.Given as goal

abbrev pub invariant-loop-side : goal.invariant-loop-side
invariant-loop-side l = 1 ≤ l.side

abbrev pub decreases-loop-side : goal.decreases-loop-side
decreases-loop-side l = l.length - l.side
