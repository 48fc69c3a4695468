-- The invariants of the loop of `class_of`.
use Rattle.std.proofs.Common.{◌<◌, ◌-◌}
use Rattle.segment_grid.proofs.frame.class_of.Given as goal

abbrev pub invariant-loop-side : goal.invariant-loop-side
invariant-loop-side l = l.class < 9

abbrev pub decreases-loop-side : goal.decreases-loop-side
decreases-loop-side l = 9 - l.class
