-- The invariant of the loop of `least_sides`.
use Rattle.std.proofs.Common.{◌≤◌}
use Rattle.segment_grid.proofs.frame.least_sides.Given as goal

abbrev pub invariant-loop-class : goal.invariant-loop-class
invariant-loop-class l = 1 ≤ l.long
