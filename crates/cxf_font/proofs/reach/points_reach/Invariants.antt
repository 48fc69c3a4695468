-- The invariant and the measure of the loop of `points_reach`.
use Rattle.std.proofs.Common.{◌≡◌, ◌≤◌, ◌+◌, length}
use Rattle.cxf_font.specs.Placing.{farthest}
use Rattle.cxf_font.proofs.reach.points_reach.Given as goal

abbrev pub invariant-loop-p : goal.invariant-loop-p
invariant-loop-p l = record {
  ahead : farthest l.layout 0 l.reach.ahead l.rest ≡ farthest l.layout 0 l.fn.so_far.ahead l.fn.points;
  right : farthest l.layout l.pen l.reach.right l.rest ≡ farthest l.layout l.pen l.fn.so_far.right l.fn.points;
  near : l.reach.ahead ≤ 40000000000000;
  within : l.reach.right ≤ l.pen + 40000000000000;
}

abbrev pub decreases-loop-p : goal.decreases-loop-p
decreases-loop-p l = length l.rest
