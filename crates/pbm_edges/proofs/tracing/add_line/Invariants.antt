-- The invariant and the measure of the loop of `add_line`.
use Rattle.std.proofs.Common.{◌++◌, ◌-◌}
use Rattle.pbm_edges.specs.Boundary.{segments_on, sides_along}
use Rattle.pbm_edges.proofs.Scan.{IsScanned}
use Rattle.pbm_edges.proofs.tracing.add_line.Given as goal

abbrev pub invariant-loop-i : goal.invariant-loop-i
invariant-loop-i l = IsScanned l.image l.pixel l.line l.segs.items (l.fn.segs.items ++ segments_on l.image l.pixel l.line) l.side l.first l.i

abbrev pub decreases-loop-i : goal.decreases-loop-i
decreases-loop-i l = sides_along l.image l.line - l.i
