-- The invariants of the loops of `edges`.
use Rattle.std.proofs.Common.{◌≡◌, ◌≤◌, ◌+◌, ◌-◌, ◌++◌, [], length}
use Rattle.pbm_edges.specs.Boundary.{boundary_of}
use Rattle.pbm_edges.specs.declared.side.Line.TheVariants.{Across, Up}
use Rattle.pbm_edges.specs.declared.tracing.TheConstants.{MOST_SEGMENTS}
use Rattle.pbm_edges.proofs.Lines.{from_lines}
use Rattle.pbm_edges.proofs.tracing.edges.Given as goal

abbrev pub invariant-loop-rows : goal.invariant-loop-rows
invariant-loop-rows l = record {
  whole : l.segs.items ++ (from_lines l.map l.pixel Across l.rows (l.map.height + 1 - l.rows) ++ from_lines l.map l.pixel Up 0 (l.map.width + 1)) ≡ boundary_of l.map l.pixel;
  few : length l.segs.items ≤ MOST_SEGMENTS;
}

abbrev pub invariant-loop-columns : goal.invariant-loop-columns
invariant-loop-columns l = record {
  whole : l.segs.items ++ (from_lines l.map l.pixel Up l.columns (l.map.width + 1 - l.columns) ++ []) ≡ boundary_of l.map l.pixel;
  few : length l.segs.items ≤ MOST_SEGMENTS;
}
