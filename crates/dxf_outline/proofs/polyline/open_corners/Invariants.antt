-- The invariant and the measure of the loop of `open_corners`.
use Rattle.std.proofs.Common.{◌≡◌, ◌++◌, filter_map, length}
use Rattle.dxf_outline.specs.Polyline.{corner_at}
use Rattle.dxf_outline.proofs.polyline.open_corners.Given as goal

abbrev pub invariant-loop-vertex : goal.invariant-loop-vertex
invariant-loop-vertex l = l.corners.items ++ filter_map corner_at l.rest ≡ filter_map corner_at l.vertices

abbrev pub decreases-loop-vertex : goal.decreases-loop-vertex
decreases-loop-vertex l = length l.rest
