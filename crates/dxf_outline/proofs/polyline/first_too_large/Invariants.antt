-- The invariant and the measure of the loop of `first_too_large`.
use Rattle.std.proofs.Common.{◌≡◌, length}
use Rattle.dxf_outline.specs.Polyline.{first_fault, too_large_of}
use Rattle.dxf_outline.proofs.polyline.first_too_large.Given as goal

abbrev pub invariant-loop-vertex : goal.invariant-loop-vertex
invariant-loop-vertex l = first_fault (too_large_of l.at) l.rest ≡ first_fault (too_large_of l.at) l.vertices

abbrev pub decreases-loop-vertex : goal.decreases-loop-vertex
decreases-loop-vertex l = length l.rest
