-- The invariant and the measure of the loop of `first_lacking`.
use Rattle.std.proofs.Common.{◌≡◌, length}
use Rattle.dxf_outline.specs.Polyline.{first_fault, lacking_of}
use Rattle.dxf_outline.proofs.polyline.first_lacking.Given as goal

abbrev pub invariant-loop-vertex : goal.invariant-loop-vertex
invariant-loop-vertex l = first_fault lacking_of l.rest ≡ first_fault lacking_of l.vertices

abbrev pub decreases-loop-vertex : goal.decreases-loop-vertex
decreases-loop-vertex l = length l.rest
