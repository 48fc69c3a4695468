-- The invariant and the measure of the loop of `first_unreadable`.
use Rattle.std.proofs.Common.{◌≡◌, length}
use Rattle.dxf_outline.specs.Polyline.{first_fault, unreadable_of}
use Rattle.dxf_outline.proofs.polyline.first_unreadable.Given as goal

abbrev pub invariant-loop-vertex : goal.invariant-loop-vertex
invariant-loop-vertex l = first_fault unreadable_of l.rest ≡ first_fault unreadable_of l.vertices

abbrev pub decreases-loop-vertex : goal.decreases-loop-vertex
decreases-loop-vertex l = length l.rest
