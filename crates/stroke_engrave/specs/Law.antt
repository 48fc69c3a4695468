-- What a program along the chains of strokes removes.
use Rattle.std.specs.Prelude.{◌↔◌, ℕ, ◌≤◌, List, Any, IsPermutation}
use Rattle.plane_exact.specs.Nodes.{GridNode}
use Rattle.plane_exact.specs.Plane.{RationalPoint}
use Rattle.plane_exact.specs.declared.point.Seg.{Seg}
use Rattle.engrave_model.specs.Removal.{Removes}
use Rattle.gcode_text.specs.Path.{chain_moves}
use Rattle.gcode_text.specs.declared.job.Job.{Job}
use Rattle.stroke_engrave.specs.Chains.{chains_of}
use Rattle.stroke_engrave.specs.Disc.{IsInStrokes}

-- For all strokes and a depth of at least 1: whatever the safe height and the order of the chains, some moment of some move of their
-- program removes a point exactly where it is in the bit's disc at that depth over some point of some stroke.
abbrev pub StrokesLaw : Type 0
StrokesLaw =
    (job : Job) (depth : ℕ) (strokes : List Seg) (chains : List (List GridNode)) (w : RationalPoint) → 1 ≤ depth → IsPermutation (chains_of depth strokes) chains
    → Any (λ move. Removes job.bit move.mv w) (chain_moves job chains) ↔ IsInStrokes job.bit depth strokes w
