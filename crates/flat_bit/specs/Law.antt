-- What a flat bit mills along the chains of a floor.
use Rattle.std.specs.Prelude.{ℕ, ◌≤◌, List, Any, IsPermutation}
use Rattle.plane_exact.specs.Cone.{Cone}
use Rattle.plane_exact.specs.Nodes.{GridNode}
use Rattle.plane_exact.specs.Plane.{GridPoint, RationalPoint}
use Rattle.engrave_model.specs.Drawing.{edges_of}
use Rattle.gcode_text.specs.Path.{chain_moves}
use Rattle.gcode_text.specs.declared.job.Job.{Job}
use Rattle.cleanup_pocket.specs.declared.axis.Way.{Way}
use Rattle.flat_bit.specs.Flat.{IsFlat}
use Rattle.flat_bit.specs.Left.{AreLevel}
use Rattle.depth_rule.specs.Deepest.{deepest_of}
use Rattle.flat_bit.specs.Target.{Depth, IsInTarget, Mills}

-- Whatever the safe height and the order of the chains, all material that a flat bit of this radius removes at any moment of any move of
-- their program is in the target: the conical bit might remove it without harm.
abbrev pub FloorLaw : Type 0
FloorLaw =
    (loops : List (List GridPoint)) (cone : Cone) (limit radius over : ℕ) (way : Way) (all chains : List (List GridNode)) (job : Job)
    (w : RationalPoint) (depth : Depth) → 1 ≤ cone.sn → 1 ≤ cone.sd → 1 ≤ radius → IsFlat loops cone limit radius over way all → IsPermutation all chains
    → Any (λ move. Mills radius w depth move.mv) (chain_moves job chains) → IsInTarget (edges_of loops) cone limit w depth

-- all nodes of these chains are at the deepest allowed depth
abbrev pub LevelLaw : Type 0
LevelLaw =
    (loops : List (List GridPoint)) (cone : Cone) (limit radius over : ℕ) (way : Way) (all chains : List (List GridNode))
    → IsFlat loops cone limit radius over way all → IsPermutation all chains → AreLevel (deepest_of cone limit) chains
