-- The pocket of a drawing: the ways by which the flat floors are milled that the deepest allowed depth leaves.
use Rattle.std.specs.Prelude.{ℕ, ℤ, pos, ◌+ℤ◌, List}
use Rattle.plane_exact.specs.Cone.{Cone}
use Rattle.plane_exact.specs.Nodes.{GridNode}
use Rattle.plane_exact.specs.Plane.{GridPoint}
use Rattle.plane_exact.specs.declared.point.Seg.{Seg}
use Rattle.engrave_model.specs.Depth.{IsGreatestDepth}
use Rattle.engrave_model.specs.Drawing.{edges_of}
use Rattle.swept_move.specs.Clear.{IsClear}
use Rattle.depth_rule.specs.Along.{move_between}
use Rattle.depth_rule.specs.Deepest.{deepest_of}
use Rattle.cleanup_pocket.specs.Floors.{AreFloorChains, node_on, point_on}
use Rattle.cleanup_pocket.specs.declared.axis.Axis.{Axis}
use Rattle.cleanup_pocket.specs.declared.axis.Way.{Way}

-- the place is good: the deepest allowed depth fits there, which is then the greatest
abbrev pub IsGood : List Seg → Cone → (limit : ℕ) → Axis → (line place : ℤ) → Type 0
IsGood edges cone limit axis line place = IsGreatestDepth edges cone limit (point_on axis line place) (deepest_of cone limit)

-- the move at this depth from the place to the next is clear
abbrev pub IsClearWay : List Seg → Cone → (limit : ℕ) → Axis → (line place : ℤ) → Type 0
IsClearWay edges cone limit axis line place =
    IsClear edges cone (move_between (node_on axis line (deepest_of cone limit) place) (node_on axis line (deepest_of cone limit) (place +ℤ pos 1)))

-- the chains of the drawing's pocket
abbrev pub IsPocket : List (List GridPoint) → Cone → (limit over : ℕ) → Way → List (List GridNode) → Type 0
IsPocket loops cone limit over way chains =
    AreFloorChains (IsGood (edges_of loops) cone limit) (IsClearWay (edges_of loops) cone limit) (deepest_of cone limit) loops over way chains
