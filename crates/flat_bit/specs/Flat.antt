-- The ways by which a flat bit mills the floor at the deepest allowed depth.
use Rattle.std.specs.Prelude.{ℕ, ◌+◌, ◌*◌, List, ℤ, pos, ◌+ℤ◌}
use Rattle.plane_exact.specs.Cone.{Cone}
use Rattle.plane_exact.specs.Nodes.{GridNode}
use Rattle.plane_exact.specs.Plane.{GridPoint, IsBetween, RationalPoint, rational}
use Rattle.plane_exact.specs.declared.point.Seg.{Seg}
use Rattle.engrave_model.specs.Drawing.{edges_of}
use Rattle.engrave_model.specs.Inside.{IsInside}
use Rattle.depth_rule.specs.Deepest.{deepest_of}
use Rattle.cleanup_pocket.specs.Floors.{AreFloorChains, point_on}
use Rattle.cleanup_pocket.specs.declared.axis.Axis.{Axis}
use Rattle.cleanup_pocket.specs.declared.axis.Way.{Way}
use Rattle.flat_bit.specs.Apart.{IsApart}

-- How far the axis of a flat bit keeps from the edges, times sd: by its radius, and by the width that the conical bit has at this depth,
-- so that the wall that this one cuts stands.
abbrev pub flat_reach : Cone → (radius depth : ℕ) → ℕ
flat_reach cone radius depth = radius * cone.sd + cone.sn * depth

-- the place is good: it is inside, and that far from every edge
pub record IsFlatGood (edges : List Seg) (cone : Cone) (limit radius : ℕ) (axis : Axis) (line place : ℤ) : Type 0 where
  pub inside : IsInside edges (rational (point_on axis line place))
  pub apart : IsApart edges (flat_reach cone radius (deepest_of cone limit)) cone.sd (rational (point_on axis line place))

-- each point of the way from the place to the next is that far from every edge
abbrev pub IsFlatWay : List Seg → Cone → (limit radius : ℕ) → Axis → (line place : ℤ) → Type 0
IsFlatWay edges cone limit radius axis line place =
    (u : RationalPoint) → IsBetween (point_on axis line place) (point_on axis line (place +ℤ pos 1)) u
    → IsApart edges (flat_reach cone radius (deepest_of cone limit)) cone.sd u

-- the chains along the longest runs of good places that are joined, line by line, at the deepest allowed depth
abbrev pub IsFlat : List (List GridPoint) → Cone → (limit radius over : ℕ) → Way → List (List GridNode) → Type 0
IsFlat loops cone limit radius over way chains =
    AreFloorChains (IsFlatGood (edges_of loops) cone limit radius) (IsFlatWay (edges_of loops) cone limit radius) (deepest_of cone limit) loops over way chains
