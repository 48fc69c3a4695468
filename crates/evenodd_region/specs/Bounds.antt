-- The bounding box of a drawing, and where its inside points are.
use Rattle.std.specs.Prelude.{◌≡◌, List, flat_map, ◌*ℤ◌, ◌<ℤ◌, All, Any}
use Rattle.integer_algebra.specs.Ranges.{IsWithin}
use Rattle.plane_exact.specs.Plane.{GridPoint, RationalPoint}
use Rattle.engrave_model.specs.Drawing.{edges_of}
use Rattle.engrave_model.specs.Inside.{IsInside}

-- p is in the box from the lower left corner to the upper right one, its sides among it
pub record IsInBox (low high p : GridPoint) : Type 0 where
  pub across : IsWithin low.x high.x p.x
  pub up : IsWithin low.y high.y p.y

-- all points of the loops
abbrev pub points_of : List (List GridPoint) → List GridPoint
points_of loops = flat_map (λ points. points) loops

-- the least box that holds the points: they are in it, and each of its sides has one
pub record IsBoxOf (points : List GridPoint) (low high : GridPoint) : Type 0 where
  pub within : All (IsInBox low high) points
  pub left : Any (λ p. p.x ≡ low.x) points
  pub right : Any (λ p. p.x ≡ high.x) points
  pub bottom : Any (λ p. p.y ≡ low.y) points
  pub top : Any (λ p. p.y ≡ high.y) points

-- w is in the box, and on none of its sides
pub record IsStrictlyInBox (low high : GridPoint) (w : RationalPoint) : Type 0 where
  pub left : (w.over *ℤ low.x) <ℤ w.x
  pub right : w.x <ℤ (w.over *ℤ high.x)
  pub bottom : (w.over *ℤ low.y) <ℤ w.y
  pub top : w.y <ℤ (w.over *ℤ high.y)

-- For all closed loops: where all points are in a box, each inside point is in it, and on none of its sides.
abbrev pub InsideBoxLaw : Type 0
InsideBoxLaw = (loops : List (List GridPoint)) (low high : GridPoint) (w : RationalPoint) → All (IsInBox low high) (points_of loops)
    → IsInside (edges_of loops) w → IsStrictlyInBox low high w
