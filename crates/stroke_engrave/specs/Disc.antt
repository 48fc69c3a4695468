-- The points that the bit cuts at one depth along strokes.
use Rattle.std.specs.Prelude.{ℕ, List, pos, Any}
use Rattle.plane_exact.specs.Cone.{Cone}
use Rattle.plane_exact.specs.Plane.{IsBetween, RationalPoint}
use Rattle.plane_exact.specs.declared.point.Seg.{Seg}
use Rattle.engrave_model.specs.Depth.{IsInDisc}

-- w is in the open disc that the bit cuts at this depth over some point of the stroke
pub record IsNearStroke (cone : Cone) (depth : ℕ) (w : RationalPoint) (stroke : Seg) : Type 0 where
  pub over : RationalPoint
  pub on : IsBetween stroke.a stroke.b over
  pub near : IsInDisc cone over (pos depth) (pos 1) w

-- the same of one of the strokes
abbrev pub IsInStrokes : Cone → (depth : ℕ) → List Seg → RationalPoint → Type 0
IsInStrokes cone depth strokes w = Any (IsNearStroke cone depth w) strokes
