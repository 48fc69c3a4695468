-- How far a point is from the edges of a drawing.
use Rattle.std.specs.Prelude.{ℕ, List, pos}
use Rattle.plane_exact.specs.Distance.{IsCloser}
use Rattle.plane_exact.specs.Plane.{GridPoint, RationalPoint, rational}
use Rattle.plane_exact.specs.declared.point.Seg.{Seg}
use Rattle.engrave_model.specs.Inside.{IsOnOutline}

-- no point of an edge is nearer to p than r
unfoldable pub IsClearance : List Seg → GridPoint → ℕ → Type 0
IsClearance edges p r = (w : RationalPoint) → IsOnOutline edges w → ¬ IsCloser (pos r) (pos 1) (rational p) w
