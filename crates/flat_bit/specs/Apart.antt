-- Points that keep a distance from the edges of a drawing.
use Rattle.std.specs.Prelude.{ℕ, List, pos}
use Rattle.plane_exact.specs.Distance.{IsCloser}
use Rattle.plane_exact.specs.Plane.{IsBetween, RationalPoint}
use Rattle.plane_exact.specs.declared.point.Seg.{Seg}
use Rattle.engrave_model.specs.Inside.{IsOnOutline}

-- no point of an edge is nearer to v than reach / over
abbrev pub IsApart : List Seg → (reach over : ℕ) → RationalPoint → Type 0
IsApart edges reach over v = (w : RationalPoint) → IsOnOutline edges w → ¬ IsCloser (pos reach) (pos over) v w

-- the same of one edge
abbrev pub IsEdgeApart : (reach over : ℕ) → RationalPoint → Seg → Type 0
IsEdgeApart reach over v e = (w : RationalPoint) → IsBetween e.a e.b w → ¬ IsCloser (pos reach) (pos over) v w
