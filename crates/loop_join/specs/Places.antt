-- Sets of points, by their coordinates.
use Rattle.std.specs.Prelude.{Bool, ℤ}
use Rattle.std.specs.BTreeSet.{BTreeSet, contains}
use Rattle.std.specs.Ordering.{int_cmp, ordering_then}
use Rattle.std.specs.declared.cmp.Ordering.{Ordering}
use Rattle.plane_exact.specs.Plane.{GridPoint}

-- the order of places: by x, and then by y
abbrev pub place_cmp : ℤ × ℤ → ℤ × ℤ → Ordering
place_cmp p q = ordering_then (int_cmp p.0 q.0) (int_cmp p.1 q.1)

-- the coordinates of a point
abbrev pub place_of : GridPoint → ℤ × ℤ
place_of p = (p.x, p.y)

-- the point is among the places
abbrev pub has_place : BTreeSet (ℤ × ℤ) → GridPoint → Bool
has_place places p = contains place_cmp places (place_of p)
