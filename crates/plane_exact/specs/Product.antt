-- The cross and the dot product of the ways from a grid point to two others.
use Rattle.std.specs.Prelude.{ℤ, pos, ◌+ℤ◌, ◌-ℤ◌, ◌*ℤ◌}
use Rattle.integer_algebra.specs.Ranges.{IsUpTo}
use Rattle.plane_exact.specs.Plane.{GridPoint}

-- (a - o) × (b - o): above 0 where b lies left of the line from o through a, 0 where it lies on it
abbrev pub cross_of : GridPoint → GridPoint → GridPoint → ℤ
cross_of o a b = (a.x -ℤ o.x) *ℤ (b.y -ℤ o.y) -ℤ (a.y -ℤ o.y) *ℤ (b.x -ℤ o.x)

-- (a - o) · (b - o)
abbrev pub dot_of : GridPoint → GridPoint → GridPoint → ℤ
dot_of o a b = (a.x -ℤ o.x) *ℤ (b.x -ℤ o.x) +ℤ (a.y -ℤ o.y) *ℤ (b.y -ℤ o.y)

-- from -65535 to 65535, as the difference of two coordinates is
abbrev pub IsDifference : ℤ → Type 0
IsDifference z = IsUpTo (pos 65535) z

-- from -2 * 65535^2 to 2 * 65535^2, as the products of the ways between grid points are
abbrev pub IsProduct : ℤ → Type 0
IsProduct z = IsUpTo (pos 8589672450) z
