-- Distances of rational points, compared with rational numbers.
use Rattle.std.specs.Prelude.{ℤ, ◌+ℤ◌, ◌-ℤ◌, ◌*ℤ◌, ◌≤ℤ◌, ◌<ℤ◌}
use Rattle.plane_exact.specs.Plane.{RationalPoint}

-- a number times itself
abbrev pub square : ℤ → ℤ
square z = z *ℤ z

-- |w - v|^2, times the squares of both denominators
abbrev pub scaled_distance : RationalPoint → RationalPoint → ℤ
scaled_distance v w = square (w.x *ℤ v.over -ℤ v.x *ℤ w.over) +ℤ square (w.y *ℤ v.over -ℤ v.y *ℤ w.over)

-- |w - v| is at least num / den
abbrev pub IsAtLeastApart : ℤ → ℤ → RationalPoint → RationalPoint → Type 0
IsAtLeastApart num den v w = (square num *ℤ square (v.over *ℤ w.over)) ≤ℤ (scaled_distance v w *ℤ square den)

-- |w - v| is below num / den
abbrev pub IsCloser : ℤ → ℤ → RationalPoint → RationalPoint → Type 0
IsCloser num den v w = (scaled_distance v w *ℤ square den) <ℤ (square num *ℤ square (v.over *ℤ w.over))
