-- Rational points as the code keeps them, and the products of two ways to them.
use Rattle.std.specs.Prelude.{ℤ, ◌+ℤ◌, ◌-ℤ◌, ◌*ℤ◌}
use Rattle.plane_exact.specs.Plane.{GridPoint, RationalPoint}
use Rattle.evenodd_region.specs.declared.ratio.RatioPoint.{RatioPoint}

-- the point as definitions see it
abbrev pub rational_of : RatioPoint → RationalPoint
rational_of p = record { x = p.x; y = p.y; over = p.over; positive = p.range.positive }

-- the point with its coordinates exchanged, so that its column is a row
abbrev pub exchanged : RationalPoint → RationalPoint
exchanged w = record { x = w.y; y = w.x; over = w.over; positive = w.positive }

-- (w - a) × (w - b), times the square of w's denominator
abbrev pub turn : RationalPoint → GridPoint → GridPoint → ℤ
turn w a b = (w.x -ℤ w.over *ℤ a.x) *ℤ (w.y -ℤ w.over *ℤ b.y) -ℤ (w.y -ℤ w.over *ℤ a.y) *ℤ (w.x -ℤ w.over *ℤ b.x)

-- (w - a) · (w - b), times the same
abbrev pub facing : RationalPoint → GridPoint → GridPoint → ℤ
facing w a b = (w.x -ℤ w.over *ℤ a.x) *ℤ (w.x -ℤ w.over *ℤ b.x) +ℤ (w.y -ℤ w.over *ℤ a.y) *ℤ (w.y -ℤ w.over *ℤ b.y)
