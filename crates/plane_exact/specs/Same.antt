-- When two points of the grid are one.
use Rattle.std.specs.Prelude.{Bool, ◌&&◌}
use Rattle.std.specs.Ordering.{int_eq}
use Rattle.plane_exact.specs.Plane.{GridPoint}

-- the two points have the same numbers
abbrev pub same_point : GridPoint → GridPoint → Bool
same_point p q = int_eq p.x q.x && int_eq p.y q.y
