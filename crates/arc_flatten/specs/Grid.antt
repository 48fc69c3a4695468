-- Points taken to the grid.
use Rattle.std.specs.Prelude.{◌&&◌, if◌then◌else◌, Option, Some, None}
use Rattle.grid_num.specs.Rounding.{nearest}
use Rattle.plane_exact.specs.Plane.{GridPoint, is_coordinate}
use Rattle.arc_flatten.specs.Points.{FinePoint}

-- the nearest point of the grid, which may be out of range
abbrev pub nearest_point : FinePoint → GridPoint
nearest_point f = record { x = nearest f.x 1000; y = nearest f.y 1000 }

-- the nearest point of the grid, where it is in range
abbrev pub grid_of : FinePoint → Option GridPoint
grid_of f = let p = nearest_point f in if is_coordinate p.x && is_coordinate p.y then Some p else None
