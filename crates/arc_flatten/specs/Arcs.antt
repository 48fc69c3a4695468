-- Points of an arc of a circle, at even steps of its directions.
use Rattle.std.specs.Prelude.{ℕ, ◌+◌, ◌-◌, ◌*◌, ◌/◌, ◌%◌, List, map, ℤ, ◌+ℤ◌, ◌*ℤ◌}
use Rattle.std.specs.List.{range_with_len}
use Rattle.grid_num.specs.Rounding.{nearest}
use Rattle.arc_flatten.specs.Directions.{direction_of}
use Rattle.arc_flatten.specs.Points.{FinePoint}

-- how many of the 2^22 parts of a turn so many degrees have, rounded down
abbrev pub width_of : ℕ → ℕ
width_of chord = chord * 4194304 / 360

-- the least number of pieces of this width that reach over the span
abbrev pub pieces_of : (span width : ℕ) → ℕ
pieces_of span width = (span + (width - 1)) / width

-- the point of the circle about c of the radius r in the direction u, reduced by whole turns
unfoldable pub circle_point_of : FinePoint → ℤ → ℕ → FinePoint
circle_point_of c r u =
    let way = direction_of (u % 4194304) in
    record { x = c.x +ℤ nearest (r *ℤ way.0) 1073741824; y = c.y +ℤ nearest (r *ℤ way.1) 1073741824 }

-- the points at the ends of the pieces: the span from the direction `from` on, counterclockwise, in so many even steps
unfoldable pub stepped_points : FinePoint → ℤ → (from span pieces : ℕ) → List FinePoint
stepped_points c r from span pieces = map (λ i. circle_point_of c r (from + i * span / pieces)) (range_with_len 0 (pieces + 1))

-- the points of the arc, whose pieces are no wider than so many degrees
unfoldable pub arc_points : FinePoint → ℤ → (from span chord : ℕ) → List FinePoint
arc_points c r from span chord = stepped_points c r from span (pieces_of span (width_of chord))
